use Rattle.std.proofs.Common.{◌≡◌, ◌≢◌, length, arith, sym, ap, ◌∙◌}
use Rattle.row_pool.proofs.Regions.{row_bounds}
use Rattle.row_pool.proofs.TwoRows.{rows_apart, takes_parts, writes_two}
use Rattle.row_pool.proofs.pool.RowPool.two_mut.Goals as goal

pub write_both-requires-clause-first : goal.write_both-requires-clause-first
write_both-requires-clause-first g c =
    let e : length c.deref_mut.result.now ≡ length c.self.inside.cells.items = ap length c.deref_mut.ensures.value in
    let within = row_bounds _ _ c.self.inside.cells _ _ _ c.self.invariant c.self.view_is c.first.view_is c.requires.first in
    omega (arith, within, e)

pub write_both-requires-clause-second : goal.write_both-requires-clause-second
write_both-requires-clause-second g c =
    let e : length c.deref_mut.result.now ≡ length c.self.inside.cells.items = ap length c.deref_mut.ensures.value in
    let within = row_bounds _ _ c.self.inside.cells _ _ _ c.self.invariant c.self.view_is c.second.view_is c.requires.second in
    omega (arith, within, e)

pub write_both-requires-clause-apart : goal.write_both-requires-clause-apart
write_both-requires-clause-apart g c =
    let differ : c.first.inside.number ≢ c.second.inside.number = λ same. c.requires.apart (sym c.first.view_is ∙ same ∙ c.second.view_is) in
    rows_apart c.first.inside.number c.second.inside.number c.self.inside.width differ

pub write_both-requires-clause-callable : goal.write_both-requires-clause-callable
write_both-requires-clause-callable g c =
    takes_parts _ _ c.self.inside.cells _ _ _ _ _ c.self.invariant c.self.view_is c.first.view_is c.second.view_is c.requires.first c.requires.second g.F.FnOnce c.args.write _ c.deref_mut.ensures.value c.requires.callable

pub returns : goal.returns
returns g c =
    writes_two _ _ c.self.inside.cells _ _ _ _ _ c.self.invariant c.self.view_is c.first.view_is c.second.view_is c.requires.first c.requires.second g.F.FnOnce c.args.write _ _ c.deref_mut.ensures.value c.write_both.ensures
