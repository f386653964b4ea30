use Rattle.std.proofs.Common.{◌+◌, ◌*◌, ◌≡◌, ◌-◌, length, arith, ap, take, drop, refl, ◌∙◌}
use Rattle.row_pool.proofs.Regions.{row_bounds, row_range}
use Rattle.row_pool.proofs.pool.RowPool.row.Goals as goal

pub slice_bounds-result-end : goal.slice_bounds-result-end
slice_bounds-result-end c =
    let e : length c.deref.result.now ≡ length c.self.inside.cells.items = ap length c.deref.ensures.value in
    let within = row_bounds _ _ c.self.inside.cells _ _ _ c.self.invariant c.self.view_is c.id.view_is c.requires in
    omega (arith, within)

pub returns-clause-value : goal.returns-clause-value
returns-clause-value c =
    ap (λ xs. take (c.id.inside.number * c.self.inside.width + c.self.inside.width - c.id.inside.number * c.self.inside.width) (drop (c.id.inside.number * c.self.inside.width) xs)) c.deref.ensures.value
    ∙ row_range _ _ c.self.inside.cells _ _ _ c.self.invariant c.self.view_is c.id.view_is c.requires _ refl
