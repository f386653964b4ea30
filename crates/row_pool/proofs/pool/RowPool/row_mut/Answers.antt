use Rattle.std.proofs.Common.{rules, ◌≡◌, length, arith, ap, ◌∙◌, refl, vec_len}
use Rattle.row_pool.proofs.Regions.{row_bounds, row_range, row_wide, row_written}
use Rattle.row_pool.proofs.pool.RowPool.row_mut.Goals as goal

pub slice_mut-requires-clause-in_bounds : goal.slice_mut-requires-clause-in_bounds
slice_mut-requires-clause-in_bounds c =
    let e : vec_len c.self.inside.cells ≡ length c.self.inside.cells.items = search rules in
    let within = row_bounds _ _ c.self.inside.cells _ _ _ c.self.invariant c.self.view_is c.id.view_is c.requires in
    omega (arith, within)

pub returns : goal.returns
returns c =
    let value = c.slice_mut.ensures.value ∙ row_range _ _ c.self.inside.cells _ _ _ c.self.invariant c.self.view_is c.id.view_is c.requires _ refl in (
      (refl, row_written _ _ c.self.inside.cells _ _ _ c.self.invariant c.self.view_is c.id.view_is c.requires),
      record {
        writes_back = tt;
        value = value;
        width = ap length value ∙ row_wide _ _ c.self.inside.cells _ _ _ c.self.invariant c.self.view_is c.id.view_is c.requires;
      },
    )
