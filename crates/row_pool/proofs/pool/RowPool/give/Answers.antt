use Rattle.std.proofs.Common.{rules, ◌≡◌, length, arith, vec_len, false}
use Rattle.row_pool.proofs.Regions.{inside, row_marked}
use Rattle.row_pool.proofs.pool.RowPool.give.Goals as goal

pub index_mut-requires : goal.index_mut-requires
index_mut-requires c =
    let e : vec_len c.self.inside.taken ≡ length c.self.inside.taken.items = search rules in
    let below = inside _ _ c.self.inside.cells _ _ _ c.self.invariant c.self.view_is c.id.view_is c.requires in
    omega (arith, below)

pub returns : goal.returns
returns c = row_marked _ _ c.self.inside.cells _ _ _ c.self.invariant c.self.view_is c.id.view_is c.requires false
