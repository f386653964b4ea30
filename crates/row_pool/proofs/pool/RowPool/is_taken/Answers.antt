use Rattle.std.proofs.Common.{rules, ◌≡◌, IsTrue, Bool, true, false, ◌∙◌, slice_index_or, IsTrue}
use Rattle.row_pool.proofs.Regions.{flag_is}
use Rattle.row_pool.proofs.pool.RowPool.is_taken.Goals as goal

same_flag : (b t : Bool) → b ≡ t → (IsTrue b → t ≡ true) × (t ≡ true → IsTrue b)
same_flag true true e = search rules
same_flag true false e = absurd cc
same_flag false true e = absurd cc
same_flag false false e = search rules

pub returns : goal.returns
returns c =
    let e : c.unwrap_or.result ≡ slice_index_or c.self.inside.taken.items c.id.inside.number false = search rules in
    same_flag _ _ (e ∙ flag_is c.self.inside.width c.self.inside.taken.items c.self.inside.cells.items _ _ _ c.self.view_is c.id.view_is)
