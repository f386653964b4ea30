use Rattle.std.proofs.Common.{◌≡◌, Some, None, position, not, true, sym, ap, ◌∙◌, ◌<◌, length}
use Rattle.std.proofs.lemmas.List.Quantifiers.{position-Some}
use Rattle.row_pool.proofs.Regions.{none_free, free_here, marked_cut}
use Rattle.row_pool.specs.Pool.{marked}
use Rattle.row_pool.proofs.pool.RowPool.take.Goals as goal

pub returns-in-None-clause-none : goal.returns-in-None-clause-none
returns-in-None-clause-none c =
    let found : position (λ b. not b) c.self.inside.taken.items ≡ None = ap (position (λ b. not b)) (sym c.deref.ensures.value) ∙ sym c.in-None.ensures in
    none_free _ _ c.self.inside.cells.items _ c.self.view_is found

pub returns-in-Some-clause-free : goal.returns-in-Some-clause-free
returns-in-Some-clause-free c =
    let found : position (λ b. not b) c.self.inside.taken.items ≡ Some c.in-Some.number = ap (position (λ b. not b)) (sym c.deref.ensures.value) ∙ sym c.in-Some.ensures in
    free_here _ _ c.self.inside.cells.items _ _ c.self.view_is found

pub returns-in-Some-clause-taken : goal.returns-in-Some-clause-taken
returns-in-Some-clause-taken c =
    let found : position (λ b. not b) c.self.inside.taken.items ≡ Some c.in-Some.number = ap (position (λ b. not b)) (sym c.deref.ensures.value) ∙ sym c.in-Some.ensures in
    let below : c.in-Some.number < length c.self.inside.taken.items = (position-Some (λ b. not b) c.self.inside.taken.items c.in-Some.number true found).0 in
    marked_cut c.self.inside.width c.self.inside.taken.items c.self.inside.cells.items c.in-Some.number true below ∙ ap (λ x. marked x c.in-Some.number true) c.self.view_is
