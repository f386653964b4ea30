-- Events of one clock that have the same bounds of their own, or none, are as near their readings as each other.
use Rattle.std.proofs.Common.{◌≡◌, ℕ, slice_get, Option, Some, None, sym, ◌∙◌, ap, arith}
use Rattle.std.proofs.lemmas.Option.{same_Some}
use Rattle.problem_model.specs.declared.items.Clock.{Clock}
use Rattle.problem_model.specs.declared.items.Event.{Event}
use Rattle.problem_model.specs.declared.items.StampBounds.{StampBounds}
use Rattle.problem_model.specs.Problem.{ProblemLists}
use Rattle.problem_model.specs.Bounds.{EventAt, early_of, late_of}
use Rattle.thinning.specs.Thinning.{IsAsNear}

abbrev early_in : Clock → Option StampBounds → ℕ
early_in c own = elim own [ None ↦ c.early | Some o ↦ o.early ]

abbrev late_in : Clock → Option StampBounds → ℕ
late_in c own = elim own [ None ↦ c.late | Some o ↦ o.late ]

pub near_alike : (p : ProblemLists) (d e : ℕ) (v w : Event) → EventAt p d v → EventAt p e w → v.clock ≡ w.clock → v.bounds ≡ w.bounds → IsAsNear p d e
near_alike p d e v w here there clock own v' w' b c here' there' on on' =
    let first : v ≡ v' = same_Some v v' (sym here ∙ here') in
    let second : w ≡ w' = same_Some w w' (sym there ∙ there') in
    let clocks : v'.clock ≡ w'.clock = ap (λ (u : Event). u.clock) (sym first) ∙ clock ∙ ap (λ (u : Event). u.clock) second in
    let bounds : v'.bounds ≡ w'.bounds = ap (λ (u : Event). u.bounds) (sym first) ∙ own ∙ ap (λ (u : Event). u.bounds) second in
    let same : b ≡ c = same_Some b c (sym on ∙ (ap (slice_get p.clocks) clocks ∙ on')) in
    let early : early_of b v' ≡ early_of c w' = ap (λ (k : Clock). early_in k v'.bounds) same ∙ ap (early_in c) bounds in
    let late : late_of b v' ≡ late_of c w' = ap (λ (k : Clock). late_in k v'.bounds) same ∙ ap (late_in c) bounds in
    (omega (arith, early), omega (arith, late))
