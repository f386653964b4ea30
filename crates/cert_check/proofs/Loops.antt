-- A verdict over what is left of a list of bounds becomes the verdict over the whole.
use Rattle.std.proofs.Common.{◌≡◌, List, [], ◌++◌, sym, subst, append_assoc}
use Rattle.std.specs.List.{flat_map}
use Rattle.std.proofs.lemmas.List.Elements.{All-nil}
use Rattle.problem_model.specs.declared.items.Bound.{Bound}
use Rattle.problem_model.specs.Problem.{ProblemLists, IsWellFormed}
use Rattle.problem_model.specs.Bounds.{Times}
use Rattle.problem_model.specs.Nodes.{Reading, AreReadings}
use Rattle.problem_model.specs.ShortList.{ObeysNamed, span_bounds, event_bounds, follow_bounds, message_bounds, short_list}
use Rattle.problem_model.proofs.Following.{chained_by}
use Rattle.problem_model.proofs.Sufficing.{suffices}
use Rattle.cert_check.specs.declared.verdict.Verdict.{Verdict}
use Rattle.cert_check.specs.declared.verdict.Verdict.TheVariants as verdicts
use Rattle.cert_check.specs.Reasons.{joining_bounds}
use Rattle.cert_check.specs.Verdict.{Judges, IsVerdict}
use Rattle.cert_check.proofs.Judging.{judges_on, judges_first}

module _ (p : ProblemLists) (x : Times) (whole here : List Bound) (lead : (v : Verdict) → Judges p x here v → Judges p x whole v) where
  pub on : (piece next : List Bound) → here ≡ piece ++ next → Judges p x piece verdicts.Obeys → (v : Verdict) → Judges p x next v → Judges p x whole v
  on piece next is all v judged = lead v (subst (λ (bounds : List Bound). Judges p x bounds v) (sym is) (judges_on p x piece next v all judged))

  pub out : (piece next : List Bound) → here ≡ piece ++ next → (v : Verdict) → (v ≡ verdicts.Obeys → ⊥) → Judges p x piece v → Judges p x whole v
  out piece next is v broken judged = lead v (subst (λ (bounds : List Bound). Judges p x bounds v) (sym is) (judges_first p x piece next v broken judged))

  pub done : here ≡ [] → Judges p x whole verdicts.Obeys
  done is = lead verdicts.Obeys (subst (λ (bounds : List Bound). Judges p x bounds verdicts.Obeys) (sym is) (All-nil (ObeysNamed p x)))

-- ---- the short list whole
pub whole_verdict : (p : ProblemLists) (x : Times) (readings : List Reading) (v : Verdict) → IsWellFormed p → AreReadings p readings
    → Judges p x (span_bounds readings ++ event_bounds 0 p.events ++ joining_bounds p readings) v → IsVerdict p x v
whole_verdict p x readings v formed are judged =
    let parts = append_assoc (span_bounds readings ++ event_bounds 0 p.events) (follow_bounds p.follows readings 0 p.clocks) (flat_map message_bounds p.messages) in
    whole v (subst (λ (bounds : List Bound). Judges p x bounds v) (sym parts) judged)
  where
    whole : (v : Verdict) → Judges p x (short_list p readings) v → IsVerdict p x v
    whole verdicts.Obeys all = (suffices p x (chained_by p formed) readings are).0 all
    whole (verdicts.Broken b w d) first = (readings, are, first)
