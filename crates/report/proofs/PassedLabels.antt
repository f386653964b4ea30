-- Packets that were passed over, label after label.
use Rattle.std.proofs.Common.{◌≡◌, ◌<◌, ◌≤◌, ◌+◌, ◌*◌, ◌^◌, ℕ, List, length, take, get_or, refl, ap, sym, subst, ◌∙◌, arith}
use Rattle.std.specs.Prelude.{sum_by}
use Rattle.std.proofs.lemmas.List.{get_or-map, length-map}
use Rattle.std.proofs.lemmas.List.Sums.{sum_by_more}
use Rattle.traces.specs.declared.accepted.Accepted.{Accepted}
use Rattle.traces.specs.Traces.{Missed}
use Rattle.traces.specs.Held.{missed_by, missed_in, passed_by}
use Rattle.report.specs.declared.view.PassedSums.{PassedSums}
use Rattle.report.specs.Reports.{passed_sums}
use Rattle.report.specs.Inside.{AreOfLabels, sums_with}

same_sums : {a a' b b' c c' : ℕ} → a ≡ a' → b ≡ b' → c ≡ c' → ◌≡◌ {A = PassedSums} (record { simple = a; obsolete = b; other = c }) (record { simple = a'; obsolete = b'; other = c' })
same_sums simple obsolete other = cc

-- what is of some labels is of more
pub more_labels : (m n : ℕ) (s : PassedSums) → m ≤ n → AreOfLabels m s → AreOfLabels n s
more_labels m n s le are =
    let simple = are.simple in
    let obsolete = are.obsolete in
    let other = are.other in
    record { simple = omega (arith, le, simple); obsolete = omega (arith, le, obsolete); other = omega (arith, le, other) }

module _ (accepted : List Accepted) (i : ℕ) (x : Accepted) (inside : i < length accepted) (is : x ≡ get_or accepted i x) where
  missed : Accepted → Missed
  missed a = missed_by a.stream

  within : i < length (missed_in accepted)
  unfolding missed
  within = subst (λ (k : ℕ). i < k) (sym (length-map accepted missed)) inside

  at : get_or (missed_in accepted) i (missed x) ≡ missed x
  unfolding missed
  at = get_or-map missed accepted i x (missed x) inside ∙ ap missed (sym is)

  part : (f : Missed → ℕ) → sum_by f (take (i + 1) (missed_in accepted)) ≡ sum_by f (take i (missed_in accepted)) + f (missed_by x.stream)
  unfolding missed
  part f = sum_by_more f (missed_in accepted) i (missed x) within ∙ ap (λ (m : Missed). sum_by f (take i (missed_in accepted)) + f m) at

  -- the sums with the label at a place are those of the labels before it and its own
  pub label_more : passed_sums (take (i + 1) (missed_in accepted)) ≡ sums_with (passed_sums (take i (missed_in accepted))) (passed_by x.stream)
  label_more = same_sums (part (λ (m : Missed). m.passed.simple)) (part (λ (m : Missed). m.passed.obsolete)) (part (λ (m : Missed). m.passed.other))
