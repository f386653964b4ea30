-- Packets that were dropped, label after label.
use Rattle.std.proofs.Common.{◌≡◌, ◌<◌, ◌+◌, ℕ, suc, List, [], ◌∷◌, ◌++◌, length, take, get_or, map, refl, ap, sym, subst, ◌∙◌, arith, append_assoc}
use Rattle.std.specs.Prelude.{zero}
use Rattle.std.proofs.lemmas.List.{append-nil, get_or-map, length-map}
use Rattle.decl.specs.declared.items.Label.{Label}
use Rattle.traces.specs.declared.accepted.Accepted.{Accepted}
use Rattle.traces.specs.Traces.{Missed}
use Rattle.traces.specs.Held.{dropped_by, missed_by, missed_in}
use Rattle.report.specs.Report.{ReportedDrops}
use Rattle.report.specs.Reports.{drops_of, drops_under}

-- the labels with one more are those before it, and it
drops_next : (labels : List Label) (missed : List Missed) (k : ℕ) (l : Label) (m : Missed) → k < length labels → k < length missed
    → drops_of (take (suc k) labels) (take (suc k) missed) ≡ drops_of (take k labels) (take k missed) ++ drops_under (get_or labels k l) (get_or missed k m).dropped
drops_next [] missed k l m here there = absurd (omega (arith, here))
drops_next (x ∷ xs) [] k l m here there = absurd (omega (arith, there))
drops_next (x ∷ xs) (y ∷ ys) zero l m here there = append-nil (drops_under x y.dropped)
drops_next (x ∷ xs) (y ∷ ys) (suc k) l m here there =
    ap (λ (ds : List ReportedDrops). drops_under x y.dropped ++ ds) (drops_next xs ys k l m (omega (arith, here)) (omega (arith, there)))
    ∙ sym (append_assoc (drops_under x y.dropped) (drops_of (take k xs) (take k ys)) (drops_under (get_or xs k l) (get_or ys k m).dropped))

module _ (accepted : List Accepted) (labels : List Label) (i : ℕ) (x : Accepted) (l : Label) (inside : i < length accepted) (same : length accepted ≡ length labels) (is : x ≡ get_or accepted i x) (own : l ≡ get_or labels i l) where
  missed : Accepted → Missed
  missed a = missed_by a.stream

  within : i < length (missed_in accepted)
  unfolding missed
  within = subst (λ (k : ℕ). i < k) (sym (length-map accepted missed)) inside

  at : get_or (missed_in accepted) i (missed_by x.stream) ≡ missed_by x.stream
  unfolding missed
  at = get_or-map missed accepted i x (missed x) inside ∙ ap missed (sym is)

  before : List ReportedDrops
  before = drops_of (take i labels) (take i (missed_in accepted))

  -- the labels up to a place are those before it, and its own
  pub drops_on : drops_of (take (i + 1) labels) (take (i + 1) (missed_in accepted)) ≡ drops_of (take i labels) (take i (missed_in accepted)) ++ drops_under l (dropped_by x.stream)
  unfolding before
  drops_on =
      let on : i + 1 ≡ suc i = omega arith in
      let here : i < length labels = subst (λ (k : ℕ). i < k) same inside in
      ap (λ (n : ℕ). drops_of (take n labels) (take n (missed_in accepted))) on
      ∙ drops_next labels (missed_in accepted) i l (missed_by x.stream) here within
      ∙ ap (λ (d : Label). before ++ drops_under d (get_or (missed_in accepted) i (missed_by x.stream)).dropped) (sym own)
      ∙ ap (λ (m : Missed). before ++ drops_under l m.dropped) at
