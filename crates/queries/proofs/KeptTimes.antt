-- A clock that is never short or long tells one time by each of its readings.
use Rattle.std.proofs.Common.{◌≡◌, ◌+◌, ◌-◌, ◌*◌, ◌<◌, ◌≤◌, ◌∷◌, [], inl, inr, ℕ, List, refl, sym, ◌∙◌, ap, subst, codes, arith}
use Rattle.std.specs.Prelude.{ℤ, pos, neg_ℤ, ◌+ℤ◌, ◌-ℤ◌, ◌≤ℤ◌, ◌<ℤ◌}
use Rattle.std.proofs.lemmas.Int.{ints}
use Rattle.std.proofs.lemmas.Bool.{cases_lt}
use Rattle.atto.specs.Span.{least_of, most_of}
use Rattle.line_format.specs.Words.{line_of}
use Rattle.problem_model.specs.declared.items.Clock.{Clock}
use Rattle.problem_model.specs.declared.items.Node.{Node}
use Rattle.problem_model.specs.declared.items.Node.TheVariants as nodes
use Rattle.problem_model.specs.declared.items.Bound.TheVariants.{SpanMost, SpanLeast}
use Rattle.problem_model.specs.Problem.{ProblemLists}
use Rattle.problem_model.specs.Bounds.{Times, ClockAt, IsReading, IsExecution}
use Rattle.row_pool.specs.declared.cell.Pair.{Pair}
use Rattle.intervals.specs.declared.ends.End.{End}
use Rattle.intervals.specs.declared.ends.End.TheVariants.{At, Unbounded}
use Rattle.intervals.specs.declared.ends.Ends.{Ends}
use Rattle.intervals.specs.Ends.{ends_of, shifted}
use Rattle.intervals.specs.Executions.{IsPairOf, time_by, IsGreatestEnd, IsLeastEnd, AreEndsOf}
use Rattle.intervals.proofs.Times.{source_ends}
use Rattle.queries.specs.Clocks.{KeepsTime}
use Rattle.queries.specs.Words.{end_word}
use Rattle.queries.specs.Replies.{IsTimeLine}

-- ---- times that are the same in every execution
module _ (p : ProblemLists) (time other : Times → ℤ) (same : (x : Times) → IsExecution p x → time x ≡ other x) where
  greatest_same : (e : End) → IsGreatestEnd p time e → IsGreatestEnd p other e
  greatest_same (At h) is = record {
    attained = (is.attained.0, is.attained.1, sym (same is.attained.0 is.attained.1) ∙ is.attained.2);
    most = λ x e. subst (λ (v : ℤ). v ≤ℤ h) (same x e) (is.most x e);
  }
  greatest_same Unbounded past = λ h. ((past h).0, (past h).1, subst (λ (v : ℤ). h <ℤ v) (same (past h).0 (past h).1) (past h).2)

  least_same : (e : End) → IsLeastEnd p time e → IsLeastEnd p other e
  least_same (At h) is = record {
    attained = (is.attained.0, is.attained.1, sym (same is.attained.0 is.attained.1) ∙ is.attained.2);
    least = λ x e. subst (λ (v : ℤ). h ≤ℤ v) (same x e) (is.least x e);
  }
  least_same Unbounded past = λ h. ((past h).0, (past h).1, subst (λ (v : ℤ). v <ℤ h) (same (past h).0 (past h).1) (past h).2)

  pub ends_same : (e : Ends) → AreEndsOf p time e → AreEndsOf p other e
  ends_same e are = record { below = least_same e.least are.below; above = greatest_same e.greatest are.above }

-- ---- spans
exact : (a b : ℤ) (most least span : ℕ) → most ≡ span → least ≡ span → (b -ℤ a) ≤ℤ pos most → (a -ℤ b) ≤ℤ neg_ℤ (pos least) → b -ℤ a ≡ pos span
exact a b most least span most_is least_is above below = omega (arith, ints)

whole : (s t : ℕ) → s < t → (t - s) * 1000000000 + s * 1000000000 ≡ t * 1000000000
whole s t lt = omega (arith, lt)

meet : (a b n : ℤ) (first second span : ℕ) → span + first ≡ second → b -ℤ a ≡ pos span → pos first +ℤ (n -ℤ a) ≡ pos second +ℤ (n -ℤ b)
meet a b n first second span sum is = omega (arith, ints)

equal : (s t : ℕ) → s ≤ t → t ≤ s → s ≡ t
equal s t le ge = omega (arith, le, ge)

module _ (p : ProblemLists) (clock : ℕ) (c : Clock) (at : ClockAt p clock c) (short : c.rate.short ≡ 0) (long : c.rate.long ≡ 0) (x : Times) (e : IsExecution p x) where
  spans : (s t : ℕ) → IsReading p clock s → IsReading p clock t → s < t → x (nodes.Reading clock t) -ℤ x (nodes.Reading clock s) ≡ pos ((t - s) * 1000000000)
  spans s t is is' lt =
      exact (x (nodes.Reading clock s)) (x (nodes.Reading clock t)) (most_of c.rate (t - s)) (least_of c.rate (t - s)) ((t - s) * 1000000000)
      (ap (λ (n : ℕ). (t - s) * (1000000000 + n)) long)
      (ap (λ (n : ℕ). (t - s) * (1000000000 - n)) short)
      (e (SpanMost clock s t) _ (c, at, is, is', lt, refl))
      (e (SpanLeast clock s t) _ (c, at, is, is', lt, refl))

  later : (node : Node) (s t : ℕ) → IsReading p clock s → IsReading p clock t → s < t → time_by clock s node x ≡ time_by clock t node x
  later node s t is is' lt =
      meet (x (nodes.Reading clock s)) (x (nodes.Reading clock t)) (x node) (s * 1000000000) (t * 1000000000) ((t - s) * 1000000000) (whole s t lt) (spans s t is is' lt)

  pub one_time : (node : Node) (s t : ℕ) → IsReading p clock s → IsReading p clock t → time_by clock s node x ≡ time_by clock t node x
  one_time node s t is is' = elim (cases_lt s t) [
    | inl lt ↦ later node s t is is' lt
    | inr ge ↦ elim (cases_lt t s) [
      | inl gt ↦ sym (later node t s is' is gt)
      | inr le ↦ ap (λ (stamp : ℕ). time_by clock stamp node x) (equal s t le ge)
    ]
  ]

-- ---- the line
module _ (p : ProblemLists) (clock stamp event : ℕ) (keeps : KeepsTime p clock) (reads : IsReading p clock stamp) where
  pub by_each : (e : Ends) → AreEndsOf p (time_by clock stamp (nodes.Event event)) e → (other : ℕ) → IsReading p clock other → AreEndsOf p (time_by clock other (nodes.Event event)) e
  by_each e are other reads' =
      ends_same p (time_by clock stamp (nodes.Event event)) (time_by clock other (nodes.Event event))
      (λ x execution. one_time p clock keeps.0 keeps.1 keeps.2 keeps.3 x execution (nodes.Event event) stamp other reads reads') e are

  pub time_shows : (pair : Pair) → IsPairOf p (nodes.Reading clock stamp) (nodes.Event event) pair → (ends : Ends) → ends ≡ shifted (pos (stamp * 1000000000)) (ends_of pair)
      → (text : List ℕ) → text ≡ line_of (codes "time" ∷ end_word (codes "-inf") ends.least ∷ end_word (codes "+inf") ends.greatest ∷ []) → IsTimeLine p clock event text
  time_shows pair is ends ends_is text line =
      (ends, by_each ends (subst (λ (e : Ends). AreEndsOf p (time_by clock stamp (nodes.Event event)) e) (sym ends_is) (source_ends p clock stamp (nodes.Event event) pair is)), line)
