-- What is wrong with a path first.
use Rattle.std.proofs.Common.{◌≡◌, ◌≢◌, ◌≤◌, ◌+◌, ℕ, List, length, take, slice_get, Some, refl, sym, ◌∙◌, ap, subst, arith, inl, inr}
use Rattle.std.specs.Prelude.{ℤ, All}
use Rattle.std.proofs.lemmas.Bool.{cases_lt}
use Rattle.std.proofs.lemmas.Option.{slice_get_within}
use Rattle.problem_model.specs.declared.items.Node.{Node}
use Rattle.problem_model.specs.declared.items.Node.TheVariants as nodes
use Rattle.problem_model.specs.Problem.{ProblemLists, IsWellFormed}
use Rattle.problem_model.specs.Bounds.{Constraint, Declares}
use Rattle.problem_model.proofs.OneName.{declared_one}
use Rattle.problem_model.specs.Solutions.{weight_of}
use Rattle.cert.specs.declared.chain.Step.{Step}
use Rattle.cert.specs.CertificateText.{IsStepOf}
use Rattle.cert.specs.Shows.{weighed_bounds}
use Rattle.cert_check.specs.declared.answer.Part.{Part}
use Rattle.cert_check.specs.declared.answer.Part.TheVariants.{Cycle}
use Rattle.cert_check.specs.declared.answer.Reason.{Reason}
use Rattle.cert_check.specs.declared.answer.Reason.TheVariants.{Weight, Join, Sum}
use Rattle.cert_check.specs.Walks.{entry_of, Goes}
use Rattle.cert_check.specs.Faults.{IsFirstWrong}
use Rattle.cert_check.specs.Reasons.{IsMisweighedAt, HasComeTo, ShouldBeAt, IsAstrayAt, sum_for, PathIs, IsNoLater}
use Rattle.cert_check.proofs.Walking.{take_all}
use Rattle.cert_check.proofs.Joining.{weighs_before, come_one, come_some, joined_before}
use Rattle.cert_check.proofs.Turns.{path_cases, earlier_kind, same_kind, join_turn, weight_turn, sum_turn}

some_same : {X : Type 0} (a b : X) → Some a ≡ Some b → a ≡ b
some_same a b e = cc

-- where a step that is there should be entered
should_there : (p : ProblemLists) (lawful : IsWellFormed p) (part : Part) (first : ℕ) (steps : List Step) (j : ℕ) (s : Step) (c : Constraint) (o : Node) → slice_get steps j ≡ Some s → Declares p s.bound c → ShouldBeAt p part first steps j o → o ≡ entry_of part c
should_there p lawful part first steps j s c o at declares (inl (end, is)) = let inside = slice_get_within steps j s at in absurd (omega (arith, end, inside))
should_there p lawful part first steps j s c o at declares (inr (t, d, (k, next, at'), declares', is)) =
    let here : k ≡ j = omega (arith, next) in
    let same : t ≡ s = some_same t s (sym at' ∙ ap (slice_get steps) here ∙ at) in
    is ∙ ap (entry_of part) (declared_one p lawful s.bound d c (subst (λ (u : Step). Declares p u.bound d) same declares') declares)

module _ (p : ProblemLists) (lawful : IsWellFormed p) (part : Part) (is_path : part ≢ Cycle) (first q : ℕ) (value : ℤ) (steps : List Step) (each : All (IsStepOf p) steps) where
  -- ---- a step astray
  module _ (k j : ℕ) (n : Node) (s : Step) (c : Constraint) (next : k ≡ j + 1) (goes : Goes p part (nodes.Event q) (weighed_bounds (take j steps)) n) (at : slice_get steps j ≡ Some s) (declares : Declares p s.bound c) where
    short : j ≤ length steps
    short = let inside = slice_get_within steps j s at in omega (arith, inside)

    no_earlier_join : (l : ℕ) → l ≤ j → IsAstrayAt p part first q steps l → ⊥
    no_earlier_join l before (i, m, o, after, come, should, differ) = differ (joined_before p lawful part first q n steps j goes short i m o (omega (arith, before, after)) come should)

    no_earlier_weight : (l : ℕ) → l ≤ j → IsMisweighedAt p steps l → ⊥
    no_earlier_weight l before (t, (i, after, at'), weighs) = weighs_before p lawful part (nodes.Event q) n steps j goes i t (omega (arith, before, after)) at' weighs

    pub astray_first : entry_of part c ≢ n → IsFirstWrong part (PathIs p part first q value steps) (Join k)
    astray_first apart = record {
      is_so = (j, n, entry_of part c, next, come_some p lawful part first q n steps j goes short each, inr (s, c, (j, refl, at), declares, refl), λ e. apart (sym e));
      first = path_cases p part first q value steps (IsNoLater part (Join k) part) later_join later_weight (λ sum is so. earlier_kind part (Join k) (Sum sum) (omega arith));
    }
      where
        later_join : (l : ℕ) → IsAstrayAt p part first q steps l → IsNoLater part (Join k) part (Join l)
        later_join l so = elim (cases_lt j l) [
          | inl behind ↦ same_kind part (Join k) (Join l) refl (omega (arith, behind, next, join_turn part k is_path, join_turn part l is_path))
          | inr le ↦ absurd (no_earlier_join l le so)
        ]

        later_weight : (l : ℕ) → IsMisweighedAt p steps l → IsNoLater part (Join k) part (Weight l)
        later_weight l so = elim (cases_lt j l) [
          | inl behind ↦ same_kind part (Join k) (Weight l) refl (omega (arith, behind, next, join_turn part k is_path, weight_turn part l is_path))
          | inr le ↦ absurd (no_earlier_weight l le so)
        ]

    -- ---- a step with another weight
    pub weight_first : entry_of part c ≡ n → c.weight ≢ s.weight → IsFirstWrong part (PathIs p part first q value steps) (Weight k)
    weight_first enters differs = record {
      is_so = (s, (j, next, at), (c, declares, differs));
      first = path_cases p part first q value steps (IsNoLater part (Weight k) part) later_join later_weight (λ sum is so. earlier_kind part (Weight k) (Sum sum) (omega arith));
    }
      where
        no_join_here : (l : ℕ) → l ≡ k → IsAstrayAt p part first q steps l → ⊥
        no_join_here l here (i, m, o, after, come, should, differ) =
            let same : i ≡ j = omega (arith, here, after, next) in
            differ (come_one p lawful part first q n steps j goes m (subst (λ (x : ℕ). HasComeTo p part q steps x m) same come)
            ∙ sym enters ∙ sym (should_there p lawful part first steps j s c o at declares (subst (λ (x : ℕ). ShouldBeAt p part first steps x o) same should)))

        later_join : (l : ℕ) → IsAstrayAt p part first q steps l → IsNoLater part (Weight k) part (Join l)
        later_join l so = elim (cases_lt k l) [
          | inl behind ↦ same_kind part (Weight k) (Join l) refl (omega (arith, behind, weight_turn part k is_path, join_turn part l is_path))
          | inr le ↦ elim (cases_lt l k) [
            | inl before ↦ absurd (no_earlier_join l (omega (arith, before, next)) so)
            | inr le' ↦ absurd (no_join_here l (omega (arith, le, le')) so)
          ]
        ]

        later_weight : (l : ℕ) → IsMisweighedAt p steps l → IsNoLater part (Weight k) part (Weight l)
        later_weight l so = elim (cases_lt j l) [
          | inl behind ↦ same_kind part (Weight k) (Weight l) refl (omega (arith, behind, next, weight_turn part k is_path, weight_turn part l is_path))
          | inr le ↦ absurd (no_earlier_weight l le so)
        ]

  -- ---- all steps
  module _ (n : Node) (goes : Goes p part (nodes.Event q) (weighed_bounds steps) n) where
    whole : Goes p part (nodes.Event q) (weighed_bounds (take (length steps) steps)) n
    whole = subst (λ (l : List Step). Goes p part (nodes.Event q) (weighed_bounds l) n) (sym (take_all steps (length steps) (omega arith))) goes

    pub no_weight : (l : ℕ) → IsMisweighedAt p steps l → ⊥
    no_weight l (t, (i, after, at'), weighs) = weighs_before p lawful part (nodes.Event q) n steps (length steps) whole i t (slice_get_within steps i t at') at' weighs

    no_join_before : (l : ℕ) → l ≤ length steps → IsAstrayAt p part first q steps l → ⊥
    no_join_before l before (i, m, o, after, come, should, differ) = differ (joined_before p lawful part first q n steps (length steps) whole (omega arith) i m o (omega (arith, before, after)) come should)

    pub end_first : n ≢ nodes.Event first → IsFirstWrong part (PathIs p part first q value steps) (Join (length steps + 1))
    end_first apart = record {
      is_so = (length steps, n, nodes.Event first, refl, come_some p lawful part first q n steps (length steps) whole (omega arith) each, inl (refl, refl), apart);
      first = path_cases p part first q value steps (IsNoLater part (Join (length steps + 1)) part) later_join (λ l so. absurd (no_weight l so)) (λ sum is so. earlier_kind part (Join (length steps + 1)) (Sum sum) (omega arith));
    }
      where
        later_join : (l : ℕ) → IsAstrayAt p part first q steps l → IsNoLater part (Join (length steps + 1)) part (Join l)
        later_join l so = elim (cases_lt (length steps) l) [
          | inl behind ↦ same_kind part (Join (length steps + 1)) (Join l) refl (omega (arith, behind, join_turn part (length steps + 1) is_path, join_turn part l is_path))
          | inr le ↦ absurd (no_join_before l le so)
        ]

    end_should : (i : ℕ) (o : Node) → i ≡ length steps → ShouldBeAt p part first steps i o → o ≡ nodes.Event first
    end_should i o end (inl (there, is)) = is
    end_should i o end (inr (t, d, (k, after, at'), declares', is)) = let inside = slice_get_within steps k t at' in absurd (omega (arith, end, after, inside))

    should_within : (i : ℕ) (o : Node) → ShouldBeAt p part first steps i o → i ≤ length steps
    should_within i o (inl (there, is)) = omega (arith, there)
    should_within i o (inr (t, d, (k, after, at'), declares', is)) = let inside = slice_get_within steps k t at' in omega (arith, after, inside)

    pub no_join : n ≡ nodes.Event first → (l : ℕ) → IsAstrayAt p part first q steps l → ⊥
    no_join arrives l so = elim (cases_lt so.0 (length steps)) [
      | inl before ↦ no_join_before l (omega (arith, before, so.3)) so
      | inr le ↦
          let within = should_within so.0 so.2 so.5 in
          let end : so.0 ≡ length steps = omega (arith, le, within) in
          so.6 (come_one p lawful part first q n steps (length steps) whole so.1 (subst (λ (x : ℕ). HasComeTo p part q steps x so.1) end so.4) ∙ arrives ∙ sym (end_should so.0 so.2 end so.5))
    ]

    pub sum_first : n ≡ nodes.Event first → (sum : ℤ) → sum ≡ weight_of (weighed_bounds steps) → sum ≢ sum_for part value → IsFirstWrong part (PathIs p part first q value steps) (Sum sum)
    sum_first arrives sum is differs = record {
      is_so = (is, differs);
      first = path_cases p part first q value steps (IsNoLater part (Sum sum) part) (λ l so. absurd (no_join arrives l so)) (λ l so. absurd (no_weight l so)) (λ other is' so. same_kind part (Sum sum) (Sum other) refl (omega (arith, sum_turn part sum)));
    }

-- a path that leads there with that sum has no fault
pub path_sound : (p : ProblemLists) (part : Part) (first q : ℕ) (value : ℤ) (steps : List Step) → IsWellFormed p → part ≢ Cycle → All (IsStepOf p) steps → Goes p part (nodes.Event q) (weighed_bounds steps) (nodes.Event first)
    → weight_of (weighed_bounds steps) ≡ sum_for part value → (r : Reason) → PathIs p part first q value steps r → ⊥
path_sound p part first q value steps lawful is_path each goes sums = path_cases p part first q value steps (λ r. ⊥)
    (no_join p lawful part is_path first q value steps each (nodes.Event first) goes refl)
    (no_weight p lawful part is_path first q value steps each (nodes.Event first) goes)
    (λ sum is differs. differs (is ∙ sums))
