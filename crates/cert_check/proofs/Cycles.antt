-- What is wrong with a cycle first.
use Rattle.std.proofs.Common.{◌≡◌, ◌≢◌, ◌<◌, ◌≤◌, ◌+◌, ℕ, zero, suc, List, [], ◌∷◌, length, take, slice_get, Some, refl, sym, ◌∙◌, ap, subst, arith, inl, inr}
use Rattle.std.specs.Prelude.{ℤ, pos, ◌≤ℤ◌, ◌<ℤ◌, All}
use Rattle.std.proofs.lemmas.Int.{ints}
use Rattle.std.proofs.lemmas.Bool.{cases_lt}
use Rattle.std.proofs.lemmas.Option.{slice_get_within}
use Rattle.problem_model.specs.declared.items.Node.{Node}
use Rattle.problem_model.specs.Problem.{ProblemLists, IsWellFormed}
use Rattle.problem_model.specs.Bounds.{Constraint, Declares}
use Rattle.problem_model.proofs.OneName.{declared_one}
use Rattle.problem_model.specs.Solutions.{WeighedBound, Leads, weight_of, IsContradictionOf}
use Rattle.cert.specs.declared.chain.Step.{Step}
use Rattle.cert.specs.CertificateText.{IsStepOf}
use Rattle.cert.specs.Shows.{weighed_bounds}
use Rattle.cert_check.specs.declared.answer.Part.TheVariants.{Cycle}
use Rattle.cert_check.specs.declared.answer.Reason.{Reason}
use Rattle.cert_check.specs.declared.answer.Reason.TheVariants.{Weight, Join, Sum}
use Rattle.cert_check.specs.Walks.{Goes}
use Rattle.cert_check.specs.Faults.{IsFirstWrong}
use Rattle.cert_check.specs.Reasons.{IsMisweighedAt, IsLooseAt, CycleIs, IsNoLater}
use Rattle.cert_check.proofs.Walking.{take_all}
use Rattle.cert_check.proofs.Joining.{weighs_before, joins_before, begins_before, comes_there, stays_there, step_there}
use Rattle.cert_check.proofs.Turns.{cycle_cases, earlier_kind, same_kind}

some_same : {X : Type 0} (a b : X) → Some a ≡ Some b → a ≡ b
some_same a b e = cc

no_step : (steps : List Step) (j : ℕ) (s : Step) → slice_get steps j ≡ Some s → steps ≡ [] → ⊥
no_step steps j s at none = let inside = slice_get_within steps j s at in let long = ap length none in omega (arith, inside, long)

-- ---- along bounds a walk is a chain that leads
pub leads_of : (p : ProblemLists) (m n : Node) (steps : List WeighedBound) → Goes p Cycle m steps n → Leads p m steps n
leads_of p m n [] goes = goes
leads_of p m n (s ∷ steps) goes = (goes.0, goes.1, goes.2, goes.3, leads_of p goes.0.to n steps goes.4)

pub goes_of : (p : ProblemLists) (m n : Node) (steps : List WeighedBound) → Leads p m steps n → Goes p Cycle m steps n
goes_of p m n [] leads = leads
goes_of p m n (s ∷ steps) leads = (leads.0, leads.1, leads.2, leads.3, goes_of p leads.0.to n steps leads.4)

-- ---- no steps
module _ (p : ProblemLists) (lawful : IsWellFormed p) (steps : List Step) (each : All (IsStepOf p) steps) (m : Node) where
  -- ---- after the first steps
  module _ (n : Node) (j : ℕ) (goes : Goes p Cycle m (weighed_bounds (take j steps)) n) (short : j ≤ length steps) where
    no_loose_before : (l : ℕ) → l < j → IsLooseAt p steps l → ⊥
    no_loose_before l below (s, t, c, d, (i, after, at), inl (k, after', at'), declares, declares', differ) =
        let next : k ≡ suc i = omega (arith, after, after') in
        differ (joins_before p lawful Cycle m n steps j goes i s t c d (omega (arith, below, after)) at (subst (λ (x : ℕ). slice_get steps x ≡ Some t) next at') declares declares')
    no_loose_before l below (s, t, c, d, (i, after, at), inr (end, at'), declares, declares', differ) = absurd (omega (arith, below, short, end))

    no_weight_before : (l : ℕ) → l ≤ j → IsMisweighedAt p steps l → ⊥
    no_weight_before l before (t, (i, after, at), weighs) = weighs_before p lawful Cycle m n steps j goes i t (omega (arith, before, after)) at weighs

  -- ---- a step astray
  module _ (k j : ℕ) (n : Node) (s : Step) (c : Constraint) (next : k ≡ j + 1) (goes : Goes p Cycle m (weighed_bounds (take j steps)) n) (at : slice_get steps j ≡ Some s) (declares : Declares p s.bound c) where
    inside : j < length steps
    inside = slice_get_within steps j s at

    -- the walk begins where the first step does, so this one is another
    not_first : (f : Step) (a : Constraint) → slice_get steps 0 ≡ Some f → Declares p f.bound a → a.from ≡ m → (c.from ≡ n → ⊥) → j ≡ 0 → ⊥
    not_first f a at' declares' begins apart none =
        let same : s ≡ f = some_same s f (sym at ∙ ap (slice_get steps) none ∙ at') in
        let one : c ≡ a = declared_one p lawful f.bound c a (subst (λ (u : Step). Declares p u.bound c) same declares) declares' in
        apart (ap (λ (b : Constraint). b.from) one ∙ begins ∙ stays_there p lawful Cycle m n steps j goes none)

    loose : (l i : ℕ) → l + 1 ≡ k → suc i ≡ j → (c.from ≡ n → ⊥) → IsLooseAt p steps l
    loose l i is before apart =
        let found = step_there p steps i each (let short = inside in omega (arith, before, short)) in (
          found.0,
          s,
          found.2.0,
          c,
          (i, omega (arith, is, before, next), found.1),
          inl (j, omega (arith, is, next), at),
          found.2.1,
          declares,
          λ e. apart (sym e ∙ comes_there p lawful Cycle m n steps j goes i found.0 found.2.0 before found.1 found.2.1),
        )

    pub loose_first : (f : Step) (a : Constraint) (l : ℕ) → slice_get steps 0 ≡ Some f → Declares p f.bound a → a.from ≡ m → (c.from ≡ n → ⊥) → l + 1 ≡ k → IsFirstWrong Cycle (CycleIs p steps) (Join l)
    loose_first f a l at' declares' begins apart is = record {
      is_so = by j refl;
      first = cycle_cases p steps (IsNoLater Cycle (Join l) Cycle) (λ none. absurd (no_step steps j s at none)) later_join later_weight (λ sum so more. earlier_kind Cycle (Join l) (Sum sum) (omega arith));
    }
      where
        by : (x : ℕ) → x ≡ j → IsLooseAt p steps l
        by zero same = absurd (not_first f a at' declares' begins apart (sym same))
        by (suc i) same = loose l i is same apart

        later_join : (o : ℕ) → IsLooseAt p steps o → IsNoLater Cycle (Join l) Cycle (Join o)
        later_join o so = elim (cases_lt o j) [
          | inl before ↦ absurd (no_loose_before n j goes (let short = inside in omega (arith, short)) o before so)
          | inr le ↦ same_kind Cycle (Join l) (Join o) refl (omega (arith, le, is, next))
        ]

        later_weight : (o : ℕ) → IsMisweighedAt p steps o → IsNoLater Cycle (Join l) Cycle (Weight o)
        later_weight o so = elim (cases_lt j o) [
          | inl behind ↦ same_kind Cycle (Join l) (Weight o) refl (omega (arith, behind, is, next))
          | inr le ↦ absurd (no_weight_before n j goes (let short = inside in omega (arith, short)) o le so)
        ]

    -- ---- a step with another weight
    pub cycle_weight_first : c.from ≡ n → c.weight ≢ s.weight → IsFirstWrong Cycle (CycleIs p steps) (Weight k)
    cycle_weight_first enters differs = record {
      is_so = (s, (j, next, at), (c, declares, differs));
      first = cycle_cases p steps (IsNoLater Cycle (Weight k) Cycle) (λ none. absurd (no_step steps j s at none)) later_join later_weight (λ sum so more. earlier_kind Cycle (Weight k) (Sum sum) (omega arith));
    }
      where
        joins_here : (o : ℕ) → o ≡ j → IsLooseAt p steps o → ⊥
        joins_here o here (t, u, b, d, (i, after, at'), inl (x, after', at''), declares', declares'', differ) =
            let there : x ≡ j = omega (arith, here, after') in
            let same : u ≡ s = some_same u s (sym at'' ∙ ap (slice_get steps) there ∙ at) in
            let one : d ≡ c = declared_one p lawful s.bound d c (subst (λ (v : Step). Declares p v.bound d) same declares'') declares in
            differ (comes_there p lawful Cycle m n steps j goes i t b (omega (arith, here, after)) at' declares' ∙ sym enters ∙ sym (ap (λ (v : Constraint). v.from) one))
        joins_here o here (t, u, b, d, (i, after, at'), inr (end, at''), declares', declares'', differ) = let short = inside in absurd (omega (arith, here, end, short))

        later_join : (o : ℕ) → IsLooseAt p steps o → IsNoLater Cycle (Weight k) Cycle (Join o)
        later_join o so = elim (cases_lt o j) [
          | inl before ↦ absurd (no_loose_before n j goes (let short = inside in omega (arith, short)) o before so)
          | inr le ↦ elim (cases_lt j o) [
            | inl behind ↦ same_kind Cycle (Weight k) (Join o) refl (omega (arith, behind, next))
            | inr le' ↦ absurd (joins_here o (omega (arith, le, le')) so)
          ]
        ]

        later_weight : (o : ℕ) → IsMisweighedAt p steps o → IsNoLater Cycle (Weight k) Cycle (Weight o)
        later_weight o so = elim (cases_lt j o) [
          | inl behind ↦ same_kind Cycle (Weight k) (Weight o) refl (omega (arith, behind, next))
          | inr le ↦ absurd (no_weight_before n j goes (let short = inside in omega (arith, short)) o le so)
        ]

  -- ---- all steps
  module _ (n : Node) (goes : Goes p Cycle m (weighed_bounds steps) n) where
    whole : Goes p Cycle m (weighed_bounds (take (length steps) steps)) n
    whole = subst (λ (l : List Step). Goes p Cycle m (weighed_bounds l) n) (sym (take_all steps (length steps) (omega arith))) goes

    pub no_weight : (o : ℕ) → IsMisweighedAt p steps o → ⊥
    no_weight o (t, (i, after, at), weighs) = weighs_before p lawful Cycle m n steps (length steps) whole i t (slice_get_within steps i t at) at weighs

    pub open_first : (f : Step) (a : Constraint) → slice_get steps 0 ≡ Some f → Declares p f.bound a → a.from ≡ m → (n ≡ m → ⊥) → IsFirstWrong Cycle (CycleIs p steps) (Join (length steps))
    open_first f a at declares begins apart = record {
      is_so = by (length steps) refl;
      first = cycle_cases p steps (IsNoLater Cycle (Join (length steps)) Cycle) (λ none. absurd (no_step steps 0 f at none)) later_join (λ o so. absurd (no_weight o so))
          (λ sum so more. earlier_kind Cycle (Join (length steps)) (Sum sum) (omega arith));
    }
      where
        by : (x : ℕ) → x ≡ length steps → IsLooseAt p steps (length steps)
        by zero same = let inside = slice_get_within steps 0 f at in absurd (omega (arith, inside, same))
        by (suc i) same =
            let found = step_there p steps i each (omega (arith, same)) in (
              found.0,
              f,
              found.2.0,
              a,
              (i, omega (arith, same), found.1),
              inr (refl, (0, refl, at)),
              found.2.1,
              declares,
              λ e. apart (sym (comes_there p lawful Cycle m n steps (length steps) whole i found.0 found.2.0 same found.1 found.2.1) ∙ e ∙ begins),
            )

        later_join : (o : ℕ) → IsLooseAt p steps o → IsNoLater Cycle (Join (length steps)) Cycle (Join o)
        later_join o so = elim (cases_lt o (length steps)) [
          | inl before ↦ absurd (no_loose_before n (length steps) whole (omega arith) o before so)
          | inr le ↦ same_kind Cycle (Join (length steps)) (Join o) refl (omega (arith, le))
        ]

    -- where the walk comes back no step is loose
    joins_end : n ≡ m → (o : ℕ) → length steps ≤ o → IsLooseAt p steps o → ⊥
    joins_end closed o past (s, t, c, d, (i, after, at), inl (k, after', at'), declares, declares', differ) = let inside = slice_get_within steps k t at' in absurd (omega (arith, past, after', inside))
    joins_end closed o past (s, t, c, d, (i, after, at), inr (end, (k, after', at')), declares, declares', differ) =
        let here : k ≡ 0 = omega (arith, after') in
        let inside = slice_get_within steps i s at in
        differ (comes_there p lawful Cycle m n steps (length steps) whole i s c (omega (arith, end, after)) at declares ∙ closed
        ∙ sym (begins_before p lawful Cycle m n steps (length steps) whole t d (omega (arith, inside)) (subst (λ (x : ℕ). slice_get steps x ≡ Some t) here at') declares'))

    pub no_loose : n ≡ m → (o : ℕ) → IsLooseAt p steps o → ⊥
    no_loose closed o so = elim (cases_lt o (length steps)) [
      | inl before ↦ no_loose_before n (length steps) whole (omega arith) o before so
      | inr le ↦ joins_end closed o le so
    ]

    pub cycle_sum_first : (f : Step) (sum : ℤ) → slice_get steps 0 ≡ Some f → n ≡ m → sum ≡ weight_of (weighed_bounds steps) → pos 0 ≤ℤ sum → IsFirstWrong Cycle (CycleIs p steps) (Sum sum)
    cycle_sum_first f sum at closed is high = record {
      is_so = (is, high);
      first = cycle_cases p steps (IsNoLater Cycle (Sum sum) Cycle) (λ none. absurd (no_step steps 0 f at none)) (λ o so. absurd (no_loose closed o so)) (λ o so. absurd (no_weight o so))
          (λ other so more. same_kind Cycle (Sum sum) (Sum other) refl (omega arith));
    }

-- a contradiction has no fault
pub cycle_sound : (p : ProblemLists) (steps : List Step) → IsWellFormed p → All (IsStepOf p) steps → IsContradictionOf p (weighed_bounds steps) → (r : Reason) → CycleIs p steps r → ⊥
cycle_sound p steps lawful each is =
    let m = is.closed.0 in
    let goes = goes_of p m m (weighed_bounds steps) is.closed.1 in
    cycle_cases p steps (λ r. ⊥)
    (λ none. let sum : weight_of (weighed_bounds steps) ≡ pos 0 = ap (λ (l : List Step). weight_of (weighed_bounds l)) none in let negative : weight_of (weighed_bounds steps) <ℤ pos 0 = is.negative in omega (arith, ints))
    (no_loose p lawful steps each m m goes refl)
    (no_weight p lawful steps each m m goes)
    (λ sum so more. let negative : weight_of (weighed_bounds steps) <ℤ pos 0 = is.negative in omega (arith, ints, so, more))
