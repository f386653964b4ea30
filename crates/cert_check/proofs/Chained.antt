-- Where no follow of the short list leaves a cut, no follow of any two clocks does.
use Rattle.std.proofs.Common.{◌≡◌, ◌<◌, ◌+◌, ◌*◌, ℕ, zero, suc, List, [], ◌∷◌, ◌++◌, length, Option, Some, None, refl, sym, ◌∙◌, subst, arith, inl, inr}
use Rattle.std.specs.Prelude.{All, Contains, pos, neg_ℤ}
use Rattle.std.proofs.lemmas.List.Elements.{All-nil, All-cons, All-head, All-tail}
use Rattle.problem_model.specs.declared.items.Clock.{Clock}
use Rattle.problem_model.specs.declared.items.Follow.{Follow}
use Rattle.problem_model.specs.declared.items.Node.TheVariants as nodes
use Rattle.problem_model.specs.declared.items.Bound.{Bound}
use Rattle.problem_model.specs.declared.items.Bound.TheVariants as bounds
use Rattle.problem_model.specs.Problem.{ProblemLists, IsChained}
use Rattle.problem_model.specs.Bounds.{Constraint, IsReading, ComesAfter}
use Rattle.problem_model.specs.Nodes.{Reading, AreReadings}
use Rattle.problem_model.specs.ShortList.{clocks_before, first_reading, nearest_reading, follow_bound, follow_bounds}
use Rattle.problem_model.proofs.Chains.{Among, Rises, rises}
use Rattle.problem_model.proofs.OneList.{contained}
use Rattle.problem_model.proofs.Following.{by_last, IsFirst, first_is, ends_rise, LiesBefore, nearest}
use Rattle.cert_check.specs.Faults.{StaysInside}

module _ (p : ProblemLists) (inside : List ℕ) where
  -- ---- bounds of the front and of the back of a list
  pub front : (xs ys : List Bound) → All (StaysInside p inside) (xs ++ ys) → All (StaysInside p inside) xs
  front [] ys every = All-nil (StaysInside p inside)
  front (x ∷ xs) ys every = All-cons (StaysInside p inside) x xs (All-head (StaysInside p inside) x (xs ++ ys) every) (front xs ys (All-tail (StaysInside p inside) x (xs ++ ys) every))

  pub back : (xs ys : List Bound) → All (StaysInside p inside) (xs ++ ys) → All (StaysInside p inside) ys
  back [] ys every = every
  back (x ∷ xs) ys every = back xs ys (All-tail (StaysInside p inside) x (xs ++ ys) every)

  module _ (chained : IsChained p) (readings : List Reading) (are : AreReadings p readings) where
    -- the follow of the short list that leads to a clock stays
    abbrev StaysAt : ℕ → Type 0
    StaysAt d = All (StaysInside p inside) (follow_bound (nearest_reading readings (clocks_before p.follows d d)) (first_reading readings d))

    stays_at : (k j : ℕ) (clocks : List Clock) → j < length clocks → All (StaysInside p inside) (follow_bounds p.follows readings k clocks) → StaysAt (k + j)
    stays_at k j [] within every = absurd (omega (arith, within))
    stays_at k zero (c ∷ clocks) within every = subst StaysAt (let same : k ≡ k + 0 = omega arith in same)
        (front (follow_bound (nearest_reading readings (clocks_before p.follows k k)) (first_reading readings k)) (follow_bounds p.follows readings (k + 1) clocks) every)
    stays_at k (suc j) (c ∷ clocks) within every = subst StaysAt (let same : k + 1 + j ≡ k + suc j = omega arith in same)
        (stays_at (k + 1) j clocks (omega (arith, within)) (back (follow_bound (nearest_reading readings (clocks_before p.follows k k)) (first_reading readings k)) (follow_bounds p.follows readings (k + 1) clocks) every))

    rising : Rises readings
    rising = rises readings are.rising

    is_read : (r : Reading) → Among readings r → IsReading p r.0 r.1
    is_read r at = are.each r.0 r.1 (contained readings r at)

    -- from a clock to the nearest one before it
    hop : (d : ℕ) (f : Follow) → Contains p.follows f → f.later ≡ d → (r b : Reading) → ComesAfter p r.0 d → Among readings r → Among readings b → b.0 ≡ d
        → All (StaysInside p inside) (follow_bound (Some r) (Some b)) → Contains inside d → Contains inside r.0
    hop d f at later r b after here there on all held =
        let c : Constraint = record { from = nodes.Reading b.0 b.1; to = nodes.Reading r.0 r.1; weight = neg_ℤ (pos (f.gap * 1000000000)) } in
        let stays : StaysInside p inside (bounds.Follow r.0 r.1 b.0 b.1) = All-head (StaysInside p inside) (bounds.Follow r.0 r.1 b.0 b.1) [] all in
        let led = stays c (f, at, later ∙ sym on, subst (λ (k : ℕ). ComesAfter p r.0 k) (sym on) after, is_read r here, is_read b there, refl) (d, on, held) in
        subst (Contains inside) (sym led.1) led.2

    module _ (every : All (StaysInside p inside) (follow_bounds p.follows readings 0 p.clocks)) where
      at_clock : (d : ℕ) → d < length p.clocks → StaysAt d
      at_clock d within = subst StaysAt (let same : 0 + d ≡ d = omega arith in same) (stays_at 0 d p.clocks within every)

      -- where a clock is inside, the nearest reading before it is on a clock inside
      nearest_inside : (d t : ℕ) (r : Reading) (f : Follow) → Contains p.follows f → f.later ≡ d → ComesAfter p r.0 d → Among readings r → Among readings (d, t)
          → nearest_reading readings (clocks_before p.follows d d) ≡ Some r → (o : Option Reading) → IsFirst d readings o → first_reading readings d ≡ o → Contains inside d → Contains inside r.0
      nearest_inside d t r f at later after here reading near None first is held = absurd (first t reading)
      nearest_inside d t r f at later after here reading near (Some b) first is held =
          let within : d < length p.clocks = (let end : f.later < length p.clocks = (ends_rise p chained readings rising f at).1 in omega (arith, end, later)) in
          hop d f at later r b after here first.1 first.0
          (subst (λ (o : Option Reading). All (StaysInside p inside) (follow_bound (Some r) o)) is
          (subst (λ (o : Option Reading). All (StaysInside p inside) (follow_bound o (first_reading readings d))) near (at_clock d within))) held

      -- where a clock is inside, each clock with a reading that it comes after is
      pub inside_before : (k d c s t : ℕ) → d < k → ComesAfter p c d → Among readings (c, s) → Among readings (d, t) → Contains inside d → Contains inside c
      inside_before zero d c s t below after from to held = absurd (omega (arith, below))
      inside_before (suc k) d c s t below after from to held =
          let last = by_last p c d after in
          let found = nearest p chained readings rising d d c s (omega arith) after from in
          further found.0 found.2 (λ less before here. inside_before k found.0.0 c s found.0.1 (omega (arith, less, below)) before from here)
          (nearest_inside d t found.0 last.0 last.1.0 last.1.1 found.2.1 found.2.0 to found.1 (first_reading readings d) (first_is d readings rising) refl held)
        where
          further : (r : Reading) → LiesBefore p chained readings rising d c s r → (r.0 < d → ComesAfter p c r.0 → Among readings r → Contains inside r.0 → Contains inside c) → Contains inside r.0 → Contains inside c
          further r (here, behind, less, inl same) back held = subst (Contains inside) (sym same.0) held
          further r (here, behind, less, inr before) back held = back less before here held
