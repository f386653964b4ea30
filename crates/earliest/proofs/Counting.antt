-- The steps of a whole insertion.
use Rattle.std.proofs.Common.{◌≡◌, ℕ, zero, suc, ◌+◌, ◌*◌, ◌≤◌, List, length, subst, arith, inl, inr, refl}
use Rattle.std.specs.Prelude.{ℤ, ◌||◌, if◌then◌else◌, int_lt}
use Rattle.std.proofs.lemmas.Bool.{cases_Bool}
use Rattle.problem_model.specs.Executions.{at}
use Rattle.problem_model.specs.Sums.{sum_to}
use Rattle.sync_graph.specs.Graph.{GraphLists, reaching, arcs_in_force}
use Rattle.earliest.specs.declared.inserted.Inserted.TheVariants.{Kept}
use Rattle.earliest.specs.Steps.{differing_sum, most_insert_steps}
use Rattle.earliest.specs.UnderWay.{raise_steps}

-- terms that are no greater have a sum that is no greater
sum_below : (n : ℕ) (f g : ℕ → ℕ) → ((k : ℕ) → f k ≤ g k) → sum_to n f ≤ sum_to n g
sum_below zero f g h = omega arith
sum_below (suc n) f g h = let r : sum_to n f ≤ sum_to n g = sum_below n f g h in let e : f n ≤ g n = h n in omega arith

two_each : (n : ℕ) (f : ℕ → ℕ) → sum_to n (λ k. f k + 2) ≡ sum_to n f + 2 * n
two_each zero f = refl
two_each (suc n) f = let r : sum_to n (λ k. f k + 2) ≡ sum_to n f + 2 * n = two_each n f in omega arith

risen_differs : (a b : ℤ) (x : ℕ) → (if int_lt a b then x else 0) ≤ (if int_lt a b || int_lt b a then x else 0)
risen_differs a b x = elim (cases_Bool (int_lt a b)) [ inl t ↦ rw t (omega arith) | inr f ↦ rw f (omega arith) ]

risen_counted : (a b : ℤ) (x : ℕ) → (if int_lt a b then x else 0) ≤ x
risen_counted a b x = elim (cases_Bool (int_lt a b)) [ inl t ↦ rw t (omega arith) | inr f ↦ rw f (omega arith) ]

-- a node that has risen has another value
differing_steps : (g : GraphLists) (old values : List ℤ) → raise_steps g old values ≤ differing_sum (length g.nodes) (λ k. reaching g k + 2) old values
differing_steps g old values =
    sum_below (length g.nodes) (λ k. if int_lt (at old k) (at values k) then reaching g k + 2 else 0)
    (λ k. if int_lt (at old k) (at values k) || int_lt (at values k) (at old k) then reaching g k + 2 else 0)
    (λ k. risen_differs (at old k) (at values k) (reaching g k + 2))

-- each node rises at most once
all_steps : (g : GraphLists) (old values : List ℤ) → sum_to (length g.nodes) (reaching g) ≡ arcs_in_force g → raise_steps g old values ≤ arcs_in_force g + 2 * length g.nodes
all_steps g old values degrees =
    let few : raise_steps g old values ≤ sum_to (length g.nodes) (λ k. reaching g k + 2) =
    sum_below (length g.nodes) (λ k. if int_lt (at old k) (at values k) then reaching g k + 2 else 0) (λ k. reaching g k + 2)
    (λ k. risen_counted (at old k) (at values k) (reaching g k + 2)) in
    let two : sum_to (length g.nodes) (λ k. reaching g k + 2) ≡ sum_to (length g.nodes) (reaching g) + 2 * length g.nodes = two_each (length g.nodes) (reaching g) in
    omega (arith, degrees)

-- the steps of raises, as an insertion counts them
module _ (g : GraphLists) (old olds values : List ℤ) (first last : ℕ) (same : olds ≡ old) (raises : last ≤ first + raise_steps g olds values + 1) where
  pub kept_steps : last ≤ first + most_insert_steps g old values Kept
  kept_steps =
      let few : raise_steps g old values ≤ differing_sum (length g.nodes) (λ k. reaching g k + 2) old values = differing_steps g old values in
      let r : last ≤ first + raise_steps g old values + 1 = subst (λ xs. last ≤ first + raise_steps g xs values + 1) same raises in
      omega arith

  pub stuck_steps : sum_to (length g.nodes) (reaching g) ≡ arcs_in_force g → last ≤ first + (arcs_in_force g + 2 * length g.nodes + 2)
  stuck_steps degrees =
      let few : raise_steps g olds values ≤ arcs_in_force g + 2 * length g.nodes = all_steps g olds values degrees in
      omega arith
