-- What more arcs do to lists of arcs and to executions.
use Rattle.std.proofs.Common.{◌≡◌, ◌≢◌, ◌<◌, ◌≤◌, ℕ, zero, suc, Bool, true, false, List, length, Contains, AllPairs, refl, sym, ◌∙◌, ap, subst, arith, inl, inr}
use Rattle.std.specs.Prelude.{ℤ, if◌then◌else◌}
use Rattle.std.proofs.lemmas.Bool.{cases_lt}
use Rattle.std.proofs.lemmas.List.Elements.{All-contains, Contains-get_or}
use Rattle.std.proofs.lemmas.Grind.{get_or_default_zero}
use Rattle.problem_model.specs.Executions.{Arc, Obeys, at}
use Rattle.problem_model.specs.Tables.{ArcTable, ObeysAll, reversed_table}
use Rattle.problem_model.specs.Reversal.{reversed}
use Rattle.problem_model.specs.Sums.{sum_to}
use Rattle.problem_model.specs.Paths.{IsContradiction}
use Rattle.problem_model.proofs.Paths.{no_execution}
use Rattle.problem_model.proofs.Tables.{obeys_all, execution_of_table}
use Rattle.sync_graph.specs.Graph.{GraphLists, IsGraph, table_of}
use Rattle.sync_graph.specs.Lists.{list_at, entry_at, AreListed}
use Rattle.sync_graph.specs.InForce.{IsEarliestOf, arcs_of}
use Rattle.sync_graph.proofs.InForce.{arcs_listed}
use Rattle.roster.proofs.Counting.{fits}

-- ---- arcs that go on
-- each arc in force is so in the other table too, and is the same arc
abbrev pub GoesOn : ArcTable → ArcTable → Type 0
GoesOn table table' = (j : ℕ) → table.in_force j ≡ true → (table'.in_force j ≡ true) × (table'.arc j ≡ table.arc j)

pub goes_reversed : (table table' : ArcTable) → GoesOn table table' → GoesOn (reversed_table table) (reversed_table table')
goes_reversed table table' goes j on = ((goes j on).0, ap reversed (goes j on).1)

-- a node's list is no shorter then
module _ (table table' : ArcTable) (n n' : ℕ) (lists lists' : List (List ℕ)) (is : AreListed table n lists) (is' : AreListed table' n' lists') (goes : GoesOn table table') (node : ℕ) where
  entries_differ : AllPairs (λ (a b : ℕ). a ≢ b) (list_at lists node)
  entries_differ i j d less inside same =
      let xs : List ℕ = list_at lists node in
      let first : i < length xs = omega (arith, less, inside) in
      let one : i ≡ j = is.once node i j first inside (sym (get_or_default_zero xs i d first) ∙ same ∙ get_or_default_zero xs j d inside) in
      omega (arith, less, one)

  entry_too : (k : ℕ) → k < length (list_at lists node) → Contains (list_at lists' node) (entry_at lists node k)
  entry_too k inside =
      let e : ℕ = entry_at lists node k in
      let o = is.only node k inside in
      let on = goes e o.0 in
      let r = is'.all e on.0 in
      let tail : (table'.arc e).from ≡ node = ap (λ (a : Arc). a.from) on.1 ∙ o.1 in
      subst (λ (m : ℕ). Contains (list_at lists' m) e) tail (subst (Contains (list_at lists' (table'.arc e).from)) r.2 (Contains-get_or (list_at lists' (table'.arc e).from) r.0 0 r.1))

  pub list_longer : length (list_at lists node) ≤ length (list_at lists' node)
  list_longer = fits (list_at lists node) (list_at lists' node) entries_differ
      (λ x among. All-contains (Contains (list_at lists' node)) (list_at lists node) x
      (λ k d inside. subst (Contains (list_at lists' node)) (sym (get_or_default_zero (list_at lists node) k d inside)) (entry_too k inside)) among)

-- ---- an execution of more arcs
module _ (g h : GraphLists) (is : IsGraph g) (is' : IsGraph h) (goes : GoesOn (table_of g) (table_of h)) (ys : List ℤ) (earliest' : IsEarliestOf h ys) where
  obeyed_too : ObeysAll (table_of g) (at ys)
  obeyed_too j on =
      let r = goes j on in
      subst (Obeys (at ys)) r.1 (obeys_all (length h.nodes) (table_of h) (arcs_of h) ys (arcs_listed h is') earliest'.execution j r.0)

  -- no contradiction of the fewer is in force, then
  pub none_against : (steps : List Arc) → IsContradiction (arcs_of g) steps → ⊥
  none_against steps cycle = no_execution (length h.nodes) (arcs_of g) steps ys cycle
      (execution_of_table (length h.nodes) (table_of g) (arcs_of g) ys (arcs_listed g is) earliest'.execution.one_each obeyed_too)

-- ---- sums
more_if : (b b' : Bool) (x y : ℕ) → (b ≡ true → (b' ≡ true) × (x ≤ y)) → (if b then x else 0) ≤ (if b' then y else 0)
more_if false b' x y more = omega arith
more_if true b' x y more = rw (more refl).0 (more refl).1

sum_below : (n : ℕ) (f g : ℕ → ℕ) → ((k : ℕ) → k < n → f k ≤ g k) → sum_to n f ≤ sum_to n g
sum_below zero f g le = omega arith
sum_below (suc n) f g le =
    let front : sum_to n f ≤ sum_to n g = sum_below n f g (λ k inside. le k (omega (arith, inside))) in
    let last : f n ≤ g n = le n (omega arith) in
    omega (arith, front, last)

sum_front : (n m : ℕ) (g : ℕ → ℕ) → n ≤ m → sum_to n g ≤ sum_to m g
sum_front n zero g le = (let e : n ≡ 0 = omega (arith, le) in rw e (omega arith))
sum_front n (suc m) g le = elim (cases_lt m n) [
  | inl less ↦ (let e : n ≡ suc m = omega (arith, less, le) in rw e (omega arith))
  | inr inside ↦ (let front : sum_to n g ≤ sum_to m g = sum_front n m g inside in omega (arith, front))
]

-- more nodes, more flags and more for each
pub flags_more : (n m : ℕ) (each each' : ℕ → ℕ) (flag flag' : ℕ → Bool) → n ≤ m → ((k : ℕ) → k < n → flag k ≡ true → (flag' k ≡ true) × (each k ≤ each' k))
    → sum_to n (λ k. if flag k then each k else 0) ≤ sum_to m (λ k. if flag' k then each' k else 0)
flags_more n m each each' flag flag' le more =
    let one : sum_to n (λ k. if flag k then each k else 0) ≤ sum_to n (λ k. if flag' k then each' k else 0) =
    sum_below n (λ k. if flag k then each k else 0) (λ k. if flag' k then each' k else 0) (λ k inside. more_if (flag k) (flag' k) (each k) (each' k) (more k inside)) in
    let two : sum_to n (λ k. if flag' k then each' k else 0) ≤ sum_to m (λ k. if flag' k then each' k else 0) = sum_front n m (λ k. if flag' k then each' k else 0) le in
    omega (arith, one, two)
