-- What paths and contradictions say of every execution.
use Rattle.std.proofs.Common.{◌≡◌, ℕ, List, [], ◌∷◌, ◌++◌, refl, ap, sym, ◌∙◌, subst, arith}
use Rattle.std.specs.Prelude.{ℤ, pos, ◌+ℤ◌, ◌≤ℤ◌, ◌<ℤ◌, All, Contains}
use Rattle.std.proofs.lemmas.Int.{ints}
use Rattle.std.proofs.lemmas.List.Elements.{All-head, All-tail, All-push, All-contains}
use Rattle.problem_model.specs.Executions.{Arc, at, difference, Obeys, IsExecution}
use Rattle.problem_model.specs.Paths.{Joins, sum_of, IsPath, IsContradiction}
use Rattle.problem_model.specs.Differences.{IsGreatest, IsUnbounded}

-- along a chain of obeyed arcs the difference is at most the sum
joins_bound : (x : ℕ → ℤ) (p q : ℕ) (steps : List Arc) → All (Obeys x) steps → Joins p steps q → difference x p q ≤ℤ sum_of steps
joins_bound x p q [] o j = let e : x q ≡ x p = ap x (sym j) in omega (arith, ints)
joins_bound x p q (a ∷ steps) o j =
    let h : Obeys x a = All-head (Obeys x) a steps o in
    let r : difference x a.to q ≤ℤ sum_of steps = joins_bound x a.to q steps (All-tail (Obeys x) a steps o) j.1 in
    let e : x a.from ≡ x p = ap x j.0 in
    omega (arith, ints)

-- along a path the difference is at most the sum, in every execution
pub path_bound : (nodes : ℕ) (arcs : List Arc) (p q : ℕ) (steps : List Arc) (xs : List ℤ)
    → IsPath arcs p q steps → IsExecution nodes arcs xs
    → difference (at xs) p q ≤ℤ sum_of steps
path_bound nodes arcs p q steps xs path x =
    joins_bound (at xs) p q steps (λ k d l. All-contains (Obeys (at xs)) arcs _ x.obeys (path.within k d l)) path.joined

-- a contradiction leaves no execution
pub no_execution : (nodes : ℕ) (arcs steps : List Arc) (xs : List ℤ) → IsContradiction arcs steps → IsExecution nodes arcs xs → ⊥
no_execution nodes arcs steps xs c x =
    let p : ℕ = c.closed.0 in
    let b : difference (at xs) p p ≤ℤ sum_of steps = path_bound nodes arcs p p steps xs c.closed.1 x in
    let n : sum_of steps <ℤ pos 0 = c.negative in
    omega (arith, ints)

-- a path with the sum h and an execution with the difference h make h the greatest
pub greatest_from : (nodes : ℕ) (arcs : List Arc) (p q : ℕ) (h : ℤ) (steps : List Arc) (xs : List ℤ)
    → IsPath arcs p q steps → sum_of steps ≡ h → IsExecution nodes arcs xs → difference (at xs) p q ≡ h
    → IsGreatest nodes arcs p q h
greatest_from nodes arcs p q h steps xs path sum x d = record {
  attained = (xs, x, d);
  most = λ ys y. subst (λ v. difference (at ys) p q ≤ℤ v) sum (path_bound nodes arcs p q steps ys path y);
}

-- the greatest difference is one number
pub greatest_one : (nodes : ℕ) (arcs : List Arc) (p q : ℕ) (g h : ℤ) → IsGreatest nodes arcs p q g → IsGreatest nodes arcs p q h → g ≡ h
greatest_one nodes arcs p q g h a b =
    let ab : difference (at a.attained.0) p q ≤ℤ h = b.most a.attained.0 a.attained.1 in
    let ba : difference (at b.attained.0) p q ≤ℤ g = a.most b.attained.0 b.attained.1 in
    let ea : difference (at a.attained.0) p q ≡ g = a.attained.2 in
    let eb : difference (at b.attained.0) p q ≡ h = b.attained.2 in
    omega (arith, ints)

-- an unbounded pair has no greatest difference
pub unbounded_not_greatest : (nodes : ℕ) (arcs : List Arc) (p q : ℕ) (h : ℤ) → IsUnbounded nodes arcs p q → IsGreatest nodes arcs p q h → ⊥
unbounded_not_greatest nodes arcs p q h u g =
    let more : h <ℤ difference (at (u h).0) p q = (u h).2 in
    let most : difference (at (u h).0) p q ≤ℤ h = g.most (u h).0 (u h).1 in
    omega (arith, ints)

-- a chain with one more arc at its end
joins_more : (p q : ℕ) (steps : List Arc) (a : Arc) → Joins p steps q → a.from ≡ q → Joins p (steps ++ a ∷ []) a.to
joins_more p q [] a j e = (e ∙ sym j, refl)
joins_more p q (b ∷ steps) a j e = (j.0, joins_more b.to q steps a j.1 e)

-- the sum with one more arc
pub sum_of-push : (steps : List Arc) (a : Arc) → sum_of (steps ++ a ∷ []) ≡ sum_of steps +ℤ a.weight
sum_of-push [] a = omega (arith, ints)
sum_of-push (b ∷ steps) a = let h : sum_of (steps ++ a ∷ []) ≡ sum_of steps +ℤ a.weight = sum_of-push steps a in omega (arith, ints)

-- a path with one more arc at its end
pub path_push : (arcs : List Arc) (p q : ℕ) (steps : List Arc) (a : Arc)
    → IsPath arcs p q steps → Contains arcs a → a.from ≡ q
    → IsPath arcs p a.to (steps ++ a ∷ [])
path_push arcs p q steps a path c e = record {
  within = All-push (Contains arcs) steps a path.within c;
  joined = joins_more p q steps a path.joined e;
}
