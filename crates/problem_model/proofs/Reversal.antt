-- What holds of arcs the other way round.
use Rattle.std.proofs.Common.{◌≡◌, ℕ, zero, suc, ◌<◌, List, [], ◌∷◌, ◌++◌, get_or, refl, ap, sym, ◌∙◌, subst, arith}
use Rattle.std.specs.Prelude.{ℤ, pos, ◌+ℤ◌, ◌-ℤ◌, ◌≤ℤ◌, ◌<ℤ◌, All, Contains}
use Rattle.std.proofs.lemmas.Int.{ints}
use Rattle.std.proofs.lemmas.List.{length-map}
use Rattle.std.proofs.lemmas.List.Elements.{All-map, All-cons, All-nil, All-head, All-tail, All-contains, All-contains_itself}
use Rattle.problem_model.specs.Executions.{Arc, at, difference, Obeys, IsExecution, AreWithin}
use Rattle.problem_model.specs.Paths.{sum_of, IsPath}
use Rattle.problem_model.specs.Differences.{IsGreatest, IsUnbounded}
use Rattle.problem_model.specs.Reversal.{reversed, all_reversed, negated, walked_back}
use Rattle.problem_model.proofs.Paths.{path_push, sum_of-push}

-- twice reversed is as before
pub all_reversed-twice : (arcs : List Arc) → all_reversed (all_reversed arcs) ≡ arcs
all_reversed-twice [] = refl
all_reversed-twice (a ∷ arcs) = ap (λ r. a ∷ r) (all_reversed-twice arcs)

-- what is true of each reversed arc
pub All-of_reversed : (P : Arc → Type 0) (arcs : List Arc) → All P (all_reversed arcs) → All (λ a. P (reversed a)) arcs
All-of_reversed P [] h = All-nil (λ a. P (reversed a))
All-of_reversed P (a ∷ arcs) h =
    All-cons (λ b. P (reversed b)) a arcs (All-head P (reversed a) (all_reversed arcs) h) (All-of_reversed P arcs (All-tail P (reversed a) (all_reversed arcs) h))

pub at-negated : (xs : List ℤ) (k : ℕ) → at (negated xs) k ≡ pos 0 -ℤ at xs k
at-negated [] k = refl
at-negated (x ∷ xs) zero = refl
at-negated (x ∷ xs) (suc k) = at-negated xs k

pub within_reversed : (nodes : ℕ) (arcs : List Arc) → AreWithin nodes arcs → AreWithin nodes (all_reversed arcs)
within_reversed nodes arcs w = All-map (λ a. (a.from < nodes) × (a.to < nodes)) reversed arcs (λ k d l. ((w k d l).1, (w k d l).0))

-- an execution with the other sign is one of the reversed arcs
pub execution_reversed : (nodes : ℕ) (arcs : List Arc) (xs : List ℤ) → IsExecution nodes arcs xs → IsExecution nodes (all_reversed arcs) (negated xs)
execution_reversed nodes arcs xs x = record {
  one_each = length-map xs (λ v. pos 0 -ℤ v) ∙ x.one_each;
  obeys = All-map (Obeys (at (negated xs))) reversed arcs (λ k d l. one (get_or arcs k d) (x.obeys k d l));
}
  where
    one : (a : Arc) → Obeys (at xs) a → Obeys (at (negated xs)) (reversed a)
    one a o = omega (arith, ints, at-negated xs a.from, at-negated xs a.to)

-- and the other way round
pub execution_of_reversed : (nodes : ℕ) (arcs : List Arc) (xs : List ℤ)
    → IsExecution nodes (all_reversed arcs) xs
    → IsExecution nodes arcs (negated xs)
execution_of_reversed nodes arcs xs x = subst (λ r. IsExecution nodes r (negated xs)) (all_reversed-twice arcs) (execution_reversed nodes (all_reversed arcs) xs x)

difference-negated : (xs : List ℤ) (p q : ℕ) → difference (at (negated xs)) p q ≡ difference (at xs) q p
difference-negated xs p q = omega (arith, ints, at-negated xs p, at-negated xs q)

-- the greatest difference of the reversed arcs is the one the other way round
pub greatest_of_reversed : (nodes : ℕ) (arcs : List Arc) (p q : ℕ) (h : ℤ) → IsGreatest nodes (all_reversed arcs) p q h → IsGreatest nodes arcs q p h
greatest_of_reversed nodes arcs p q h g = record {
  attained = (negated g.attained.0, execution_of_reversed nodes arcs g.attained.0 g.attained.1, difference-negated g.attained.0 q p ∙ g.attained.2);
  most = λ xs x. subst (λ v. v ≤ℤ h) (difference-negated xs p q) (g.most (negated xs) (execution_reversed nodes arcs xs x));
}

pub greatest_reversed : (nodes : ℕ) (arcs : List Arc) (p q : ℕ) (h : ℤ) → IsGreatest nodes arcs p q h → IsGreatest nodes (all_reversed arcs) q p h
greatest_reversed nodes arcs p q h g = greatest_of_reversed nodes (all_reversed arcs) p q h (subst (λ r. IsGreatest nodes r p q h) (sym (all_reversed-twice arcs)) g)

-- the reversed arcs are unbounded where the arcs are, the other way round
pub unbounded_of_reversed : (nodes : ℕ) (arcs : List Arc) (p q : ℕ) → IsUnbounded nodes (all_reversed arcs) p q → IsUnbounded nodes arcs q p
unbounded_of_reversed nodes arcs p q u h =
    (negated (u h).0, execution_of_reversed nodes arcs (u h).0 (u h).1, subst (λ v. h <ℤ v) (sym (difference-negated (u h).0 q p)) (u h).2)

pub unbounded_reversed : (nodes : ℕ) (arcs : List Arc) (p q : ℕ) → IsUnbounded nodes arcs p q → IsUnbounded nodes (all_reversed arcs) q p
unbounded_reversed nodes arcs p q u = unbounded_of_reversed nodes (all_reversed arcs) p q (subst (λ r. IsUnbounded nodes r p q) (sym (all_reversed-twice arcs)) u)

-- an arc of the reversed list is the reverse of an arc
contains_reversed : (arcs : List Arc) (a : Arc) → Contains (all_reversed arcs) a → Contains arcs (reversed a)
contains_reversed arcs a c = All-contains (λ b. Contains arcs (reversed b)) (all_reversed arcs) a (All-map (λ b. Contains arcs (reversed b)) reversed arcs (All-contains_itself arcs)) c

-- a path along reversed arcs, walked back, is a path of the same sum
pub path_of_reversed : (arcs : List Arc) (p q : ℕ) (steps : List Arc) → IsPath (all_reversed arcs) p q steps → IsPath arcs q p (walked_back steps)
path_of_reversed arcs p q [] path = record { within = All-nil (Contains arcs); joined = sym path.joined }
path_of_reversed arcs p q (a ∷ steps) path =
    let rest : IsPath arcs q a.to (walked_back steps) = path_of_reversed arcs a.to q steps (record { within = All-tail (Contains (all_reversed arcs)) a steps path.within; joined = path.joined.1 }) in
    let own : Contains arcs (reversed a) = contains_reversed arcs a (All-head (Contains (all_reversed arcs)) a steps path.within) in
    subst (λ n. IsPath arcs q n (walked_back steps ++ reversed a ∷ [])) path.joined.0 (path_push arcs q a.to (walked_back steps) (reversed a) rest own refl)

pub sum_of-walked_back : (steps : List Arc) → sum_of (walked_back steps) ≡ sum_of steps
sum_of-walked_back [] = refl
sum_of-walked_back (a ∷ steps) =
    let h : sum_of (walked_back steps) ≡ sum_of steps = sum_of-walked_back steps in
    let e : sum_of (walked_back steps ++ reversed a ∷ []) ≡ sum_of (walked_back steps) +ℤ a.weight = sum_of-push (walked_back steps) (reversed a) in
    omega (arith, ints)
