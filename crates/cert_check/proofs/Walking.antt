-- Walks step by step.
use Rattle.std.proofs.Common.{◌≡◌, ◌<◌, ◌≤◌, ◌+◌, ℕ, zero, suc, List, [], ◌∷◌, ◌++◌, length, take, get_or, slice_get, Some, refl, sym, ◌∙◌, ap, subst, arith}
use Rattle.std.specs.Prelude.{ℤ, ◌+ℤ◌, All}
use Rattle.std.proofs.lemmas.Int.{ints}
use Rattle.std.proofs.lemmas.Option.{slice_get_read}
use Rattle.problem_model.specs.declared.items.Node.{Node}
use Rattle.problem_model.specs.Problem.{ProblemLists}
use Rattle.problem_model.specs.Bounds.{Constraint, Declares}
use Rattle.problem_model.specs.Solutions.{WeighedBound, weight_of}
use Rattle.cert.specs.declared.chain.Step.{Step}
use Rattle.cert.specs.CertificateText.{IsStepOf}
use Rattle.cert.specs.Shows.{weighed_bounds}
use Rattle.cert_check.specs.declared.answer.Part.{Part}
use Rattle.cert_check.specs.Walks.{entry_of, exit_of, Goes}

some_same : {X : Type 0} (a b : X) → Some a ≡ Some b → a ≡ b
some_same a b e = cc

-- ---- one step more
weighed_more : (steps : List Step) (k : ℕ) (s : Step) → slice_get steps k ≡ Some s → weighed_bounds (take (suc k) steps) ≡ weighed_bounds (take k steps) ++ (s.bound, s.weight) ∷ []
weighed_more [] k s at = absurd cc
weighed_more (t ∷ steps) zero s at = let same : t ≡ s = some_same t s at in rw same refl
weighed_more (t ∷ steps) (suc k) s at = ap (λ (rest : List WeighedBound). (t.bound, t.weight) ∷ rest) (weighed_more steps k s at)

weight_push : (steps : List WeighedBound) (s : WeighedBound) → weight_of (steps ++ s ∷ []) ≡ weight_of steps +ℤ s.1
weight_push [] s = omega (arith, ints)
weight_push (t ∷ steps) s = let h : weight_of (steps ++ s ∷ []) ≡ weight_of steps +ℤ s.1 = weight_push steps s in omega (arith, ints)

goes_push : (p : ProblemLists) (part : Part) (m n : Node) (steps : List WeighedBound) (s : WeighedBound) (c : Constraint) → Goes p part m steps n → Declares p s.0 c → c.weight ≡ s.1 → entry_of part c ≡ n
    → Goes p part m (steps ++ s ∷ []) (exit_of part c)
goes_push p part m n [] s c goes declares weighs enters = (c, declares, weighs, enters ∙ sym goes, refl)
goes_push p part m n (t ∷ steps) s c goes declares weighs enters = (goes.0, goes.1, goes.2, goes.3, goes_push p part (exit_of part goes.0) n steps s c goes.4 declares weighs enters)

pub goes_on : (p : ProblemLists) (part : Part) (m n : Node) (steps : List Step) (k : ℕ) (s : Step) (c : Constraint) → Goes p part m (weighed_bounds (take k steps)) n → slice_get steps k ≡ Some s → Declares p s.bound c
    → c.weight ≡ s.weight → entry_of part c ≡ n → Goes p part m (weighed_bounds (take (k + 1) steps)) (exit_of part c)
goes_on p part m n steps k s c goes at declares weighs enters =
    let next : suc k ≡ k + 1 = omega arith in
    subst (λ (l : List WeighedBound). Goes p part m l (exit_of part c)) (sym (weighed_more steps k s at) ∙ ap (λ (j : ℕ). weighed_bounds (take j steps)) next)
    (goes_push p part m n (weighed_bounds (take k steps)) (s.bound, s.weight) c goes declares weighs enters)

pub sum_on : (steps : List Step) (k : ℕ) (s : Step) (sum next : ℤ) → slice_get steps k ≡ Some s → sum ≡ weight_of (weighed_bounds (take k steps)) → next ≡ sum +ℤ s.weight → next ≡ weight_of (weighed_bounds (take (k + 1) steps))
sum_on steps k s sum next at is more =
    let same : suc k ≡ k + 1 = omega arith in
    let pushed : weight_of (weighed_bounds (take k steps) ++ (s.bound, s.weight) ∷ []) ≡ weight_of (weighed_bounds (take k steps)) +ℤ s.weight = weight_push (weighed_bounds (take k steps)) (s.bound, s.weight) in
    let is' : sum +ℤ s.weight ≡ weight_of (weighed_bounds (take k steps)) +ℤ s.weight = ap (λ (v : ℤ). v +ℤ s.weight) is in
    more ∙ is' ∙ sym pushed ∙ ap weight_of (sym (weighed_more steps k s at) ∙ ap (λ (j : ℕ). weighed_bounds (take j steps)) same)

-- ---- all steps
pub take_all : {X : Type 0} (xs : List X) (k : ℕ) → length xs ≤ k → take k xs ≡ xs
take_all [] zero past = refl
take_all [] (suc k) past = refl
take_all (x ∷ xs) zero past = absurd (omega (arith, past))
take_all (x ∷ xs) (suc k) past = ap (λ rest. x ∷ rest) (take_all xs k (omega (arith, past)))

-- ---- the step at a place
pub step_at : (steps chain : List Step) (k : ℕ) (s : Step) → steps ≡ chain → k < length chain → s ≡ get_or steps k s → slice_get chain k ≡ Some s
step_at steps chain k s same inside is = slice_get_read chain (length chain) k s refl inside (is ∙ ap (λ (l : List Step). get_or l k s) same)

pub step_of : (p : ProblemLists) (steps chain : List Step) (k : ℕ) (s : Step) → steps ≡ chain → k < length chain → s ≡ get_or steps k s → All (IsStepOf p) chain → IsStepOf p s
step_of p steps chain k s same inside is each = subst (IsStepOf p) (sym (is ∙ ap (λ (l : List Step). get_or l k s) same)) (each k s inside)

pub all_taken : (p : ProblemLists) (part : Part) (m n : Node) (steps chain : List Step) (k : ℕ) (sum : ℤ) → steps ≡ chain → length chain ≤ k → Goes p part m (weighed_bounds (take k steps)) n → sum ≡ weight_of (weighed_bounds (take k steps))
    → Goes p part m (weighed_bounds chain) n × (sum ≡ weight_of (weighed_bounds chain))
all_taken p part m n steps chain k sum same past goes is =
    let all : take k steps ≡ chain = ap (take k) same ∙ take_all chain k past in
    (subst (λ (l : List Step). Goes p part m (weighed_bounds l) n) all goes, is ∙ ap (λ (l : List Step). weight_of (weighed_bounds l)) all)
