-- Declared bounds that lead on in few steps have a small sum.
use Rattle.std.proofs.Common.{◌<◌, ◌≤◌, ◌*◌, ◌^◌, ℕ, List, [], ◌∷◌, length, subst, arith}
use Rattle.std.specs.Prelude.{pos, neg_ℤ, ◌≤ℤ◌, All}
use Rattle.std.proofs.lemmas.Int.{ints}
use Rattle.std.proofs.lemmas.List.Elements.{All-nil, All-cons, All-head, All-tail}
use Rattle.problem_model.specs.declared.items.Node.{Node}
use Rattle.problem_model.specs.Problem.{ProblemLists, IsProblem}
use Rattle.problem_model.specs.Nodes.{Reading, AreReadings, nodes_of}
use Rattle.problem_model.specs.Solutions.{WeighedBound, Leads, weight_of}
use Rattle.problem_model.specs.Limits.{most_nodes, path_bits}
use Rattle.problem.proofs.ListedNodes.{few_nodes}
use Rattle.cert.specs.Shows.{LeadsAgainst}
use Rattle.attain.specs.Tight.{IsUnder}
use Rattle.attain.proofs.DeclaredBounds.{declared_small}

-- as many times 2^93 as there are steps
light_sum : (steps : List WeighedBound) → All (λ s. IsUnder 93 s.1) steps → (neg_ℤ (pos (length steps * 2 ^ 93)) ≤ℤ weight_of steps) × (weight_of steps ≤ℤ pos (length steps * 2 ^ 93))
light_sum [] light = (omega (arith, ints), omega (arith, ints))
light_sum (s ∷ steps) light =
    let own : IsUnder 93 s.1 = All-head (λ (s : WeighedBound). IsUnder 93 s.1) s steps light in
    let rest = light_sum steps (All-tail (λ (s : WeighedBound). IsUnder 93 s.1) s steps light) in
    (omega (arith, ints, own.0, rest.0), omega (arith, ints, own.1, rest.1))

few_under : (steps : List WeighedBound) (nodes : ℕ) → All (λ s. IsUnder 93 s.1) steps → length steps < nodes → nodes ≤ most_nodes → IsUnder path_bits (weight_of steps)
few_under steps nodes light short few =
    let sum = light_sum steps light in
    let most : length steps * 2 ^ 93 < 2 ^ path_bits = omega (arith, short, few) in
    (omega (arith, ints, most, sum.0), omega (arith, ints, most, sum.1))

module _ (p : ProblemLists) (lawful : IsProblem p) where
  onward_light : (steps : List WeighedBound) (m n : Node) → Leads p m steps n → All (λ s. IsUnder 93 s.1) steps
  onward_light [] m n leads = All-nil (λ (s : WeighedBound). IsUnder 93 s.1)
  onward_light (s ∷ steps) m n (c, declares, weighs, begins, rest) =
      All-cons (λ (s : WeighedBound). IsUnder 93 s.1) s steps (subst (IsUnder 93) weighs (declared_small p lawful s.0 c declares)) (onward_light steps c.to n rest)

  back_light : (steps : List WeighedBound) (m n : Node) → LeadsAgainst p m steps n → All (λ s. IsUnder 93 s.1) steps
  back_light [] m n leads = All-nil (λ (s : WeighedBound). IsUnder 93 s.1)
  back_light (s ∷ steps) m n (c, declares, weighs, ends, rest) =
      All-cons (λ (s : WeighedBound). IsUnder 93 s.1) s steps (subst (IsUnder 93) weighs (declared_small p lawful s.0 c declares)) (back_light steps c.from n rest)

module _ (p : ProblemLists) (readings : List Reading) (m n : Node) (steps : List WeighedBound) where
  pub onward_under : Leads p m steps n → length steps < length (nodes_of p readings) → IsProblem p → AreReadings p readings → IsUnder path_bits (weight_of steps)
  onward_under leads short lawful are = few_under steps (length (nodes_of p readings)) (onward_light p lawful steps m n leads) short (few_nodes p readings lawful are)

  pub back_under : LeadsAgainst p m steps n → length steps < length (nodes_of p readings) → IsProblem p → AreReadings p readings → IsUnder path_bits (weight_of steps)
  back_under leads short lawful are = few_under steps (length (nodes_of p readings)) (back_light p lawful steps m n leads) short (few_nodes p readings lawful are)
