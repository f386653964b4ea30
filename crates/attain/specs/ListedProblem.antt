-- Steps of a listing and those of the problem that it lists.
use Rattle.std.specs.Prelude.{◌≡◌, ℤ, List, [], ◌∷◌}
use Rattle.problem_model.specs.declared.items.Bound.{Bound}
use Rattle.cert.specs.declared.chain.Step.{Step}
use Rattle.problem.specs.Listing.{Listed}
use Rattle.problem_graph.specs.ListedProblem.{IsCarried}

-- step by step, the bounds with events by number are those of the problem with events by place, and the weights are the same
abbrev pub AreCarried : Listed → List (Bound × ℤ) → List Step → Type 0
AreCarried l [] [] = Unit {0}
AreCarried l [] (t ∷ others) = ⊥
AreCarried l (s ∷ steps) [] = ⊥
AreCarried l (s ∷ steps) (t ∷ others) = IsCarried l s.0 t.bound × (s.1 ≡ t.weight) × AreCarried l steps others
