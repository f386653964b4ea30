-- Arcs with head and tail exchanged.
use Rattle.std.specs.Prelude.{ℤ, pos, ◌-ℤ◌, List, [], ◌∷◌, ◌++◌, map}
use Rattle.problem_model.specs.Executions.{Arc}

-- the arc the other way round
abbrev pub reversed : Arc → Arc
reversed a = record { from = a.to; to = a.from; weight = a.weight }

-- each arc the other way round
abbrev pub all_reversed : List Arc → List Arc
all_reversed arcs = map reversed arcs

-- each value with the other sign
abbrev pub negated : List ℤ → List ℤ
negated xs = map (λ x. pos 0 -ℤ x) xs

-- the steps from the last to the first, each the other way round
abbrev pub walked_back : List Arc → List Arc
walked_back [] = []
walked_back (a ∷ steps) = walked_back steps ++ reversed a ∷ []
