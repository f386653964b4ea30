-- Arcs with the weights that bounds have in a problem.
use Rattle.std.specs.Prelude.{◌≡◌, ℕ, List, map}
use Rattle.problem_model.specs.declared.items.Bound.{Bound}
use Rattle.problem_model.specs.Problem.{ProblemLists}
use Rattle.problem_model.specs.Bounds.{Constraint, Declares}
use Rattle.problem_model.specs.Solutions.{WeighedBound}
use Rattle.cert.specs.declared.chain.Step.{Step}
use Rattle.sync_graph.specs.declared.arc.Arc.{Arc}

-- the problem declares a bound of this name
abbrev pub IsNameOf : ProblemLists → Arc → Type 0
IsNameOf p a = (c : Constraint) × Declares p a.name c

-- the arc has the weight that the problem declares under its name
abbrev pub IsWeighed : ProblemLists → Arc → Type 0
IsWeighed p a = (c : Constraint) × Declares p a.name c × (c.weight ≡ a.weight)

-- the ends and the name of an arc
abbrev pub unweighed : Arc → ℕ × ℕ × Bound
unweighed a = (a.from, a.to, a.name)

-- the names and the weights of arcs
abbrev pub weighed_arcs : List Arc → List WeighedBound
weighed_arcs arcs = map (λ (a : Arc). (a.name, a.weight)) arcs

-- the name and the weight of an arc, as a step
abbrev pub step_of : Arc → Step
step_of a = record { bound = a.name; weight = a.weight }

-- a step as an arc, whose ends are left open
abbrev pub arc_of : Step → Arc
arc_of s = record { from = 0; to = 0; weight = s.weight; name = s.bound }
