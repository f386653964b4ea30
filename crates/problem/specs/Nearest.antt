-- The follows of the short list, as they are found.
use Rattle.std.specs.Prelude.{ℕ, ◌*◌, List, [], ◌∷◌, Option, Some, None, pos, neg_ℤ}
use Rattle.problem_model.specs.declared.items.Node.TheVariants as nodes
use Rattle.problem_model.specs.declared.items.Bound.{Bound}
use Rattle.problem_model.specs.declared.items.Bound.TheVariants as bounds
use Rattle.problem_model.specs.Bounds.{Constraint}
use Rattle.problem.specs.declared.nearest.NearestFollow.{NearestFollow}

-- the bound of the short list that `nearest_follow` found for a clock, from the nearest reading before it, or none
abbrev pub listed_follow : ℕ → Option NearestFollow → List Bound
listed_follow later None = []
listed_follow later (Some f) = bounds.Follow f.earlier f.s later f.t ∷ []

-- the constraint that a reading of one clock comes at least this gap before that of another
abbrev pub gap_between : ℕ → ℕ → ℕ → ℕ → ℕ → Constraint
gap_between earlier s later t gap = record { from = nodes.Reading later t; to = nodes.Reading earlier s; weight = neg_ℤ (pos (gap * 1000000000)) }
