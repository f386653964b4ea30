-- What is known while the least widening is searched for.
use Rattle.std.specs.Prelude.{◌≡◌, ℕ, ◌<◌, ◌≤◌, ◌^◌, List, Option, Some, None, ℤ}
use Rattle.problem_model.specs.Problem.{ProblemLists}
use Rattle.cert.specs.declared.chain.Step.{Step}
use Rattle.cert_check.specs.declared.what.What.{What}
use Rattle.widen.specs.declared.tried.Tried.{Tried}
use Rattle.widen.specs.declared.tried.Tried.TheVariants.{Run, Cycle}
use Rattle.widen.specs.declared.known.Known.{Known}
use Rattle.widen.specs.Found.{IsRunAt, IsCycleAt, IsFoundBelow}

-- what trying a widening by e shows: the execution there, or a contradiction that is there up to a last widening
abbrev pub IsTried : What → ProblemLists → ℕ → Tried → Type 0
IsTried what p e (Run execution) = IsRunAt what p e execution
IsTried what p e (Cycle last cycle) = (e ≤ last) × (last < 2 ^ 62) × IsCycleAt what p last cycle

-- a contradiction of the problem where something of it is widened by so much
abbrev pub IsCycleOf : ProblemLists → List Step → Type 0
IsCycleOf p cycle = (what : What) × (e : ℕ) × IsCycleAt what p e cycle

-- no execution is known yet, or that of the problem widened by so much
abbrev pub IsFoundAbove : What → ProblemLists → ℕ → Option (List ℤ) → Type 0
IsFoundAbove what p high None = high ≡ 2 ^ 62
IsFoundAbove what p high (Some execution) = (high < 2 ^ 62) × IsRunAt what p high execution

-- nothing below the low end heals, by the cycle; the high end does, where there is an execution
pub record IsKnown (what : What) (p : ProblemLists) (k : Known) : Type 0 where
  pub low_fits : k.low ≤ 2 ^ 62
  pub below : IsFoundBelow what p k.low k.below
  pub above : IsFoundAbove what p k.high k.run
