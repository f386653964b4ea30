-- The least widening of a problem.
use Rattle.std.specs.Prelude.{ℕ, ◌<◌, ◌-◌, ◌^◌}
use Rattle.problem_model.specs.Problem.{ProblemLists}
use Rattle.problem_model.specs.Bounds.{Times, IsExecution}
use Rattle.cert_check.specs.declared.what.What.{What}
use Rattle.cert_check.specs.Widened.{widened}

-- the greatest widening, 2^62 - 1
abbrev pub most_extra : ℕ
most_extra = 2 ^ 62 - 1

-- real times obey all bounds of the problem where what is named is widened by e
abbrev pub HasExecution : What → ProblemLists → ℕ → Type 0
HasExecution what p e = (x : Times) × IsExecution (widened what p e) x

-- with e, below 2^62, there is an execution, and with less there is none: where the one message takes 20 ns at least
-- and 10 at most, and nothing else hinders, e is 10 for greatest delays, and for least ones too
pub record IsLeastWidening (what : What) (p : ProblemLists) (e : ℕ) : Type 0 where
  pub within : e < 2 ^ 62
  pub heals : HasExecution what p e
  pub least : (f : ℕ) → f < e → HasExecution what p f → ⊥

-- no widening below 2^62 heals, as where no bound of a contradiction is widened
abbrev pub HasNoWidening : What → ProblemLists → Type 0
HasNoWidening what p = (e : ℕ) → e < 2 ^ 62 → HasExecution what p e → ⊥
