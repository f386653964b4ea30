-- From two names to what `ends` says of their events.
use Rattle.std.proofs.Common.{◌⊎◌, inl, inr, ℕ, List, codes}
use Rattle.ports.specs.Content.{SinkTold}
use Rattle.problem_model.specs.Problem.{ProblemLists}
use Rattle.problem.specs.Line.{HasEvent, IsUnknown}
use Rattle.problem_commands.specs.Printing.{IsOnlyText, Prints}
use Rattle.problem_commands.specs.Intervals.{TellsInterval, TellsNamed}
use Rattle.problem_commands.specs.declared.status.Status.{Status}
use Rattle.problem_commands.specs.declared.status.Status.TheVariants as statuses
use Rattle.problem_commands.proofs.Printing.{prints_as}

module _ (p : ProblemLists) (first second : List ℕ) (out out' : SinkTold) (result : Status) where
  pub known_names : (from to : ℕ) → HasEvent p from first → HasEvent p to second → Prints (TellsInterval p from to) out out' result → Prints (TellsNamed p first second) out out' result
  known_names from to named named' prints =
      prints_as (TellsInterval p from to) (TellsNamed p first second) out out' result (λ status text tells. inl (from, to, named, named', tells)) prints

  pub unknown_name : IsUnknown p first ⊎ IsUnknown p second → Prints (IsOnlyText (codes "unknown event\n") statuses.UnknownName) out out' result → Prints (TellsNamed p first second) out out' result
  unknown_name unknown prints =
      prints_as (IsOnlyText (codes "unknown event\n") statuses.UnknownName) (TellsNamed p first second) out out' result (λ status text only. inr (unknown, only)) prints
