-- From the problem in a file, or from why there is none, to what a command prints.
use Rattle.std.proofs.Common.{ℕ, List, codes, inl, inr, refl}
use Rattle.ports.specs.Content.{SinkTold}
use Rattle.ports.specs.Files.{FilesTold, HasBytes}
use Rattle.problem_model.specs.Problem.{ProblemLists}
use Rattle.problem_commands.specs.Printing.{Prints}
use Rattle.problem_commands.specs.Texts.{SpellsProblem, RefusesProblem}
use Rattle.problem_commands.specs.ForProblem.{ForProblem}
use Rattle.problem_commands.specs.Unread.{IsUnread, TellsUnread}
use Rattle.problem_commands.specs.declared.status.Status.{Status}
use Rattle.problem_commands.specs.declared.status.Status.TheVariants as statuses
use Rattle.problem_commands.specs.declared.texts.Unread.{Unread}
use Rattle.problem_commands.proofs.Printing.{prints_as, unread_prints}

module _ (Tells : ProblemLists → Status → List ℕ → Type 0) (problem : List ℕ) (old new : FilesTold) (out out' : SinkTold) (result : Status) where
  pub told : (p : ProblemLists) → HasBytes old.content problem (SpellsProblem p) → Prints (Tells p) out out' result → Prints (ForProblem Tells problem old new) out out' result
  told p has prints = prints_as (Tells p) (ForProblem Tells problem old new) out out' result (λ status text tells. inl (p, has, tells)) prints

  pub stopped : (u : Unread) → IsUnread RefusesProblem problem old new u → Prints (TellsUnread u (codes "problem") statuses.BadProblem) out out' result → Prints (ForProblem Tells problem old new) out out' result
  stopped u is prints =
      unread_prints (ForProblem Tells problem old new) RefusesProblem problem old new (codes "problem") statuses.BadProblem
      (λ refusal has. inr (inl (refl, (refusal, has, refl)))) (λ missed. inr (inr (refl, missed, refl))) u out out' result is prints
