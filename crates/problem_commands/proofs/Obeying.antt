-- From the texts in two files to what `obey` says of them.
use Rattle.std.proofs.Common.{ℕ, List, inl, inr, refl, codes}
use Rattle.ports.specs.Content.{SinkTold}
use Rattle.ports.specs.Files.{FilesTold, HasBytes, Keeps}
use Rattle.problem_model.specs.Problem.{ProblemLists}
use Rattle.problem_model.specs.Bounds.{Times, IsExecution}
use Rattle.problem_model.specs.ShortList.{IsFirstBroken}
use Rattle.problem_model.specs.BoundText.{broken_line}
use Rattle.cert_check.specs.Verdict.{IsVerdict}
use Rattle.cert_check.specs.declared.verdict.Verdict.{Verdict}
use Rattle.cert_check.specs.declared.verdict.Verdict.TheVariants as verdicts
use Rattle.problem_commands.specs.Printing.{Prints}
use Rattle.problem_commands.specs.Texts.{SpellsProblem, SpellsExecution, RefusesProblem, RefusesExecution}
use Rattle.problem_commands.specs.Unread.{IsUnread, TellsUnread}
use Rattle.problem_commands.specs.Obey.{TellsVerdict, Obeyed}
use Rattle.problem_commands.specs.declared.status.Status.{Status}
use Rattle.problem_commands.specs.declared.status.Status.TheVariants as statuses
use Rattle.problem_commands.specs.declared.texts.Unread.{Unread}
use Rattle.problem_commands.proofs.Printing.{only_goes, prints_as, unread_prints}
use Rattle.problem_commands.proofs.Reading.{has_since, both_have}

module _ (problem exec : List ℕ) (out out' : SinkTold) (result : Status) where
  -- the problem was not read
  pub problem_stops : (old new : FilesTold) (u : Unread) → IsUnread RefusesProblem problem old new u → Prints (TellsUnread u (codes "problem") statuses.BadProblem) out out' result
      → Prints (Obeyed problem exec old new) out out' result
  problem_stops old new u is prints =
      unread_prints (Obeyed problem exec old new) RefusesProblem problem old new (codes "problem") statuses.BadProblem
      (λ refusal has. (refusal, has, refl)) (λ missed. (inl missed, refl)) u out out' result is prints

  module _ (old mid new : FilesTold) (p : ProblemLists) (has : HasBytes old.content problem (SpellsProblem p)) (keeps : Keeps old mid) where
    -- the execution was not read
    pub execution_stops : (u : Unread) → IsUnread (RefusesExecution p) exec mid new u → Prints (TellsUnread u (codes "execution") statuses.BadExec) out out' result
        → Prints (Obeyed problem exec old new) out out' result
    execution_stops u is prints =
        unread_prints (Obeyed problem exec old new) (RefusesExecution p) exec mid new (codes "execution") statuses.BadExec
        (λ refusal bad. (
          p,
          refusal,
          both_have old.content problem exec (SpellsProblem p) (λ more. RefusesExecution p more refusal) (λ text more. SpellsProblem p text × RefusesExecution p more refusal) (λ text more spells refuses. (spells, refuses)) has
              (has_since (λ more. RefusesExecution p more refusal) old.content mid.content exec keeps.same bad),
          refl,
        )) (λ missed. (inr (p, has, (mid, keeps, missed)), refl)) u out out' result is prints

    -- the execution was judged
    module _ (x : Times) (spelled : HasBytes mid.content exec (SpellsExecution p x)) where
      verdict_goes : (v : Verdict) → IsVerdict p x v → (status : Status) (text : List ℕ) → TellsVerdict p v status text → Obeyed problem exec old new status text
      verdict_goes verdicts.Obeys is status text tells =
          only_goes (Obeyed problem exec old new) (codes "obeys\n") statuses.Done (
            p,
            x,
            both_have old.content problem exec (SpellsProblem p) (SpellsExecution p x) (λ read more. SpellsProblem p read × SpellsExecution p x more × IsExecution p x)
                (λ read more spells spelled. (spells, spelled, is)) has (has_since (SpellsExecution p x) old.content mid.content exec keeps.same spelled),
            refl,
          ) status text tells
      verdict_goes (verdicts.Broken b weight difference) is status text tells =
          only_goes (Obeyed problem exec old new) (broken_line p b weight difference) statuses.No (
            p,
            x,
            b,
            weight,
            difference,
            both_have old.content problem exec (SpellsProblem p) (SpellsExecution p x) (λ read more. SpellsProblem p read × SpellsExecution p x more × IsFirstBroken p x b weight difference)
                (λ read more spells spelled. (spells, spelled, is)) has (has_since (SpellsExecution p x) old.content mid.content exec keeps.same spelled),
            refl,
          ) status text tells

      pub judged : (v : Verdict) → IsVerdict p x v → Prints (TellsVerdict p v) out out' result → Prints (Obeyed problem exec old new) out out' result
      judged v is prints = prints_as (TellsVerdict p v) (Obeyed problem exec old new) out out' result (verdict_goes v is) prints
