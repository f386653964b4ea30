-- From the texts in two files to what `verify` says of them.
use Rattle.std.proofs.Common.{◌≡◌, ℕ, List, inl, inr, refl, codes}
use Rattle.ports.specs.Content.{SinkTold}
use Rattle.ports.specs.Files.{FilesTold, HasBytes, Keeps}
use Rattle.problem_model.specs.Problem.{ProblemLists, IsProblem}
use Rattle.cert.specs.declared.certificate.Cert.{Cert}
use Rattle.cert.specs.declared.certificate.Cert.TheVariants as kinds
use Rattle.cert.specs.Shows.{Shows, weighed_bounds}
use Rattle.problem_model.proofs.Solutions.{no_execution}
use Rattle.cert_check.proofs.Showing.{run_is, upper_is, lower_is}
use Rattle.cert_check.specs.CheckedText.{IsCheckOf}
use Rattle.cert_check.specs.Reasons.{IsFirstReason}
use Rattle.cert_check.specs.declared.answer.Answer.{Answer}
use Rattle.cert_check.specs.declared.answer.Answer.TheVariants as answers
use Rattle.problem_commands.specs.Printing.{Prints}
use Rattle.problem_commands.specs.Texts.{SpellsProblem, SpellsCert, RefusesProblem, RefusesCert}
use Rattle.problem_commands.specs.Unread.{IsUnread, TellsUnread}
use Rattle.problem_commands.specs.Verify.{HoldsForAll, TellsAnswer, Verified, no_line}
use Rattle.problem_commands.specs.declared.status.Status.{Status}
use Rattle.problem_commands.specs.declared.status.Status.TheVariants as statuses
use Rattle.problem_commands.specs.declared.texts.Unread.{Unread}
use Rattle.problem_commands.proofs.Printing.{only_goes, prints_as, unread_prints}
use Rattle.problem_commands.proofs.Reading.{has_since, both_have}

-- ---- what is shown holds of all executions
holds_for_all : (p : ProblemLists) (c : Cert) → IsProblem p → Shows p c → HoldsForAll p c
holds_for_all p (kinds.Cycle steps) lawful shows = λ x is. no_execution p (weighed_bounds steps) x shows is
holds_for_all p (kinds.Run execution) lawful shows = λ x lists. run_is p execution x lawful.formed shows lists
holds_for_all p (kinds.Ends a b upper lower) lawful shows = (upper_is p a b upper shows.0, lower_is p a b lower shows.1)

-- ---- how a run ends
module _ (problem cert : List ℕ) (out out' : SinkTold) (result : Status) where
  -- the problem was not read
  pub problem_stops : (old new : FilesTold) (u : Unread) → IsUnread RefusesProblem problem old new u → Prints (TellsUnread u (codes "problem") statuses.BadProblem) out out' result
      → Prints (Verified problem cert old new) out out' result
  problem_stops old new u is prints =
      unread_prints (Verified problem cert old new) RefusesProblem problem old new (codes "problem") statuses.BadProblem
      (λ refusal has. (refusal, has, refl)) (λ missed. (inl missed, refl)) u out out' result is prints

  module _ (old mid new : FilesTold) (p : ProblemLists) (has : HasBytes old.content problem (SpellsProblem p)) (keeps : Keeps old mid) where
    -- the certificate was not read
    pub certificate_stops : (u : Unread) → IsUnread (RefusesCert p) cert mid new u → Prints (TellsUnread u (codes "certificate") statuses.BadCert) out out' result
        → Prints (Verified problem cert old new) out out' result
    certificate_stops u is prints =
        unread_prints (Verified problem cert old new) (RefusesCert p) cert mid new (codes "certificate") statuses.BadCert
        (λ refusal bad. (
          p,
          refusal,
          both_have old.content problem cert (SpellsProblem p) (λ more. RefusesCert p more refusal) (λ text more. SpellsProblem p text × RefusesCert p more refusal) (λ text more spells refuses. (spells, refuses)) has
              (has_since (λ more. RefusesCert p more refusal) old.content mid.content cert keeps.same bad),
          refl,
        )) (λ missed. (inr (p, has, (mid, keeps, missed)), refl)) u out out' result is prints

    -- the certificate was checked
    module _ (lawful : IsProblem p) (c : Cert) (spelled : HasBytes mid.content cert (SpellsCert p c)) where
      answer_goes : (answer : Answer) → IsCheckOf p c answer → (status : Status) (text : List ℕ) → TellsAnswer p answer status text → Verified problem cert old new status text
      answer_goes answers.Yes is status text tells =
          only_goes (Verified problem cert old new) (codes "yes\n") statuses.Done (
            p,
            c,
            both_have old.content problem cert (SpellsProblem p) (SpellsCert p c) (λ read more. SpellsProblem p read × SpellsCert p c more × Shows p c × HoldsForAll p c)
                (λ read more spells spelled. (spells, spelled, is.is_answer, holds_for_all p c lawful is.is_answer)) has (has_since (SpellsCert p c) old.content mid.content cert keeps.same spelled),
            refl,
          ) status text tells
      answer_goes (answers.No part reason) is status text tells =
          only_goes (Verified problem cert old new) (no_line p part reason) statuses.No (
            p,
            c,
            part,
            reason,
            both_have old.content problem cert (SpellsProblem p) (SpellsCert p c) (λ read more. SpellsProblem p read × SpellsCert p c more × (Shows p c → ⊥) × IsFirstReason p c part reason)
                (λ read more spells spelled. (spells, spelled, (λ shows. no_yes (is.exact shows)), is.is_answer)) has (has_since (SpellsCert p c) old.content mid.content cert keeps.same spelled),
            refl,
          ) status text tells
        where
          no_yes : answers.No part reason ≡ answers.Yes → ⊥
          no_yes e = absurd cc

      pub checked : (answer : Answer) → IsCheckOf p c answer → Prints (TellsAnswer p answer) out out' result → Prints (Verified problem cert old new) out out' result
      checked answer is prints = prints_as (TellsAnswer p answer) (Verified problem cert old new) out out' result (answer_goes answer is) prints
