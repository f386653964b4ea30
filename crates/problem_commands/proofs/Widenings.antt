-- From a problem and a widening in two files to what `widen` and `judge` say of them.
use Rattle.std.proofs.Common.{◌≡◌, ◌-◌, ℕ, List, Option, Some, None, Result, Ok, Err, inl, inr, refl, sym, subst, codes}
use Rattle.std.specs.Prelude.{ℤ, IfOk}
use Rattle.ports.specs.Content.{SinkTold}
use Rattle.ports.specs.Files.{Content, FilesTold, HasBytes, Keeps}
use Rattle.line_format.specs.Format.{Answers}
use Rattle.problem_model.specs.declared.items.Bound.{Bound}
use Rattle.problem_model.specs.Problem.{ProblemLists, IsProblem}
use Rattle.problem_model.specs.Nodes.{Reading, AreReadings, nodes_of}
use Rattle.problem.specs.Listing.{listing_of}
use Rattle.cert.specs.declared.chain.Step.{Step}
use Rattle.cert.specs.declared.certificate.Cert.TheVariants as certs
use Rattle.cert.specs.declared.error.CertError.{CertError}
use Rattle.cert.specs.declared.error.CertError.TheVariants as errors
use Rattle.cert.specs.Listed.{HasNames}
use Rattle.cert.proofs.OwnListing.{is_named}
use Rattle.cert_check.specs.Reasons.{IsAnswer, IsBrokenBy, IsSo}
use Rattle.cert_check.specs.Widened.{widened}
use Rattle.cert_check.specs.declared.what.What.{What}
use Rattle.cert_check.specs.declared.answer.Answer.{Answer}
use Rattle.cert_check.specs.declared.answer.Answer.TheVariants as answers
use Rattle.cert_check.specs.declared.answer.Part.{Part}
use Rattle.cert_check.specs.declared.answer.Part.TheVariants.{Cycle, Run, Upper, Lower}
use Rattle.cert_check.specs.declared.answer.Reason.{Reason}
use Rattle.cert_check.specs.declared.answer.Reason.TheVariants.{Empty, Weight, Join, Sum, Broken, Difference, Home, Away, Leaves}
use Rattle.widen.specs.declared.widening.Widening.{Widening}
use Rattle.widen.specs.declared.widening.StatedWidening.{StatedWidening}
use Rattle.widen.specs.declared.widening.Widening.TheVariants.{Least, Never}
use Rattle.widen.specs.Named.{NamesWhat, SaysWhat}
use Rattle.widen.specs.Least.{most_extra}
use Rattle.widen.specs.Widening.{ShowsWidening, IsAnswerBelow, IsJudged}
use Rattle.widen.specs.WideningText.{widening_text}
use Rattle.widen.specs.WideningFormat.{widening_format}
use Rattle.widen.specs.ReadsWidening.{ReadsWidening}
use Rattle.widen.specs.JudgedText.{IsJudgedAs}
use Rattle.widen.specs.Found.{FindsWidening}
use Rattle.cert_check.proofs.Comparing.{declared_back}
use Rattle.widen.proofs.Rising.{shown_least, shown_never}
use Rattle.widen.proofs.FoundTexts.{least_found, never_found, text_of}
use Rattle.problem_commands.specs.Printing.{IsOnlyText, Prints}
use Rattle.problem_commands.specs.Refusal.{refused_answer}
use Rattle.problem_commands.specs.Texts.{SpellsProblem, RefusesProblem}
use Rattle.problem_commands.specs.Unread.{IsUnread, IsRefusedFor, IsLong, TellsUnread, unread_cert}
use Rattle.problem_commands.specs.Verify.{NamesReason, NamesAnswer, TellsAnswer, no_line}
use Rattle.problem_commands.specs.Widening.{SpellsWidening, RefusesWidening, IsTrueOf, IsLeastText, TellsLeast, TellsLeastNamed, WideningJudged}
use Rattle.problem_commands.specs.WhatWords.{SaysNothing}
use Rattle.problem_commands.specs.declared.refusal.Refusal.{Refusal}
use Rattle.problem_commands.specs.declared.status.Status.{Status}
use Rattle.problem_commands.specs.declared.status.Status.TheVariants as statuses
use Rattle.problem_commands.specs.declared.texts.Unread.{Unread}
use Rattle.problem_commands.proofs.Printing.{only_goes, prints_as, unread_prints}
use Rattle.problem_commands.proofs.Reading.{IsWhole, spelled_in, unread_as, has_since, both_have}

-- ---- what is found
true_found : (what : What) (p : ProblemLists) (w : Widening) → FindsWidening what p w → IsTrueOf what p w
true_found what p (Least extra execution cycle) found = least_found what p extra execution cycle found
true_found what p (Never cycle) found = never_found what p cycle found

pub least_text : (p : ProblemLists) (readings : List Reading) (what : What) (w : Widening) → IsProblem p → AreReadings p readings → NamesWhat p what → FindsWidening what p w → IsLeastText p what (widening_text p (nodes_of p readings) what w)
least_text p readings what w lawful are named found = (w, true_found what p w found, found, (readings, are, text_of what p readings lawful are named w found))

module _ (p : ProblemLists) (ws : List (List ℕ)) (out out' : SinkTold) (result : Status) where
  pub named_least : (what : What) → SaysWhat p ws what → Prints (TellsLeast p what) out out' result → Prints (TellsLeastNamed p ws) out out' result
  named_least what says prints = prints_as (TellsLeast p what) (TellsLeastNamed p ws) out out' result (λ status text tells. inl (what, says, tells)) prints

  pub unknown_clock : SaysNothing p ws → Prints (IsOnlyText (codes "unknown clock\n") statuses.UnknownName) out out' result → Prints (TellsLeastNamed p ws) out out' result
  unknown_clock none prints = prints_as (IsOnlyText (codes "unknown clock\n") statuses.UnknownName) (TellsLeastNamed p ws) out out' result (λ status text only. inr (none, only)) prints

-- ---- the text of a widening in a file
pub widening_in : (files : Content) (path text : List ℕ) (P : StatedWidening → List ℕ → Type 0) (Q : StatedWidening → Answer → Type 0) (r : Result Answer Unread) → IsWhole files path text
    → IfOk r (λ v. (s : StatedWidening) × P s text × Q s v) → IfOk r (λ v. (s : StatedWidening) × HasBytes files path (P s) × Q s v)
widening_in files path text P Q (Ok v) has is = (is.0, spelled_in files path text (P is.0) has is.1, is.2)
widening_in files path text P Q (Err e) has is = tt

pub widening_refused : (p : ProblemLists) (text : List ℕ) (e : CertError) → ReadsWidening p text (Err e) → (readings : List Reading) → AreReadings p readings → IsRefusedFor (RefusesWidening p) text (unread_cert e)
widening_refused p text (errors.Syntax line) reads readings are = (readings, are, reads readings are)
widening_refused p text (errors.Name line) reads readings are = (readings, are, reads readings are)
widening_refused p text (errors.Range line) reads readings are = (readings, are, reads readings are)
widening_refused p text (errors.Limit line) reads readings are = (readings, are, reads readings are)
widening_refused p text errors.Long reads readings are = (readings, are, reads readings are)
widening_refused p text errors.Memory reads readings are = tt

pub widening_spelled : (p : ProblemLists) (text : List ℕ) (s : StatedWidening) (readings : List Reading) → AreReadings p readings → ReadsWidening p text (Ok s) → SpellsWidening p s.what s.widening text
widening_spelled p text s readings are reads = (readings, are, reads readings are)

long_widening : (p : ProblemLists) (readings : List Reading) → AreReadings p readings → (text : List ℕ) (refusal : Refusal) → IsLong text refusal → RefusesWidening p text refusal
long_widening p readings are text refusal long = (readings, are, subst (λ (r : Refusal). Answers (widening_format p readings) text (refused_answer r)) (sym long.0) long.1)

pub unread_widening : (p : ProblemLists) (readings : List Reading) (path : List ℕ) (old new : FilesTold) (u : Unread) → AreReadings p readings → IsUnread IsLong path old new u → IsUnread (RefusesWidening p) path old new u
unread_widening p readings path old new u are is = unread_as IsLong (RefusesWidening p) path old new u (long_widening p readings are) is

-- ---- the bound that a reason tells of has names
module _ (what : What) (p : ProblemLists) (lawful : IsProblem p) (e : ℕ) where
  broken_run : (b : Bound) (weight difference : ℤ) (values : List ℤ) → IsBrokenBy (widened what p e) values (Broken b weight difference) → HasNames (listing_of p) b
  broken_run b weight difference values is =
      let first = is.2.2 in
      let declared = declared_back what p e b first.constraint first.declares in
      is_named p b declared.0 declared.1 lawful

  broken_named : (b : Bound) (weight difference : ℤ) (values : List ℤ) (part : Part) → IsSo (widened what p e) (certs.Run values) part (Broken b weight difference) → HasNames (listing_of p) b
  broken_named b weight difference values Cycle is = absurd is
  broken_named b weight difference values Run is = broken_run b weight difference values is
  broken_named b weight difference values Upper is = absurd is
  broken_named b weight difference values Lower is = absurd is

  leaves_run : (b : Bound) (values : List ℤ) (part : Part) → IsSo (widened what p e) (certs.Run values) part (Leaves b) → ⊥
  leaves_run b values Cycle is = is
  leaves_run b values Run is = is
  leaves_run b values Upper is = is
  leaves_run b values Lower is = is

  run_named : (values : List ℤ) (part : Part) (reason : Reason) → IsSo (widened what p e) (certs.Run values) part reason → NamesReason p reason
  run_named values part Empty is = tt
  run_named values part (Weight k) is = tt
  run_named values part (Join k) is = tt
  run_named values part (Sum sum) is = tt
  run_named values part (Broken b weight difference) is = broken_named b weight difference values part is
  run_named values part (Difference difference) is = tt
  run_named values part Home is = tt
  run_named values part Away is = tt
  run_named values part (Leaves b) is = absurd (leaves_run b values part is)

  broken_cycle : (b : Bound) (weight difference : ℤ) (steps : List Step) (part : Part) → IsSo (widened what p e) (certs.Cycle steps) part (Broken b weight difference) → ⊥
  broken_cycle b weight difference steps Cycle is = is
  broken_cycle b weight difference steps Run is = is
  broken_cycle b weight difference steps Upper is = is
  broken_cycle b weight difference steps Lower is = is

  leaves_cycle : (b : Bound) (steps : List Step) (part : Part) → IsSo (widened what p e) (certs.Cycle steps) part (Leaves b) → ⊥
  leaves_cycle b steps Cycle is = is
  leaves_cycle b steps Run is = is
  leaves_cycle b steps Upper is = is
  leaves_cycle b steps Lower is = is

  cycle_named : (steps : List Step) (part : Part) (reason : Reason) → IsSo (widened what p e) (certs.Cycle steps) part reason → NamesReason p reason
  cycle_named steps part Empty is = tt
  cycle_named steps part (Weight k) is = tt
  cycle_named steps part (Join k) is = tt
  cycle_named steps part (Sum sum) is = tt
  cycle_named steps part (Broken b weight difference) is = absurd (broken_cycle b weight difference steps part is)
  cycle_named steps part (Difference difference) is = tt
  cycle_named steps part Home is = tt
  cycle_named steps part Away is = tt
  cycle_named steps part (Leaves b) is = absurd (leaves_cycle b steps part is)

  run_answer : (values : List ℤ) (answer : Answer) → IsAnswer (widened what p e) (certs.Run values) answer → NamesAnswer p answer
  run_answer values answers.Yes is = tt
  run_answer values (answers.No part reason) is = run_named values part reason is.is_so

  cycle_answer : (steps : List Step) (answer : Answer) → IsAnswer (widened what p e) (certs.Cycle steps) answer → NamesAnswer p answer
  cycle_answer steps answers.Yes is = tt
  cycle_answer steps (answers.No part reason) is = cycle_named steps part reason is.is_so

below_answer : (what : What) (p : ProblemLists) → IsProblem p → (extra : ℕ) (cycle : Option (List Step)) (answer : Answer) → IsAnswerBelow what p extra cycle answer → NamesAnswer p answer
below_answer what p lawful extra None answer is = subst (NamesAnswer p) (sym is) tt
below_answer what p lawful extra (Some cycle) answer is = cycle_answer what p lawful (extra - 1) cycle answer is

pub judged_named : (what : What) (p : ProblemLists) (w : Widening) (answer : Answer) → IsProblem p → IsJudged what p w answer → NamesAnswer p answer
judged_named what p (Least extra execution cycle) answer lawful (inl is) = run_answer what p lawful extra execution answer is.0
judged_named what p (Least extra execution cycle) answer lawful (inr is) = below_answer what p lawful extra cycle answer is.1
judged_named what p (Never cycle) answer lawful is = cycle_answer what p lawful most_extra cycle answer is

-- ---- what is shown is true
true_shown : (what : What) (p : ProblemLists) (w : Widening) (text : List ℕ) → SpellsWidening p what w text → ShowsWidening what p w → IsTrueOf what p w
true_shown what p (Least extra execution cycle) text (readings, are, is) shows = shown_least what p extra execution cycle is.2.0 is.1 shows
true_shown what p (Never cycle) text spelled shows = shown_never what p cycle shows

-- ---- how a run ends
module _ (problem widening : List ℕ) (out out' : SinkTold) (result : Status) where
  -- the problem was not read
  pub judge_stops : (old new : FilesTold) (u : Unread) → IsUnread RefusesProblem problem old new u → Prints (TellsUnread u (codes "problem") statuses.BadProblem) out out' result
      → Prints (WideningJudged problem widening old new) out out' result
  judge_stops old new u is prints =
      unread_prints (WideningJudged problem widening old new) RefusesProblem problem old new (codes "problem") statuses.BadProblem
      (λ refusal has. (refusal, has, refl)) (λ missed. (inl missed, refl)) u out out' result is prints

  module _ (old mid new : FilesTold) (p : ProblemLists) (has : HasBytes old.content problem (SpellsProblem p)) (keeps : Keeps old mid) where
    -- the widening was not read
    pub widening_stops : (u : Unread) → IsUnread (RefusesWidening p) widening mid new u → Prints (TellsUnread u (codes "certificate") statuses.BadCert) out out' result
        → Prints (WideningJudged problem widening old new) out out' result
    widening_stops u is prints =
        unread_prints (WideningJudged problem widening old new) (RefusesWidening p) widening mid new (codes "certificate") statuses.BadCert
        (λ refusal bad. (
          p,
          refusal,
          both_have old.content problem widening (SpellsProblem p) (λ more. RefusesWidening p more refusal) (λ text more. SpellsProblem p text × RefusesWidening p more refusal) (λ text more spells refuses. (spells, refuses)) has
              (has_since (λ more. RefusesWidening p more refusal) old.content mid.content widening keeps.same bad),
          refl,
        )) (λ missed. (inr (p, has, (mid, keeps, missed)), refl)) u out out' result is prints

    -- the widening was judged
    module _ (what : What) (w : Widening) (spelled : HasBytes mid.content widening (SpellsWidening p what w)) where
      answer_goes : (answer : Answer) → IsJudgedAs what p w answer → (status : Status) (text : List ℕ) → TellsAnswer p answer status text → WideningJudged problem widening old new status text
      answer_goes answers.Yes is status text tells =
          only_goes (WideningJudged problem widening old new) (codes "yes\n") statuses.Done (
            p,
            what,
            w,
            both_have old.content problem widening (SpellsProblem p) (SpellsWidening p what w) (λ read more. SpellsProblem p read × SpellsWidening p what w more × ShowsWidening what p w × IsTrueOf what p w)
                (λ read more spells spelled. (spells, spelled, is.exact.1 refl, true_shown what p w more spelled (is.exact.1 refl))) has (has_since (SpellsWidening p what w) old.content mid.content widening keeps.same spelled),
            refl,
          ) status text tells
      answer_goes (answers.No part reason) is status text tells =
          only_goes (WideningJudged problem widening old new) (no_line p part reason) statuses.No (
            p,
            what,
            w,
            part,
            reason,
            both_have old.content problem widening (SpellsProblem p) (SpellsWidening p what w) (λ read more. SpellsProblem p read × SpellsWidening p what w more × (ShowsWidening what p w → ⊥) × IsJudged what p w (answers.No part reason))
                (λ read more spells spelled. (spells, spelled, (λ shows. no_yes (is.exact.0 shows)), is.judged)) has (has_since (SpellsWidening p what w) old.content mid.content widening keeps.same spelled),
            refl,
          ) status text tells
        where
          no_yes : answers.No part reason ≡ answers.Yes → ⊥
          no_yes e = absurd cc

      pub judged : (answer : Answer) → IsJudgedAs what p w answer → Prints (TellsAnswer p answer) out out' result → Prints (WideningJudged problem widening old new) out out' result
      judged answer is prints = prints_as (TellsAnswer p answer) (WideningJudged problem widening old new) out out' result (answer_goes answer is) prints
