-- What answers an addition whose packets are kept: by the place of its label, by its name, and by its line.
use Rattle.std.proofs.Common.{◌≡◌, ℕ, ◌+◌, ◌<◌, List, [], ◌∷◌, ◌++◌, length, slice_get, Option, Some, None, true, refl, sym, ◌∙◌, ap, subst, arith}
use Rattle.std.specs.Prelude.{Result, Ok, Err, OnErr}
use Rattle.ports.specs.Files.{FilesTold}
use Rattle.captures.specs.Capture as captures
use Rattle.captures.specs.Capture.{Reads}
use Rattle.mergecap.specs.MergedCapture.{Timed}
use Rattle.replies.specs.declared.outcome.Outcome.{Outcome}
use Rattle.replies.specs.declared.outcome.Outcome.TheVariants.{Added, Kept, Refused}
use Rattle.replies.specs.declared.refusal.Refusal.{Refusal}
use Rattle.replies.specs.declared.refusal.Refusal.TheVariants.{NoCommand, UnknownLabel}
use Rattle.session.specs.declared.kept_packets.AddAnswer.{AddAnswer}
use Rattle.session.specs.declared.kept_packets.AddAnswer.TheVariants as answers
use Rattle.replies.specs.Refusals.{refusal_line}
use Rattle.replies.specs.Outcomes.{IsOutcomeLine}
use Rattle.traces.specs.Traces.{Traces}
use Rattle.replies.specs.Commands.{Command, Add, Asks}
use Rattle.replies.specs.Reply.{Found, Unread, label_at}
use Rattle.replies.specs.Sessions.{CommandReply, AreCounted}
use Rattle.session.specs.Stands.{Held, Under}
use Rattle.session.specs.Taken.{packets_from}
use Rattle.session.specs.Taking.{only_adding, IsAddedLine, IsAnswerOf, Takes}
use Rattle.session.specs.TakingInside.{KeepsFound, UnderAnswered, TakesUnder, TakesFile}
use Rattle.session.proofs.BroughtPackets.{found_brings}
use Rattle.session.proofs.Finding.{by_place, found_unread, label_in}

-- what is so anyway is so of an error
pub where_err : {T E : Type 0} (r : Result T E) (P : Type 0) → P → OnErr r P
where_err (Ok x) P p = tt
where_err (Err e) P p = p

-- nothing was read, and no file failed
counted_none : (files : FilesTold) → AreCounted (Unread ∷ []) files files
counted_none files = record { failed = λ below. omega arith; absent = λ below. omega arith }

none_behind : (xs : List Timed) → xs ++ [] ≡ xs
none_behind [] = refl
none_behind (x ∷ xs) = ap (λ (more : List Timed). x ∷ more) (none_behind xs)

all_stay : (old new : List Timed) → new ≡ old → new ≡ old ++ []
all_stay old new same = same ∙ sym (none_behind old)

-- ---- by the place of its label
module _ (one : (bytes : List ℕ) (a b : captures.Capture) → Reads bytes a → Reads bytes b → a ≡ b) (held held' : Held) (files files' : FilesTold) (k before : ℕ) (u : Under) (path : List ℕ)
    (packets : List captures.Seen) (old new : List Timed) (inside : k < length held.declaration.labels) (at : slice_get held.under k ≡ Some u) (count : length u.events ≡ before)
    (stored : new ≡ old ++ packets_from k (before + 1) packets) where
  pub under_accepted : (outcome : Outcome) → ((r : Refusal) → outcome ≡ Refused r → ⊥) → UnderAnswered k path files files' held held' (KeepsFound true held k packets outcome) (IsOutcomeLine outcome) →
      TakesUnder k path files files' held held' old new answers.Accepted
  under_accepted (Added a) other answered d s stands =
      let x = answered d s stands in
      let says : IsAddedLine x.3.0 = (a, x.3.3) in (
        x.0,
        x.3.0,
        x.3.1,
        packets_from k (before + 1) packets,
        (x.1, x.3.2),
        (says, found_brings one held d s x.3.1 k before u x.0 x.3.0 packets stands inside at count (x.2 refl) says x.3.2),
        stored,
        x.4,
        x.3.4,
      )
  under_accepted (Kept slot) other answered d s stands = absurd (let x = answered d s stands in x.2 refl)
  under_accepted (Refused r) other answered d s stands = absurd (other r refl)

-- an answer that tells this refusal
abbrev pub TellsRefusal : Refusal → AddAnswer → Type 0
TellsRefusal r answer = (old new : Traces) (text : List ℕ) → text ≡ refusal_line r → IsAnswerOf old new text [] answer

pub under_refused : (held held' : Held) (files files' : FilesTold) (k : ℕ) (path : List ℕ) (Says : Found → Type 0) (old new : List Timed) (r : Refusal) (answer : AddAnswer) → TellsRefusal r answer → new ≡ old →
    UnderAnswered k path files files' held held' Says (IsOutcomeLine (Refused r)) → TakesUnder k path files files' held held' old new answer
under_refused held held' files files' k path Says old new r answer tells same answered d s stands =
    let x = answered d s stands in
    (x.0, x.3.0, x.3.1, [], (x.1, x.3.2), tells s.traces x.3.1.traces x.3.0 x.3.3, all_stay old new same, x.4, x.3.4)

-- ---- by its name
module _ (held held' : Held) (files files' : FilesTold) (label path : List ℕ) (old new : List Timed) (answer : AddAnswer) where
  pub file_known : (k : ℕ) → Some k ≡ label_at held.declaration label → TakesUnder k path files files' held held' old new answer → TakesFile label path files files' held held' old new answer
  file_known k some takes d s stands =
      let x = takes d s stands in
      let here = label_in held d s label (Some k) stands some in
      (x.0, x.1, x.2, x.3, (x.4.0 label, by_place d s x.2 _ (Some k) x.0 x.1 here x.4.1), x.5, x.6, x.7, x.8)

pub file_unknown : (held : Held) (files : FilesTold) (label path : List ℕ) (old new : List Timed) (answer : AddAnswer) → None ≡ label_at held.declaration label → TellsRefusal UnknownLabel answer → new ≡ old →
    TakesFile label path files files held held old new answer
file_unknown held files label path old new answer none tells same d s stands =
    let here = label_in held d s label None stands none in
    (Unread, refusal_line UnknownLabel, s, [], (found_unread files.content label path, by_place d s s _ None Unread _ here (refl, refl)), tells s.traces s.traces _ refl, all_stay old new same, counted_none files, stands)

-- ---- by its line
pub line_takes : (held held' : Held) (files files' : FilesTold) (line label path : List ℕ) (old new : List Timed) (answer : AddAnswer) → Asks line (Some (Add label path)) →
    TakesFile label path files files' held held' old new answer → Takes line files files' held held' old new answer
line_takes held held' files files' line label path old new answer asks takes d s stands =
    let x = takes d s stands in
    (x.0, x.1, x.2, x.3, (Some (Add label path), asks, x.4), x.5, x.6, x.7, x.8)

-- a line that adds nothing
pub line_refused : (held : Held) (files : FilesTold) (line : List ℕ) (old new : List Timed) (answer : AddAnswer) (c : Option Command) → Asks line c → only_adding c ≡ None → TellsRefusal NoCommand answer → new ≡ old →
    Takes line files files held held old new answer
line_refused held files line old new answer c asks none tells same d s stands =
    let reply = subst (λ (o : Option Command). CommandReply d files.content s o Unread (refusal_line NoCommand) s) (sym none) (refl, (refl, refl)) in
    (Unread, refusal_line NoCommand, s, [], (c, asks, reply), tells s.traces s.traces _ refl, all_stay old new same, counted_none files, stands)
