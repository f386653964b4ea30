-- Replies of a session that stands for traces.
use Rattle.std.proofs.Common.{◌≡◌, ℕ, ◌≤◌, List, [], ◌∷◌, length, map, Option, Some, None, IfSome, true, nat_le, refl, sym, ◌∙◌, ap, subst, arith}
use Rattle.std.specs.Borrow.{Bor}
use Rattle.ports.specs.Files.{Content, FilesTold, Keeps}
use Rattle.decl.specs.Declaration.{Declaration, IsDeclaration}
use Rattle.traces.specs.Seen.{Seen}
use Rattle.traces.specs.declared.accepted.Accepted.{Accepted}
use Rattle.traces.specs.declared.event_id.EventId.{EventId}
use Rattle.solver.specs.Solver.{SolverLists}
use Rattle.traces.specs.Traces.{Missed, missed_of, seen_by}
use Rattle.traces.specs.Held.{missed_in, seen_in}
use Rattle.traces.specs.Messages.{problem_of, problem_of_seen}
use Rattle.queries.specs.Clocks.{KeepsTime}
use Rattle.replies.specs.declared.refusal.Refusal.TheVariants.{NoCommand}
use Rattle.replies.specs.Refusals.{refusal_line}
use Rattle.replies.specs.declared.command.Question.TheVariants as questions
use Rattle.replies.specs.Commands.{Command, Add, Keep, Ask, Question, Asks, IsReadOff, question_seen}
use Rattle.replies.specs.Reply.{State, Found, Unread, IsAnswerTo, KeepReply}
use Rattle.replies.specs.Sessions.{CommandReply, LineReply, FoundAt, AreCounted}
use Rattle.session.specs.Stands.{Held, StandsFor, Stepped, held_parts}
use Rattle.session.specs.Inside.{UnreadAnswered, CommandAnswered}
use Rattle.session.proofs.Telling.{Told}
use Rattle.session.proofs.Holding.{seen_accepted}
use Rattle.session.proofs.MissedPackets.{missed_same}

-- ---- questions
-- whatever answers stand ready, the session stands for the same
pub other_answers : (d : Declaration) (accepted : List Accepted) (kept : List EventId) (before after : Option SolverLists) (x : Declaration) (s : State) →
    StandsFor (held_parts d accepted kept before) x s → StandsFor (held_parts d accepted kept after) x s
other_answers d accepted kept before after x s stands = record {
  declaration = stands.declaration;
  labels = stands.labels;
  kinds = stands.kinds;
  events = stands.events;
  sizes = stands.sizes;
  streams = stands.streams;
  kept = stands.kept;
}

-- what is said of the events that are held
by_events : (d : Declaration) (accepted : List Accepted) (kept : List EventId) (before : Option SolverLists) (x : Declaration) (s : State) → StandsFor (held_parts d accepted kept before) x s →
    (P : Declaration → List (List Seen) → Type 0) → P d (seen_in accepted) → P x (seen_by x s.traces)
by_events d accepted kept before x s stands P is =
    let here : P x (seen_in accepted) = subst (λ (y : Declaration). P y (seen_in accepted)) stands.declaration is in
    subst (λ (seen : List (List Seen)). P x seen) (sym (seen_accepted accepted) ∙ stands.events) here

-- what answers a question about what is held is a reply, whatever events are kept and whatever answers stand ready
pub answered : (d : Declaration) (accepted : List Accepted) (q : Question) (IsWritten : List ℕ → Type 0) → Told (IsAnswerTo q d (seen_in accepted) (missed_in accepted)) IsWritten →
    (kept : List EventId) (before after : Option SolverLists) → UnreadAnswered (held_parts d accepted kept before) (held_parts d accepted kept after) (Ask q) IsWritten
answered d accepted q IsWritten says kept before after x s stands =
    let seen : IsAnswerTo q x (seen_by x s.traces) (missed_in accepted) says.0 =
    by_events d accepted kept before x s stands (λ (y : Declaration) (seen : List (List Seen)). IsAnswerTo q y seen (missed_in accepted) says.0) says.1 in
    let missed : missed_in accepted ≡ map missed_of s.traces = missed_same (held_parts d accepted kept before) accepted x s refl stands in
    (says.0, s, (refl, refl, subst (λ (ms : List Missed). IsAnswerTo q x (seen_by x s.traces) ms says.0) missed seen), says.2, other_answers d accepted kept before after x s stands)

-- the clock of a declared source is never short or long in the problem of what is held
pub source_keeps : (d : Declaration) (accepted : List Accepted) → IsDeclaration d → IfSome d.source (λ clock. KeepsTime (problem_of_seen d (seen_in accepted)) clock)
source_keeps d accepted declared = declared.clocks.source_true

-- the event that the question for all times names, if any, has rows where it is read off
pub times_at_hand : (HasRows : List ℕ → Type 0) (since : Option (Bor (List ℕ))) → IsReadOff HasRows (question_seen (questions.Times since)) → IfSome since (λ event. HasRows event.now)
times_at_hand HasRows None known = known
times_at_hand HasRows (Some event) known = known

-- ---- events that are kept
-- what came of a kept event is a reply, and the session then stands for the events that are kept
abbrev KeepSays : List EventId → List ℕ → List ℕ → List EventId → Declaration → List (List Seen) → Type 0
KeepSays kept name line kept' d seen = KeepReply (problem_of_seen d seen) seen kept name line kept'

pub keep_answered : (d : Declaration) (accepted : List Accepted) (kept kept' : List EventId) (before after : Option SolverLists) (name line : List ℕ) →
    KeepReply (problem_of_seen d (seen_in accepted)) (seen_in accepted) kept name line kept' → UnreadAnswered (held_parts d accepted kept before) (held_parts d accepted kept' after) (Keep name) (λ text. text ≡ line)
keep_answered d accepted kept kept' before after name line reply x s stands =
    let here : KeepSays kept name line kept' x (seen_by x s.traces) = by_events d accepted kept before x s stands (KeepSays kept name line kept') reply in (
      line,
      record { traces = s.traces; kept = kept' },
      (refl, refl, subst (λ (events : List EventId). KeepReply (problem_of x s.traces) (seen_by x s.traces) events name line kept') (sym stands.kept) here),
      refl,
      record {
        declaration = stands.declaration;
        labels = stands.labels;
        kinds = stands.kinds;
        events = stands.events;
        sizes = stands.sizes;
        streams = stands.streams;
        kept = refl;
      },
    )

-- ---- lines
line_reply : (d : Declaration) (files : Content) (s s' : State) (line text : List ℕ) (c : Option Command) (found : Found) → length line ≤ 4096 → Asks line c →
    CommandReply d files s c found text s' → LineReply d files s line found text s'
line_reply d files s s' line text c found short asks reply =
    let yes : nat_le (length line) 4096 ≡ true = grind (arith, short) in
    rw yes (c, asks, reply)

-- what answers the command of a line answers the line
pub stepped : (files files' : FilesTold) (held held' : Held) (line : List ℕ) (c : Option Command) (IsWritten : List ℕ → Type 0) → length line ≤ 4096 → Asks line c →
    CommandAnswered c files files' held held' IsWritten → Stepped line files files' held held' IsWritten
stepped files files' held held' line c IsWritten short asks answered = λ d s stands.
    let r = answered d s stands in
    (r.0, r.1.0, r.1.1, line_reply d files.content s r.1.1 line r.1.0 c r.0 short asks r.1.2, r.1.3, r.2, r.1.4)

pub counted_unread : (old new : FilesTold) → Keeps old new → AreCounted (Unread ∷ []) old new
counted_unread old new keeps = record { failed = λ below. omega (arith, keeps.faults); absent = λ below. omega (arith, keeps.absences) }

keeps_all : (files : FilesTold) → Keeps files files
keeps_all files = record { same = refl; faults = omega arith; absences = omega arith }

unread_at : (files : Content) (c : Command) → FoundAt files c Unread
unread_at None c = tt
unread_at (Some files) (Add label path) = tt
unread_at (Some files) (Keep event) = tt
unread_at (Some files) (Ask question) = tt

-- a command that reads no file
unread : (files : FilesTold) (held held' : Held) (c : Command) (IsWritten : List ℕ → Type 0) → UnreadAnswered held held' c IsWritten → CommandAnswered (Some c) files files held held' IsWritten
unread files held held' c IsWritten asked = λ d s stands.
    let r = asked d s stands in
    (Unread, (r.0, r.1, (unread_at files.content c, r.2), r.3, r.4), counted_unread files files (keeps_all files))

pub stepped_unread : (files : FilesTold) (held held' : Held) (line : List ℕ) (c : Command) (IsWritten : List ℕ → Type 0) → length line ≤ 4096 → Asks line (Some c) →
    UnreadAnswered held held' c IsWritten → Stepped line files files held held' IsWritten
stepped_unread files held held' line c IsWritten short asks asked = stepped files files held held' line (Some c) IsWritten short asks (unread files held held' c IsWritten asked)

-- and one that is answered before its reply is written
pub asked_written : (held held' : Held) (c : Command) (line : List ℕ) (IsWritten : List ℕ → Type 0) → UnreadAnswered held held' c (λ text. text ≡ line) → IsWritten line → UnreadAnswered held held' c IsWritten
asked_written held held' c line IsWritten asked written d s stands =
    let r = asked d s stands in
    (r.0, r.1, r.2, subst IsWritten (sym r.3) written, r.4)

-- a line that spells no command
pub stepped_none : (files : FilesTold) (held : Held) (line : List ℕ) (IsWritten : List ℕ → Type 0) → length line ≤ 4096 → Asks line None →
    IsWritten (refusal_line NoCommand) → Stepped line files files held held IsWritten
stepped_none files held line IsWritten short asks written =
    stepped files files held held line None IsWritten short asks (λ d s stands. (Unread, (refusal_line NoCommand, s, (refl, (refl, refl)), written, stands), counted_unread files files (keeps_all files)))

-- ---- a command that is answered before it is written
-- what is said of a line is said of it as it stands written
pub line_written : (c : Option Command) (files files' : FilesTold) (held held' : Held) (line : List ℕ) (IsWritten : List ℕ → Type 0) → CommandAnswered c files files' held held' (λ text. text ≡ line) →
    IsWritten line → CommandAnswered c files files' held held' IsWritten
line_written c files files' held held' line IsWritten answered written d s stands =
    let r = answered d s stands in
    (r.0, (r.1.0, r.1.1, r.1.2, subst IsWritten (sym r.1.3) written, r.1.4), r.2)
