-- What there is to tell of captures beside their merge: bytes that wait for more, and packets that were passed over.
use Rattle.std.specs.Prelude.{◌⊎◌, ℕ, Bool, ◌==◌, ◌&&◌, if◌then◌else◌, List, [], ◌∷◌, ◌++◌, length, codes}
use Rattle.atto.specs.Decimal.{decimal_of}
use Rattle.line_format.specs.Words.{line_of}
use Rattle.ports.specs.Content.{Rose, Appends, AppendsPrefix, SinkTold}
use Rattle.captures.specs.Capture.{Passed}
use Rattle.captures.specs.Feeding.{passed_of, waiting_of}
use Rattle.decl.specs.declared.items.Label.{Label}
use Rattle.decl.specs.Declaration.{Declaration}
use Rattle.traces.specs.declared.accepted.Stream.{Stream}
use Rattle.traces.specs.declared.accepted.Stream.TheVariants as streams
use Rattle.traces.specs.Traces.{Trace, Captured, Logged, Traces}
use Rattle.replies.specs.Reply.{State}
use Rattle.session.specs.Stands.{Under}
use Rattle.session.specs.Script.{Devices, OfScript}
use Rattle.merge_script.specs.Gathered.{AddsScript}

-- ---- the text
-- the line of how many bytes of a capture stand behind its last whole record or block
abbrev pub pending_line : List ℕ → ℕ → List ℕ
pending_line label pending = line_of (label ∷ codes "pending" ∷ decimal_of pending ∷ [])

-- it, where some byte does
abbrev pub pending_note : List ℕ → ℕ → List ℕ
pending_note label pending = if pending == 0 then [] else pending_line label pending

-- the line of how many packets of a capture were passed over, by cause
abbrev pub passed_line : List ℕ → Passed → List ℕ
passed_line label p = line_of (label ∷ codes "passed" ∷ codes "simple" ∷ decimal_of p.simple ∷ codes "obsolete" ∷ decimal_of p.obsolete
    ∷ codes "other" ∷ decimal_of p.other ∷ [])

-- no packet was
abbrev pub is_nothing : Passed → Bool
is_nothing p = p.simple == 0 && p.obsolete == 0 && p.other == 0

-- the line, where some packet was
abbrev pub passed_note : List ℕ → Passed → List ℕ
passed_note label p = if is_nothing p then [] else passed_line label p

-- both notes on a capture
abbrev pub capture_notes : List ℕ → ℕ → Passed → List ℕ
capture_notes label pending p = pending_note label pending ++ passed_note label p

-- the notes on what was accepted under a label of this name; on a log there are none
abbrev pub notes_on : List ℕ → Trace → List ℕ
notes_on label (Captured bytes capture) = capture_notes label (length capture.rest) capture.passed
notes_on label (Logged rows size) = []

-- those on each label, one after another
abbrev pub notes_under : List Label → Traces → List ℕ
notes_under [] traces = []
notes_under (label ∷ labels) [] = []
notes_under (label ∷ labels) (trace ∷ traces) = notes_on label.name trace ++ notes_under labels traces

-- the notes on all that was accepted, in the order of the labels of the declaration
abbrev pub notes_text : Declaration → Traces → List ℕ
notes_text d traces = notes_under d.labels traces

-- ---- by what a session holds
-- the notes on what is kept of what was accepted under a label
abbrev pub notes_kept : List ℕ → Stream → List ℕ
notes_kept label streams.Log = []
notes_kept label (streams.Capture tail) = capture_notes label (waiting_of tail) (passed_of tail)

-- those on each label, one after another
abbrev pub notes_held : List Label → List Under → List ℕ
notes_held [] under = []
notes_held (label ∷ labels) [] = []
notes_held (label ∷ labels) (u ∷ under) = notes_kept label.name u.stream ++ notes_held labels under

-- ---- where they are told
-- the text is told; or a front of it, where a write failed
abbrev pub IsToldNote : List ℕ → SinkTold → SinkTold → Type 0
IsToldNote text old new = Appends old.written new.written text ⊎ (Rose old.faults new.faults × AppendsPrefix old.written new.written text)

-- all lines of the script are added, and the notes on what was then accepted are told
pub record NotesAdded (d : Declaration) (old new : Devices) (before after : SinkTold) (script : List ℕ) : Type 0 where
  pub state : State
  pub adds : AddsScript d old new state script
  pub told : IsToldNote (notes_text d state.traces) before after

-- so it is with the script, where the input tells it
abbrev pub AreNoted : Declaration → Devices → Devices → SinkTold → SinkTold → Type 0
AreNoted d old new before after = OfScript old.input.left (NotesAdded d old new before after)
