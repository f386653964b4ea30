-- Refusals by their numbers, and the lines that tell them.
use Rattle.std.specs.Prelude.{ℕ, List, [], ◌∷◌, Option, Some, None, codes}
use Rattle.atto.specs.Decimal.{decimal_of}
use Rattle.line_format.specs.Words.{line_of}
use Rattle.event_log.specs.declared.errors.LogError.{LogError}
use Rattle.event_log.specs.declared.errors.LogError.TheVariants as faults
use Rattle.captures.specs.declared.errors.CaptureError.{CaptureError}
use Rattle.captures.specs.declared.errors.CaptureError.TheVariants as refused
use Rattle.replies.specs.declared.refusal.Refusal.{Refusal}
use Rattle.replies.specs.declared.refusal.Refusal.TheVariants.{NoCommand, UnknownLabel, UnreadFile, TooManyBytes, CaptureMagic, CaptureVersion, CaptureHeader, CaptureRecord, CaptureBlock, LogRow, TooManyEvents, UnknownEvent, NoSourceTime, EightAreKept}

-- the number of a refusal
abbrev pub refusal_number : Refusal → ℕ
refusal_number NoCommand = 20
refusal_number UnknownLabel = 21
refusal_number UnreadFile = 22
refusal_number TooManyBytes = 23
refusal_number CaptureMagic = 24
refusal_number CaptureVersion = 24
refusal_number (CaptureHeader place) = 25
refusal_number (CaptureRecord place) = 25
refusal_number (CaptureBlock place) = 31
refusal_number (LogRow row lack) = 26
refusal_number TooManyEvents = 27
refusal_number UnknownEvent = 28
refusal_number NoSourceTime = 29
refusal_number EightAreKept = 30

-- the words that say where and why
abbrev pub details : Refusal → List (List ℕ)
details NoCommand = []
details UnknownLabel = []
details UnreadFile = []
details TooManyBytes = []
details CaptureMagic = decimal_of 1 ∷ []
details CaptureVersion = decimal_of 2 ∷ []
details (CaptureHeader place) = decimal_of place ∷ codes "header" ∷ []
details (CaptureRecord place) = decimal_of place ∷ []
details (CaptureBlock place) = decimal_of place ∷ []
details (LogRow row lack) = decimal_of row ∷ decimal_of lack ∷ []
details TooManyEvents = []
details UnknownEvent = []
details NoSourceTime = []
details EightAreKept = []

-- the line of a refusal
abbrev pub refusal_line : Refusal → List ℕ
refusal_line r = line_of (codes "refused" ∷ decimal_of (refusal_number r) ∷ details r)

-- the refusal of a log with this fault, by its row and what it lacks; none where memory ran out
abbrev pub log_refusal : LogError → Option Refusal
log_refusal (faults.Fields row) = Some (LogRow row 1)
log_refusal (faults.Stamp row) = Some (LogRow row 2)
log_refusal (faults.Kind row) = Some (LogRow row 3)
log_refusal (faults.Text row) = Some (LogRow row 4)
log_refusal faults.Memory = None

-- the refusal of a capture with this fault; none where memory ran out
abbrev pub capture_refusal : CaptureError → Option Refusal
capture_refusal refused.Magic = Some CaptureMagic
capture_refusal refused.Version = Some CaptureVersion
capture_refusal (refused.Header place) = Some (CaptureHeader place)
capture_refusal (refused.Length place) = Some (CaptureRecord place)
capture_refusal (refused.Block place) = Some (CaptureBlock place)
capture_refusal refused.Memory = None
