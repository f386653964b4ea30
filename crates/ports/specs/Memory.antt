-- Sources, sinks and files in memory, seen as values.
use Rattle.std.specs.Prelude.{ℕ, ◌+◌, ◌-◌, ◌^◌, min, List, [], ◌∷◌, Option, Some, None, Contains, if◌then◌else◌}
use Rattle.std.specs.Str.{bytes_eq}
use Rattle.ports.specs.Files.{FilesTold}
use Rattle.ports.specs.declared.files.FileFail.{FileFail}
use Rattle.ports.specs.declared.files.FileFail.TheVariants.{Absent, Failed}

-- the numbers of the calls that fail, counted from 1, and how many calls there were and how many failed
pub record CallCounts : Type 0 where
  pub failing : List ℕ
  pub made : ℕ
  pub failed : ℕ

-- one more, where a count stays at its last value
abbrev pub next_count : ℕ → ℕ
next_count n = min (n + 1) (2 ^ 64 - 1)

-- no call was made yet
abbrev pub no_calls : List ℕ → CallCounts
no_calls numbers = record { failing = numbers; made = 0; failed = 0 }

-- the next call is one of those that fail
abbrev pub CallFails : CallCounts → Type 0
CallFails c = Contains c.failing (next_count c.made)

-- one more call
abbrev pub next_call : CallCounts → CallCounts
next_call c = record { failing = c.failing; made = next_count c.made; failed = c.failed }

-- one more call, and it failed
abbrev pub failed_call : CallCounts → CallCounts
failed_call c = record { failing = c.failing; made = next_count c.made; failed = next_count c.failed }

-- a source: the bytes left, and how many it gives at most in a call
pub record SourceState : Type 0 where
  pub left : List ℕ
  pub most : ℕ
  pub calls : CallCounts

-- a sink: the bytes written, how many it has room for, and how many it takes at most in a call
pub record SinkState : Type 0 where
  pub held : List ℕ
  pub room : ℕ
  pub most : ℕ
  pub calls : CallCounts

-- a file that was put at a path
pub record PutFile : Type 0 where
  pub path : List ℕ
  pub bytes : List ℕ

-- files: those that were put, in order, and how many calls answered that a path is absent
pub record FilesState : Type 0 where
  pub puts : List PutFile
  pub calls : CallCounts
  pub absences : ℕ

-- the first of two that is there
abbrev pub first_of_two : Option (List ℕ) → Option (List ℕ) → Option (List ℕ)
first_of_two (Some bytes) other = Some bytes
first_of_two None other = other

-- the bytes that were put last at a path
abbrev pub bytes_of : List PutFile → List ℕ → Option (List ℕ)
bytes_of [] path = None
bytes_of (f ∷ fs) path = first_of_two (bytes_of fs path) (if bytes_eq f.path path then Some f.bytes else None)

-- what such files tell
abbrev pub told_of : FilesState → FilesTold
told_of s = record { content = Some (bytes_of s.puts); faults = s.calls.failed; absences = s.absences }

-- what files are after a read that failed so
abbrev pub after_fail : FilesState → FileFail → FilesState
after_fail s Failed = record { puts = s.puts; calls = failed_call s.calls; absences = s.absences }
after_fail s Absent = record { puts = s.puts; calls = next_call s.calls; absences = next_count s.absences }
