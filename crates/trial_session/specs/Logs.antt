-- The files of a trial, seen as values.
use Rattle.std.specs.Prelude.{ℕ, List, Some}
use Rattle.ports.specs.Files.{FilesTold}
use Rattle.ports.specs.Memory.{PutFile, bytes_of}

-- the files that were put, in order, and how many reads found no file
pub record LogsState : Type 0 where
  pub puts : List PutFile
  pub absences : ℕ

-- what they tell: no read fails
abbrev pub logs_told : LogsState → FilesTold
logs_told s = record { content = Some (bytes_of s.puts); faults = 0; absences = s.absences }
