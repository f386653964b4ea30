-- What files hold, where they tell it.
use Rattle.std.specs.Prelude.{◌≡◌, ℕ, ◌<◌, ◌≤◌, List, length, take, drop, Option, Some, None, Bool, nat_lt}
use Rattle.ports.specs.Content.{Rose}
use Rattle.ports.specs.declared.files.FileFail.{FileFail}
use Rattle.ports.specs.declared.files.FileFail.TheVariants.{Absent, Failed}
use Rattle.ports.specs.declared.files.FileFault.{FileFault}
use Rattle.ports.specs.declared.files.FileFault.TheVariants as faults

-- the bytes at each path that is there
abbrev pub Content : Type 0
Content = Option (List ℕ → Option (List ℕ))

-- what files tell: the bytes at each path, if they tell them, how many reads have failed, and how many found no file
pub record FilesTold : Type 0 where
  pub content : Content
  pub faults : ℕ
  pub absences : ℕ

-- files stay as they are, and their counts never fall
pub record Keeps (old new : FilesTold) : Type 0 where
  pub same : new.content ≡ old.content
  pub faults : old.faults ≤ new.faults
  pub absences : old.absences ≤ new.absences

-- a path is not there, where the files tell it
abbrev pub IsAbsent : Content → List ℕ → Type 0
IsAbsent None path = Unit {0}
IsAbsent (Some files) path = files path ≡ None

-- the files tell that nothing is at a path
abbrev pub TellsAbsent : Content → List ℕ → Type 0
TellsAbsent None path = ⊥
TellsAbsent (Some files) path = files path ≡ None

-- a read at a path that the files tell to be absent raised no count of faults
abbrev pub RaisesNoFault : List ℕ → FilesTold → FilesTold → Type 0
RaisesNoFault path old new = TellsAbsent old.content path → new.faults ≡ old.faults

-- a path has bytes of which this holds, where the files tell it
abbrev pub HasBytes : Content → List ℕ → (List ℕ → Type 0) → Type 0
HasBytes None path P = Unit {0}
HasBytes (Some files) path P = (bytes : List ℕ) × (files path ≡ Some bytes) × P bytes

-- n bytes of the file from a place on
abbrev pub ReadsAt : ℕ → ℕ → List ℕ → List ℕ → Type 0
ReadsAt at n buf bytes = (take n buf ≡ take n (drop at bytes)) × (n ≤ length (drop at bytes)) × (n ≡ 0 → 0 < length buf → length bytes ≤ at)

-- why a read of a file failed: nothing is at the path, where the files tell it, and the count of that rose; or the read
-- failed, and its count did
abbrev pub IsFailOf : List ℕ → FilesTold → FilesTold → FileFail → Type 0
IsFailOf path old new Absent = Rose old.absences new.absences × IsAbsent old.content path
IsFailOf path old new Failed = Rose old.faults new.faults

-- the front of a file, and whether there is more
abbrev pub IsFront : ℕ → List ℕ → Bool → List ℕ → Type 0
IsFront most front more bytes = (front ≡ take most bytes) × (more ≡ nat_lt most (length bytes))

-- what is read so far is the front of the file
abbrev pub ReadSoFar : Content → List ℕ → List ℕ → Type 0
ReadSoFar None path front = Unit {0}
ReadSoFar (Some files) path front = (bytes : List ℕ) → files path ≡ Some bytes → front ≡ take (length front) bytes

-- why a whole file was not read: a read of it failed (`IsFailOf`), or there was no memory
abbrev pub IsFileFault : List ℕ → FilesTold → FilesTold → FileFault → Type 0
IsFileFault path old new faults.Absent = Rose old.absences new.absences × IsAbsent old.content path
IsFileFault path old new faults.Read = Rose old.faults new.faults
IsFileFault path old new faults.Memory = Unit {0}

-- the fault of reading a whole file, by that of one read
abbrev pub fault_of : FileFail → FileFault
fault_of Absent = faults.Absent
fault_of Failed = faults.Read
