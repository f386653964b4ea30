-- A session over a script: one reply for each line, in order.
use Rattle.std.specs.Prelude.{◌≡◌, ℕ, ◌+◌, ◌-◌, ◌^◌, ◌<◌, ◌≤◌, List, [], ◌∷◌, length, map, count_by, Option, Some, None, Bool, true, false, nat_le, MatchBool}
use Rattle.ports.specs.Files.{Content, FilesTold}
use Rattle.decl.specs.declared.items.Label.{Label}
use Rattle.decl.specs.Declaration.{Declaration}
use Rattle.traces.specs.Traces.{nothing_for}
use Rattle.replies.specs.declared.refusal.Refusal.TheVariants.{NoCommand}
use Rattle.replies.specs.Commands.{Command, Add, Keep, Ask, Asks}
use Rattle.replies.specs.Reply.{State, Found, Unread, Bytes, Absent, Failed, Refuses, Reply}

-- what is found at the path of a command, where the files tell it
abbrev pub FoundAt : Content → Command → Found → Type 0
FoundAt None c found = Unit {0}
FoundAt (Some files) (Add label path) Unread = Unit {0}
FoundAt (Some files) (Add label path) (Bytes bytes) = files path ≡ Some bytes
FoundAt (Some files) (Add label path) Absent = files path ≡ None
FoundAt (Some files) (Add label path) Failed = Unit {0}
FoundAt (Some files) (Keep event) found = Unit {0}
FoundAt (Some files) (Ask question) found = Unit {0}

-- the reply to a command, or the refusal of a line that spells none
abbrev pub CommandReply : Declaration → Content → State → Option Command → Found → List ℕ → State → Type 0
CommandReply d files s None found text s' = (found ≡ Unread) × Refuses s NoCommand text s'
CommandReply d files s (Some c) found text s' = FoundAt files c found × Reply d s c found text s'

-- the reply to a line, and what the session then has; a line over 4,096 bytes is refused
abbrev pub LineReply : Declaration → Content → State → List ℕ → Found → List ℕ → State → Type 0
LineReply d files s line found text s' = MatchBool (nat_le (length line) 4096)
    ((c : Option Command) × Asks line c × CommandReply d files s c found text s')
    ((found ≡ Unread) × Refuses s NoCommand text s')

-- each line has one reply, in order
abbrev pub Session : Declaration → Content → State → List (List ℕ) → List Found → List (List ℕ) → State → Type 0
Session d files s [] [] [] s' = s' ≡ s
Session d files s [] [] (text ∷ texts) s' = ⊥
Session d files s [] (found ∷ founds) texts s' = ⊥
Session d files s (line ∷ lines) [] texts s' = ⊥
Session d files s (line ∷ lines) (found ∷ founds) [] s' = ⊥
Session d files s (line ∷ lines) (found ∷ founds) (text ∷ texts) s' =
    (mid : State) × LineReply d files s line found text mid × Session d files mid lines founds texts s'

-- no label has anything, and nothing is kept
abbrev pub start : Declaration → State
start d = record { traces = map (λ (l : Label). nothing_for l.kind) d.labels; kept = [] }

-- ---- reads that failed
-- a read failed
abbrev pub is_failed : Found → Bool
is_failed Unread = false
is_failed (Bytes bytes) = false
is_failed Absent = false
is_failed Failed = true

-- a file is not there
abbrev pub is_absent : Found → Bool
is_absent Unread = false
is_absent (Bytes bytes) = false
is_absent Absent = true
is_absent Failed = false

-- at most as many as a count rose by, while the count is below its last value
abbrev pub AreAtMost : ℕ → ℕ → ℕ → Type 0
AreAtMost n old new = new < 2 ^ 64 - 1 → old + n ≤ new

-- at most as many reads failed, and as many paths were not there, as the files counted
pub record AreCounted (founds : List Found) (old new : FilesTold) : Type 0 where
  pub failed : AreAtMost (count_by is_failed founds) old.faults new.faults
  pub absent : AreAtMost (count_by is_absent founds) old.absences new.absences
