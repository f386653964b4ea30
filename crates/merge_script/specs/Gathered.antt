-- What the lines of a script add, and how a line ends the run.
use Rattle.std.specs.Prelude.{◌≡◌, ℕ, ◌^◌, ◌<◌, ◌≤◌, List, [], ◌∷◌, ◌++◌, length, take, sum_by, Some, nat_le, MatchBool}
use Rattle.std.specs.List.Sorted.{IsPermutation}
use Rattle.ports.specs.Files.{Content}
use Rattle.decl.specs.Declaration.{Declaration}
use Rattle.ports.specs.Lines.{whole_lines, lines_of, most_taken}
use Rattle.mergecap.specs.MergedCapture.{Timed}
use Rattle.traces.specs.Traces.{Traces}
use Rattle.replies.specs.declared.refusal.Refusal.TheVariants.{NoCommand}
use Rattle.replies.specs.Reply.{State, Found, Unread, Refuses}
use Rattle.replies.specs.Sessions.{AreCounted, start}
use Rattle.session.specs.Taken.{packets_behind}
use Rattle.session.specs.Taking.{AddLineReply, IsAddedLine, IsRefusalLine}
use Rattle.session.specs.Script.{Devices, lines_within}
use Rattle.merge_script.specs.declared.unmerged.Unmerged.{Unmerged}
use Rattle.merge_script.specs.declared.unmerged.Unmerged.TheVariants.{Refused, Size, Inconsistent, Links, Range, ReadFault, Limit, Memory}

-- ---- packets
-- how many bytes packets have
abbrev pub bytes_in : List Timed → ℕ
bytes_in ts = sum_by (λ (t : Timed). length t.packet.bytes) ts

-- how many they have at most: 2^30
abbrev pub most_bytes : ℕ
most_bytes = 2 ^ 30

-- these are all packets of traces, each once
abbrev pub AreAllOf : Traces → List Timed → Type 0
AreAllOf traces ts = IsPermutation (packets_behind 0 traces) ts

-- ---- lines
-- the reply to a line where nothing but additions is asked for; one over 4,096 bytes is refused
abbrev pub MergeReply : Declaration → Content → State → List ℕ → Found → List ℕ → State → Type 0
MergeReply d files s line found text s' = MatchBool (nat_le (length line) 4096)
    (AddLineReply d files s line found text s')
    ((found ≡ Unread) × Refuses s NoCommand text s')

-- each of these lines adds something, and behind it the packets have few bytes
abbrev pub AreAdded : Declaration → Content → State → List (List ℕ) → List Found → State → Type 0
AreAdded d files s [] [] s' = s' ≡ s
AreAdded d files s [] (found ∷ founds) s' = ⊥
AreAdded d files s (line ∷ lines) [] s' = ⊥
AreAdded d files s (line ∷ lines) (found ∷ founds) s' =
    (text : List ℕ) × (mid : State) × MergeReply d files s line found text mid × IsAddedLine text × (bytes_in (packets_behind 0 mid.traces) ≤ most_bytes)
    × AreAdded d files mid lines founds s'

-- these lines are added, and the session then has this
pub record AddsAll (d : Declaration) (old new : Devices) (lines : List (List ℕ)) (s : State) : Type 0 where
  pub founds : List Found
  pub added : AreAdded d old.files.content (start d) lines founds s
  pub counted : AreCounted founds old.files new.files

-- with this reply a line ends the run so: it is refused, or the packets then have too many bytes
abbrev pub IsLastBy : Unmerged → List ℕ → State → Type 0
IsLastBy (Refused said) text then = IsRefusalLine text × (text ≡ said.items ++ 10 ∷ [])
IsLastBy Size text then = IsAddedLine text × (most_bytes < bytes_in (packets_behind 0 then.traces))
IsLastBy Inconsistent text then = ⊥
IsLastBy Links text then = ⊥
IsLastBy Range text then = ⊥
IsLastBy ReadFault text then = ⊥
IsLastBy Limit text then = ⊥
IsLastBy Memory text then = ⊥

-- the first lines are added, and the next one ends the run so
pub record StopsAt (d : Declaration) (old new : Devices) (why : Unmerged) (script : List ℕ) : Type 0 where
  pub lines : List (List ℕ)
  pub line : List ℕ
  pub more : List (List ℕ)
  pub are : lines_within script ≡ lines ++ line ∷ more
  pub founds : List Found
  pub state : State
  pub added : AreAdded d old.files.content (start d) lines founds state
  pub found : Found
  pub text : List ℕ
  pub then : State
  pub reply : MergeReply d old.files.content state line found text then
  pub last : IsLastBy why text then
  pub counted : AreCounted (founds ++ found ∷ []) old.files new.files

-- so much of a script was taken, and its whole lines are added
pub record TakesPart (d : Declaration) (old new : Devices) (script : List ℕ) : Type 0 where
  pub taken : List ℕ
  pub rest : List ℕ
  pub is : script ≡ taken ++ rest
  pub left : new.input.left ≡ Some rest
  pub short : length taken ≤ most_taken
  pub state : State
  pub adds : AddsAll d old new (whole_lines taken) state

-- the script is too long, and the whole lines of its first bytes are added
pub record IsScriptTooLong (d : Declaration) (old new : Devices) (script : List ℕ) : Type 0 where
  pub long : most_taken < length script
  pub state : State
  pub adds : AddsAll d old new (whole_lines (take most_taken script)) state

-- the whole script was taken, and its lines are added
pub record AddsScript (d : Declaration) (old new : Devices) (s : State) (script : List ℕ) : Type 0 where
  pub short : length script ≤ most_taken
  pub none_left : new.input.left ≡ Some []
  pub adds : AddsAll d old new (lines_of script) s
