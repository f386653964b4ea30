-- One turn of a script of additions: a line is taken off and added, or it ends the run, or there is none.
use Rattle.std.specs.Prelude.{◌≡◌, ◌⊎◌, ℕ, List, [], ◌∷◌, None}
use Rattle.ports.specs.Content.{Rose, SourceTold}
use Rattle.ports.specs.Files.{FilesTold}
use Rattle.decl.specs.Declaration.{Declaration}
use Rattle.ports.specs.Reader.{Reader}
use Rattle.mergecap.specs.MergedCapture.{Timed}
use Rattle.replies.specs.Reply.{State, Found}
use Rattle.replies.specs.Sessions.{AreCounted}
use Rattle.session.specs.Stands.{Held, StandsFor}
use Rattle.session.specs.Taking.{IsAddedLine}
use Rattle.session.specs.Script.{Devices, devices, OfScript}
use Rattle.session.specs.Turns.{TakesOff, FailsInLine, IsPastMost}
use Rattle.merge_script.specs.declared.unmerged.Unmerged.{Unmerged}
use Rattle.merge_script.specs.declared.unmerged.Unmerged.TheVariants as ends
use Rattle.merge_script.specs.Gathered.{AreAllOf, MergeReply, IsLastBy, AddsScript, StopsAt, TakesPart, IsScriptTooLong}

-- files and input at one moment; nothing is written
abbrev pub reads : FilesTold → SourceTold → Devices
reads files input = devices files input (record { written = None; faults = 0 })

-- what a session stands for by its declaration, of which these are all packets
pub record AreKeptFor (h : Held) (kept : List Timed) : Type 0 where
  pub state : State
  pub stands : StandsFor h h.declaration state
  pub all : AreAllOf state.traces kept

-- the line is added to what the session stood for, and these are then all packets
pub record AddsLine (line : List ℕ) (files files' : FilesTold) (h h' : Held) (kept kept' : List Timed) (x : AreKeptFor h kept) : Type 0 where
  pub found : Found
  pub text : List ℕ
  pub then : AreKeptFor h' kept'
  pub declared : h'.declaration ≡ h.declaration
  pub reply : MergeReply h.declaration files.content x.state line found text then.state
  pub says : IsAddedLine text
  pub counted : AreCounted (found ∷ []) files files'

-- the line ends the run so
pub record EndsRunAt (line : List ℕ) (files files' : FilesTold) (h : Held) (s : State) (why : Unmerged) : Type 0 where
  pub found : Found
  pub text : List ℕ
  pub then : State
  pub reply : MergeReply h.declaration files.content s line found text then
  pub last : IsLastBy why text then
  pub counted : AreCounted (found ∷ []) files files'

-- memory ran out, or the line ends the run so
abbrev pub EndsOrLacks : List ℕ → FilesTold → FilesTold → Held → List Timed → Unmerged → Type 0
EndsOrLacks line files files' h kept why = (why ≡ ends.Memory) ⊎ ((x : AreKeptFor h kept) → EndsRunAt line files files' h x.state why)

-- the next line was taken off, and added
pub record TakesLine (h h' : Held) (r r' : Reader) (old new : Devices) (kept kept' : List Timed) : Type 0 where
  pub off : TakesOff r r' old new
  pub adds : (x : AreKeptFor h kept) → AddsLine off.line old.files new.files h h' kept kept' x

-- the next line was taken off, and ends the run so
pub record TakesLast (h : Held) (r r' : Reader) (old new : Devices) (kept : List Timed) (why : Unmerged) : Type 0 where
  pub off : TakesOff r r' old new
  pub ends : (x : AreKeptFor h kept) → EndsRunAt off.line old.files new.files h x.state why

-- why the run ends
abbrev pub EndsRunSo : Held → Reader → Reader → Devices → Devices → List Timed → Unmerged → Type 0
EndsRunSo h r r' old new kept (ends.Refused said) = TakesLast h r r' old new kept (ends.Refused said)
EndsRunSo h r r' old new kept ends.Size = TakesLast h r r' old new kept ends.Size
EndsRunSo h r r' old new kept ends.Inconsistent = ⊥
EndsRunSo h r r' old new kept ends.Links = ⊥
EndsRunSo h r r' old new kept ends.Range = ⊥
EndsRunSo h r r' old new kept ends.ReadFault = FailsInLine r r' old new
EndsRunSo h r r' old new kept ends.Limit = IsPastMost r r' old new
EndsRunSo h r r' old new kept ends.Memory = Unit {0}

-- ---- all turns
-- all lines of the script are added, and these are then all packets
pub record GathersAll (d : Declaration) (old new : Devices) (h : Held) (kept : List Timed) : Type 0 where
  pub are : AreKeptFor h kept
  pub declared : h.declaration ≡ d
  pub adds : OfScript old.input.left (AddsScript d old new are.state)

-- why no packets are gathered
abbrev pub GathersNone : Declaration → Devices → Devices → Unmerged → Type 0
GathersNone d old new (ends.Refused said) = OfScript old.input.left (StopsAt d old new (ends.Refused said))
GathersNone d old new ends.Size = OfScript old.input.left (StopsAt d old new ends.Size)
GathersNone d old new ends.Inconsistent = ⊥
GathersNone d old new ends.Links = ⊥
GathersNone d old new ends.Range = ⊥
GathersNone d old new ends.ReadFault = Rose old.input.faults new.input.faults × OfScript old.input.left (TakesPart d old new)
GathersNone d old new ends.Limit = OfScript old.input.left (IsScriptTooLong d old new)
GathersNone d old new ends.Memory = Unit {0}
