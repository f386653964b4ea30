-- Additions of which the packets are kept.
use Rattle.std.specs.Prelude.{◌≡◌, ℕ, List, [], ◌∷◌, ◌++◌, Option, Some, None, Bool}
use Rattle.ports.specs.Files.{Content, FilesTold}
use Rattle.decl.specs.Declaration.{Declaration}
use Rattle.mergecap.specs.MergedCapture.{Timed}
use Rattle.traces.specs.Traces.{Traces}
use Rattle.replies.specs.declared.outcome.Added.{Added}
use Rattle.replies.specs.declared.refusal.Refusal.{Refusal}
use Rattle.session.specs.declared.kept_packets.AddAnswer.{AddAnswer}
use Rattle.session.specs.declared.kept_packets.AddAnswer.TheVariants.{Accepted, Refused}
use Rattle.replies.specs.Refusals.{refusal_line}
use Rattle.replies.specs.Commands.{Command, Add, Keep, Ask, Asks}
use Rattle.replies.specs.Reply.{State, Found, added_line}
use Rattle.replies.specs.Sessions.{CommandReply, AreCounted}
use Rattle.session.specs.Stands.{Held, StandsFor}
use Rattle.session.specs.Taken.{BringsPackets}

-- of all commands those that add; each other one is as none
abbrev pub only_adding : Option Command → Option Command
only_adding None = None
only_adding (Some (Add label path)) = Some (Add label path)
only_adding (Some (Keep event)) = None
only_adding (Some (Ask question)) = None

-- the reply to a line where nothing but additions is asked for, and what the session then has
abbrev pub AddLineReply : Declaration → Content → State → List ℕ → Found → List ℕ → State → Type 0
AddLineReply d files s line found text s' = (c : Option Command) × Asks line c × CommandReply d files s (only_adding c) found text s'

-- the line asks for an addition
abbrev pub AsksToAdd : List ℕ → Type 0
AsksToAdd line = (label : List ℕ) × (path : List ℕ) × Asks line (Some (Add label path))

-- the line says what was added
abbrev pub IsAddedLine : List ℕ → Type 0
IsAddedLine text = (a : Added) × (text ≡ added_line a)

-- the line tells a refusal
abbrev pub IsRefusalLine : List ℕ → Type 0
IsRefusalLine text = (r : Refusal) × (text ≡ refusal_line r)

-- it is accepted where the reply says what was added, with the packets that came; else it is refused with that reply, and
-- there are none
abbrev pub IsAnswerOf : Traces → Traces → List ℕ → List Timed → AddAnswer → Type 0
IsAnswerOf old new text packets Accepted = IsAddedLine text × BringsPackets old new packets
IsAnswerOf old new text packets (Refused said) = IsRefusalLine text × (text ≡ said.items ++ 10 ∷ []) × (packets ≡ [])

-- for each declaration, traces and kept events that the session stood for, this answers by a reply of this kind to what was
-- found; the packets that came stand behind those before, and the session stands for what follows the reply
abbrev pub TakesBy : (Declaration → State → Found → List ℕ → State → Type 0) → FilesTold → FilesTold → Held → Held → List Timed → List Timed → AddAnswer → Type 0
TakesBy IsReply files files' held held' old new answer = (d : Declaration) (s : State) → StandsFor held d s →
    (found : Found) × (text : List ℕ) × (s' : State) × (packets : List Timed) × IsReply d s found text s'
    × IsAnswerOf s.traces s'.traces text packets answer
    × (new ≡ old ++ packets)
    × AreCounted (found ∷ []) files files'
    × StandsFor held' d s'

-- the same of a line
abbrev pub Takes : List ℕ → FilesTold → FilesTold → Held → Held → List Timed → List Timed → AddAnswer → Type 0
Takes line files files' = TakesBy (λ d s. AddLineReply d files.content s line) files files'
