-- Whole scripts: what a session has is lawful behind each line, and a script has one output.
use Rattle.std.specs.Prelude.{◌≡◌, ℕ, ◌<◌, List, length, take, slice_get, Option, Some, false, All, ⊤}
use Rattle.ports.specs.Files.{Content}
use Rattle.decl.specs.Declaration.{Declaration}
use Rattle.traces.specs.Traces.{Trace, Captured, Logged}
use Rattle.traces.specs.Messages.{problem_of}
use Rattle.replies.specs.Reply.{State, Found, Unread, Bytes, Absent, Failed}
use Rattle.replies.specs.Sessions.{Session, is_failed}
use Rattle.replies.specs.OneReply.{IsState, AreOneReply}

-- ---- what a session has
-- numbers below 256
abbrev pub AreBytes : List ℕ → Type 0
AreBytes bytes = All (λ b. b < 256) bytes

-- what was accepted of a capture is bytes
abbrev pub IsOfBytes : Trace → Type 0
IsOfBytes (Captured bytes capture) = AreBytes bytes
IsOfBytes (Logged rows size) = ⊤

-- what a read found is bytes
abbrev pub FindsBytes : Found → Type 0
FindsBytes Unread = ⊤
FindsBytes (Bytes bytes) = AreBytes bytes
FindsBytes Absent = ⊤
FindsBytes Failed = ⊤

-- what a session has is lawful, and came of bytes
pub record IsLawful (d : Declaration) (s : State) : Type 0 where
  pub state : IsState d s
  pub bytes : All IsOfBytes s.traces

-- ---- reads
-- files hold bytes
abbrev pub HoldBytes : (List ℕ → Option (List ℕ)) → Type 0
HoldBytes files = (path bytes : List ℕ) → files path ≡ Some bytes → AreBytes bytes

-- no read failed
abbrev pub NoneFailed : List Found → Type 0
NoneFailed founds = All (λ (f : Found). is_failed f ≡ false) founds

-- ---- outputs of a script
-- what a session has behind the first k lines of a script
abbrev pub IsStateBehind : Declaration → Content → State → List (List ℕ) → List Found → List (List ℕ) → ℕ → State → Type 0
IsStateBehind d files s lines founds texts k present = Session d files s (take k lines) (take k founds) (take k texts) present

-- two outputs of one script: each has a text for each line, behind as many lines the session has one lawful state, and the
-- next replies are one
pub record AreOneOutput (d : Declaration) (files : Content) (s : State) (lines : List (List ℕ)) (founds : List Found) (a b : List (List ℕ)) : Type 0 where
  pub each : length a ≡ length lines
  pub each_other : length b ≡ length lines
  pub one_state : (k : ℕ) (present other : State) → IsStateBehind d files s lines founds a k present → IsStateBehind d files s lines founds b k other → present ≡ other
  pub one_reply : (k : ℕ) (line text other : List ℕ) → slice_get lines k ≡ Some line → slice_get a k ≡ Some text → slice_get b k ≡ Some other
      → (present : State) × IsStateBehind d files s lines founds a k present × IsStateBehind d files s lines founds b k present × IsLawful d present
      × AreOneReply (problem_of d present.traces) line text other
