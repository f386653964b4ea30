-- What a trial comes to.
use Rattle.std.specs.Prelude.{◌≡◌, ℕ, List, [], ◌∷◌, ◌++◌, length, count_by, Option, Some, codes}
use Rattle.std.specs.List.{concat, range_with_len}
use Rattle.atto.specs.Decimal.{decimal_of}
use Rattle.ports.specs.Memory.{bytes_of}
use Rattle.decl.specs.Declaration.{Declaration}
use Rattle.decl.specs.Walk.{IsDocumentOf}
use Rattle.ports.specs.Lines.{lines_of}
use Rattle.traces.specs.Traces.{event_count, events_of, seen_by}
use Rattle.traces.specs.Messages.{messages_of}
use Rattle.trial.specs.Declaration.{declaration_text}
use Rattle.trial.specs.Workload.{files_of, script_of}
use Rattle.queries.specs.declared.comparison.Asked.TheVariants.{Interval}
use Rattle.replies.specs.Commands.{Ask, Compare}
use Rattle.replies.specs.Reply.{State, Found, Unread, Reply}
use Rattle.replies.specs.Sessions.{Session, start, is_failed}

-- ---- the session
-- the bytes at each path of the trial with this number
abbrev pub files_at : ℕ → List ℕ → Option (List ℕ)
files_at n = bytes_of (files_of n)

-- the text of the trial declares this, each line of its script has its reply, in order, in a session that begins with
-- nothing, and no read fails; the session then has this
pub record IsConducted (n : ℕ) (d : Declaration) (s : State) : Type 0 where
  pub declared : IsDocumentOf declaration_text d
  pub founds : List Found
  pub texts : List (List ℕ)
  pub session : Session d (Some (files_at n)) (start d) (lines_of (script_of n)) founds texts s
  pub read : count_by is_failed founds ≡ 0

-- ---- what is asked at its end
-- the name of the first event of a host
abbrev pub first_event : ℕ → List ℕ
first_event host = codes "h" ++ decimal_of host ++ codes "#1"

-- a reply for each of these hosts to the question how long behind the first event of the first host its own first event was
abbrev pub AreIntervals : Declaration → State → List ℕ → List (List ℕ) → Type 0
AreIntervals d s [] [] = Unit {0}
AreIntervals d s [] (text ∷ texts) = ⊥
AreIntervals d s (host ∷ hosts) [] = ⊥
AreIntervals d s (host ∷ hosts) (text ∷ texts) = Reply d s (Ask (Compare Interval (first_event 0) (first_event host))) Unread text s × AreIntervals d s hosts texts

-- ---- the whole
-- so many events and messages are there behind the script, and these are the replies for the hosts behind the first one
pub record IsTrial (n events messages : ℕ) (replies : List ℕ) : Type 0 where
  pub declaration : Declaration
  pub state : State
  pub conducted : IsConducted n declaration state
  pub all_events : events ≡ event_count (seen_by declaration state.traces)
  pub all_messages : messages ≡ length (messages_of (events_of (seen_by declaration state.traces)))
  pub texts : List (List ℕ)
  pub intervals : AreIntervals declaration state (range_with_len 1 7) texts
  pub are : replies ≡ concat texts
