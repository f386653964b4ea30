-- The problem that is kept of another one.
use Rattle.std.specs.Prelude.{◌≡◌, ℕ, Bool, List, length, Contains}
use Rattle.problem_model.specs.declared.items.Message.{Message}
use Rattle.problem_model.specs.Problem.{ProblemLists}
use Rattle.thinning.specs.declared.small.Thinned.{Thinned}
use Rattle.thinning.specs.Thinning.{IsMessageEnd}
use Rattle.thinning.specs.Thinned.{IsMarked, marked, thinned_by}

-- the marks of events, and those of messages
abbrev pub event_marks : Thinned → List Bool
event_marks t = t.stays.items

abbrev pub message_marks : Thinned → List Bool
message_marks t = t.keeps.items

-- the problem of the events and the messages whose marks are true
abbrev pub thinned_lists : ProblemLists → Thinned → ProblemLists
thinned_lists p t = thinned_by p (event_marks t) (message_marks t)

-- a mark for each event and each message, and the ends of each message that is kept stay
pub record FitsTo (p : ProblemLists) (t : Thinned) : Type 0 where
  pub events : length t.stays.items ≡ length p.events
  pub messages : length t.keeps.items ≡ length p.messages
  pub ends : (m : Message) (e : ℕ) → Contains (marked p.messages t.keeps.items) m → IsMessageEnd e m → IsMarked t.stays.items e
