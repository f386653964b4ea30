-- Events that came to labels, by number and by label.
use Rattle.std.specs.Prelude.{List, map}
use Rattle.traces.specs.Seen.{Seen}
use Rattle.msg_match.specs.Groups.{SeenItem}
use Rattle.roster.specs.Roster.{RosterLists, HoldsEvents, id_of}
use Rattle.msg_match.specs.Ends.{AreEndsBy}

-- a roster holds these events of each label, and these are the ends of messages among them by the numbers of the roster
pub record AreAllAdded (r : RosterLists) (items : List SeenItem) (seen : List (List Seen)) : Type 0 where
  pub holds : HoldsEvents r seen
  pub ends : AreEndsBy (map id_of r.came) items seen
