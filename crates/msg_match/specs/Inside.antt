-- What a matcher's tables say.
use Rattle.std.specs.Prelude.{◌≡◌, ◌<◌, ◌≤◌, List, [], ◌∷◌, length, map, slice_index_or, All, None}
use Rattle.problem_model.specs.Limits.{most_items}
use Rattle.traces.specs.Seen.{EventKey}
use Rattle.msg_match.specs.declared.entry.Entry.{Entry}
use Rattle.msg_match.specs.Groups.{SeenItem, SeenGroup, keys_of, group_of}
use Rattle.msg_match.specs.Parts.{no_key}
use Rattle.msg_match.specs.Windowed.{grouped_items}

-- an event of the log, with the key at its place among the keys
abbrev pub item_by : List EventKey → Entry → SeenItem
item_by keys e = record { event = e.event; side = e.side; key = slice_index_or keys e.place no_key }

-- the events of a log
abbrev pub items_by : List EventKey → List Entry → List SeenItem
items_by keys log = map (item_by keys) log

-- the keys are those of all events, in the order in which they came, and each has its group
pub record AreGrouped (keys : List EventKey) (log : List Entry) (groups : List SeenGroup) : Type 0 where
  pub few : length log ≤ most_items
  pub within : All (λ (e : Entry). e.place < length keys) log
  pub ordered : keys ≡ keys_of (items_by keys log)
  pub grouped : groups ≡ map (group_of (items_by keys log)) keys

-- ---- a matcher
-- an event has no time
abbrev pub IsUntimed : SeenItem → Type 0
IsUntimed x = x.key.moment ≡ None

-- the events by what is kept of them: they themselves where some have a time, and else only by their groups
abbrev pub events_kept : List SeenItem → List SeenItem → List SeenItem
events_kept grouped [] = grouped
events_kept grouped (x ∷ more) = x ∷ more

-- what is kept: the events by their groups
abbrev pub AreKept : List SeenItem → List SeenItem → Type 0
AreKept grouped [] = All IsUntimed grouped
AreKept grouped (x ∷ more) = grouped ≡ grouped_items (x ∷ more)
