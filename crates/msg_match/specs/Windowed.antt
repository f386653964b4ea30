-- Events by the groups that they belong to.
use Rattle.std.specs.Prelude.{List, map}
use Rattle.traces.specs.Seen.{EventKey}
use Rattle.traces.specs.Windows.{group_key}
use Rattle.msg_match.specs.Groups.{SeenItem}

-- the keys of events
abbrev pub item_keys : List SeenItem → List EventKey
item_keys items = map (λ (x : SeenItem). x.key) items

-- an event with the key of its group among events of these keys
abbrev pub group_item : List EventKey → SeenItem → SeenItem
group_item keys x = record { event = x.event; side = x.side; key = group_key keys x.key }

-- events with the keys of their groups: where a window is declared, events of one message that lie apart in time are of several
-- groups; else all events of a key are one, and nothing changes
abbrev pub grouped_items : List SeenItem → List SeenItem
grouped_items items = map (group_item (item_keys items)) items
