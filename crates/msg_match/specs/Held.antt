-- What is seen of events and groups.
use Rattle.std.specs.Prelude.{List, map, Option, option_map}
use Rattle.std.specs.Borrow.{Bor}
use Rattle.traces.specs.Seen.{key_of}
use Rattle.msg_match.specs.declared.item.Item.{Item}
use Rattle.msg_match.specs.declared.group.Group.{Group}
use Rattle.msg_match.specs.Groups.{SeenItem, SeenGroup}

-- an item of the code, by what is seen of it
abbrev pub seen_item : Item → SeenItem
seen_item item = record { event = item.event; side = item.side; key = key_of item.key }

-- items of the code, in their order
abbrev pub seen_items : List Item → List SeenItem
seen_items items = map seen_item items

-- a group of the code, by what is seen of it
abbrev pub seen_group : Group → SeenGroup
seen_group g = record { key = key_of g.key; sends = g.sends.items; receives = g.receives.items }

-- groups of the code, in their order
abbrev pub seen_groups : List Group → List SeenGroup
seen_groups groups = map seen_group groups

-- the group that a call found
abbrev pub seen_found : Option (Bor Group) → Option SeenGroup
seen_found found = option_map (λ (g : Bor Group). seen_group g.now) found
