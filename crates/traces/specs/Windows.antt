-- Which events of a message belong together, where a window is declared.
use Rattle.std.specs.Prelude.{ℤ, List, [], ◌∷◌, map, Option, Some, None, option_map, option_to_list, Bool, true, false, ◌==◌, ◌&&◌, if◌then◌else◌}
use Rattle.std.specs.List.{flat_map}
use Rattle.traces.specs.Beginnings.{beginning}
use Rattle.traces.specs.Seen.{EventKey, SeenMoment, SeenMark, Keyed, Unkeyed, is_same_message}
use Rattle.traces.specs.Traces.{Placed}

-- ---- keys
-- two windows are one, or there is neither
abbrev pub is_same_window : Option SeenMoment → Option SeenMoment → Bool
is_same_window None None = true
is_same_window None (Some b) = false
is_same_window (Some a) None = false
is_same_window (Some a) (Some b) = a.window == b.window

-- two keys are of one message and of one window, whatever their times
abbrev pub is_alike : EventKey → EventKey → Bool
is_alike a b = is_same_message a.message b.message && is_same_window a.moment b.moment

-- when the event of a key happened, where a window is declared
abbrev pub time_in : EventKey → List ℤ
time_in key = option_to_list (option_map (λ (m : SeenMoment). m.time) key.moment)

-- when the event of the other key happened, if that key is like this one
abbrev pub time_with : EventKey → EventKey → List ℤ
time_with key other = if is_alike key other then time_in other else []

-- when the events happened whose keys are like this one
abbrev pub times_of : List EventKey → EventKey → List ℤ
times_of keys key = flat_map (time_with key) keys

-- a moment whose time is that at which its group begins
abbrev pub group_moment : List ℤ → SeenMoment → SeenMoment
group_moment times m = record { time = beginning m.window times m.time; window = m.window }

-- the key of the group that an event belongs to among events of these keys: neighbours in time that are the window apart at
-- most are of one group
abbrev pub group_key : List EventKey → EventKey → EventKey
group_key keys key = record { message = key.message; moment = option_map (group_moment (times_of keys key)) key.moment }

-- ---- events
-- the key of a mark, if it has one
abbrev pub key_in : SeenMark → List EventKey
key_in (Keyed key side) = key ∷ []
key_in (Unkeyed reason) = []

-- the keys among events
abbrev pub keys_among : List Placed → List EventKey
keys_among events = flat_map (λ (e : Placed). key_in e.seen.mark) events

-- a mark with the key of its group
abbrev pub group_mark : List EventKey → SeenMark → SeenMark
group_mark keys (Keyed key side) = Keyed (group_key keys key) side
group_mark keys (Unkeyed reason) = Unkeyed reason

-- an event by its group
abbrev pub by_group : List EventKey → Placed → Placed
by_group keys e = record { id = e.id; seen = record { stamp = e.seen.stamp; mark = group_mark keys e.seen.mark; text = e.seen.text } }

-- events by their groups
abbrev pub grouped : List Placed → List Placed
grouped events = map (by_group (keys_among events)) events
