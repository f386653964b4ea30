-- Keys whose sends and receives never meet in one group, as where a window is smaller than what clocks disagree by.
use Rattle.std.specs.Prelude.{ℕ, List, length, map, filter, Bool, not, ◌&&◌}
use Rattle.std.specs.List.{list_any}
use Rattle.traces.specs.declared.event.Side.{Side}
use Rattle.traces.specs.declared.event.Side.TheVariants.{Send, Receive}
use Rattle.traces.specs.Seen.{MessageKey, is_same_message, is_same_side}
use Rattle.msg_match.specs.Groups.{each_once}
use Rattle.msg_match.specs.Ends.{End}
use Rattle.msg_match.specs.Ambiguous.{is_end}

-- what the message of an end is known by, whatever the group
abbrev pub message_in : End → MessageKey
message_in e = e.key.message

-- an end sends or receives what is known by this
abbrev pub has_side : MessageKey → Side → End → Bool
has_side message side e = is_same_message (message_in e) message && is_same_side e.side side

-- an end sends it, and one of the same group receives it
abbrev pub meets : List End → MessageKey → End → Bool
meets ends message e = has_side message Send e && list_any (is_end e.key Receive) ends

-- it is sent and received, and never in one group
abbrev pub stands_alone : List End → MessageKey → Bool
stands_alone ends message = list_any (has_side message Send) ends && list_any (has_side message Receive) ends && not (list_any (meets ends message) ends)

-- how many such keys there are among ends, each counted once
abbrev pub alone_among : List End → ℕ
alone_among ends = length (filter (stands_alone ends) (each_once is_same_message (map message_in ends)))
