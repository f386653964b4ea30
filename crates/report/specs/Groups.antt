-- Messages by the groups that have their events.
use Rattle.std.specs.Prelude.{List, [], ◌∷◌, ◌++◌, length, map, filter, Bool, true, false, not, ◌&&◌, nat_lt, if◌then◌else◌}
use Rattle.std.specs.List.{list_any}
use Rattle.std.specs.Borrow.{Bor}
use Rattle.traces.specs.declared.event.MessageKey.{MessageKey as MessageKeyOfCode}
use Rattle.traces.specs.Seen.{MessageKey, is_same_message, message_of}
use Rattle.msg_match.specs.Groups.{SeenGroup, each_once}
use Rattle.report.specs.declared.alone.Having.{Having}
use Rattle.report.specs.declared.alone.Having.TheVariants.{Sends, Receives, Both}

-- a group has such events
abbrev pub has : Having → SeenGroup → Bool
has Sends g = nat_lt 0 (length g.sends)
has Receives g = nat_lt 0 (length g.receives)
has Both g = nat_lt 0 (length g.sends) && nat_lt 0 (length g.receives)

-- what the messages of groups are known by, each once
abbrev pub messages_in : List SeenGroup → List MessageKey
messages_in groups = each_once is_same_message (map (λ (g : SeenGroup). g.key.message) groups)

-- a group sends, and its message is among those that are received and not among those that meet
abbrev pub is_apart : (received met : List MessageKey) → SeenGroup → Bool
is_apart received met g = has Sends g && list_any (is_same_message g.key.message) received && not (list_any (is_same_message g.key.message) met)

-- the messages of the groups that stand apart so
abbrev pub messages_apart : List SeenGroup → List MessageKey
messages_apart groups = messages_in (filter (is_apart (messages_in (filter (has Receives) groups)) (messages_in (filter (has Both) groups))) groups)

-- ---- messages of the code
-- those that were noted
abbrev pub noted : List (Bor MessageKeyOfCode) → List MessageKey
noted messages = map (λ (m : Bor MessageKeyOfCode). message_of m.now) messages

-- messages with one more that is to be noted, where it is not there
abbrev pub with_message : Bool → List MessageKey → MessageKey → List MessageKey
with_message false messages message = messages
with_message true messages message = if list_any (is_same_message message) messages then messages else messages ++ message ∷ []
