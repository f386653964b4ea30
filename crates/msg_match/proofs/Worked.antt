-- Two messages of one key, worked: a window of 10 ns tells them apart, one of 200 ns does not.
use Rattle.std.proofs.Common.{◌≡◌, ℕ, List, [], ◌∷◌, Some, refl}
use Rattle.std.specs.Prelude.{pos, negsuc}
use Rattle.traces.specs.declared.event.Side.{Side}
use Rattle.traces.specs.declared.event.Side.TheVariants.{Send, Receive}
use Rattle.traces.specs.Seen.{Word}
use Rattle.msg_match.specs.Groups.{SeenItem, ambiguous_groups}
use Rattle.msg_match.specs.Messages.{IsMessage, tallies}
use Rattle.msg_match.specs.Windowed.{grouped_items}

-- sent at -2, received at 8, sent again at 100, and received at 107
sent : ℕ → List SeenItem
sent window =
    (record { event = 0; side = Send; key = record { message = record { segment = 0; content = Word (107 ∷ []) }; moment = Some (record { time = negsuc 1; window = window }) } })
    ∷ (record { event = 1; side = Receive; key = record { message = record { segment = 0; content = Word (107 ∷ []) }; moment = Some (record { time = pos 107; window = window }) } })
    ∷ (record { event = 2; side = Send; key = record { message = record { segment = 0; content = Word (107 ∷ []) }; moment = Some (record { time = pos 100; window = window }) } })
    ∷ (record { event = 3; side = Receive; key = record { message = record { segment = 0; content = Word (107 ∷ []) }; moment = Some (record { time = pos 8; window = window }) } })
    ∷ []

first_message : IsMessage (grouped_items (sent 10)) (record { send = 0; receive = 3 })
unfolding sent
first_message = record { key = record { message = record { segment = 0; content = Word (107 ∷ []) }; moment = Some (record { time = negsuc 1; window = 10 }) }; sent = refl; received = refl }

second_message : IsMessage (grouped_items (sent 10)) (record { send = 2; receive = 1 })
unfolding sent
second_message = record { key = record { message = record { segment = 0; content = Word (107 ∷ []) }; moment = Some (record { time = pos 100; window = 10 }) }; sent = refl; received = refl }

two_counted : tallies (grouped_items (sent 10)) ≡ record { messages = 2; unmatched = 0; ambiguous = 0 }
unfolding sent
two_counted = refl

all_ambiguous : tallies (grouped_items (sent 200)) ≡ record { messages = 0; unmatched = 0; ambiguous = 4 }
unfolding sent
all_ambiguous = refl

none_apart : ambiguous_groups (grouped_items (sent 9)) ≡ []
unfolding sent
none_apart = refl
