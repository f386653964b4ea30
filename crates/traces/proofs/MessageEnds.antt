-- Messages one by one: their ends, their order and their number.
use Rattle.std.proofs.Common.{◌≡◌, ◌≢◌, ◌≤◌, List, length, ap, ◌∙◌, subst}
use Rattle.std.specs.Prelude.{AllPairs, Contains}
use Rattle.traces.specs.declared.event_id.Couple.{Couple}
use Rattle.traces.specs.Seen.{Seen}
use Rattle.traces.specs.Traces.{Placed, events_of}
use Rattle.traces.specs.Windows.{grouped}
use Rattle.traces.specs.Messages.{messages_of}
use Rattle.traces.specs.Pairs.{ComesBefore, IsPair}
use Rattle.traces.proofs.CoupleEnds.{couple_ends, couple_ends_differ, couple_pair, couples_few, couples_rise, couple_sends_differ, pair_couple}
use Rattle.traces.proofs.Grouped.{grouped_differ, grouped_rise, in_group, length_grouped}
use Rattle.traces.proofs.Ids.{ids_differ, ids_rise}

-- ---- a message is a pair
-- each message is a pair of events by their groups
pub pair_from : (events : List Placed) (m : Couple) → Contains (messages_of events) m → IsPair (grouped events) m
pair_from events m held = couple_pair (grouped events) m held

-- where names differ, each such pair is a message
pub pair_to : (events : List Placed) (m : Couple) → AllPairs (λ (a b : Placed). a.id ≢ b.id) events → IsPair (grouped events) m → Contains (messages_of events) m
pair_to events m differ pair = pair_couple (grouped events) m (grouped_differ events differ) pair

-- ---- their ends
-- both ends are events of the list
pub ends_known : (events : List Placed) (m : Couple) → Contains (messages_of events) m → (s : Placed) × (r : Placed) × Contains events s × Contains events r × (m.send ≡ s.id) × (m.receive ≡ r.id)
ends_known events m held =
    let (s, r, sent, received, from, to) = couple_ends (grouped events) m held in
    let (s', among, is) = in_group events s sent in
    let (r', among', is') = in_group events r received in
    (s', r', among, among', from ∙ ap (λ (e : Placed). e.id) is, to ∙ ap (λ (e : Placed). e.id) is')

-- and where names differ, they are two
pub ends_differ : (events : List Placed) (m : Couple) → AllPairs (λ (a b : Placed). a.id ≢ b.id) events → Contains (messages_of events) m → m.send ≢ m.receive
ends_differ events m differ held = couple_ends_differ (grouped events) m (grouped_differ events differ) held

-- ---- how many
-- there are no more messages than events
pub messages_few : (events : List Placed) → length (messages_of events) ≤ length events
messages_few events = subst (λ n. length (messages_of events) ≤ n) (length_grouped events) (couples_few (grouped events))

-- ---- their order
-- messages stand in the order of their sends
pub messages_rise : (events : List Placed) → AllPairs (λ (a b : Placed). ComesBefore a.id b.id) events → AllPairs (λ (a b : Couple). ComesBefore a.send b.send) (messages_of events)
messages_rise events rise = couples_rise (grouped events) (grouped_rise events rise)

-- so no two have the same send
pub sends_differ : (events : List Placed) → AllPairs (λ (a b : Placed). ComesBefore a.id b.id) events → AllPairs (λ (a b : Couple). a.send ≢ b.send) (messages_of events)
sends_differ events rise = couple_sends_differ (grouped events) (grouped_rise events rise)

-- ---- of all traces
pub pairs_of : (seen : List (List Seen)) (m : Couple) → IsPair (grouped (events_of seen)) m → Contains (messages_of (events_of seen)) m
pairs_of seen m pair = pair_to (events_of seen) m (ids_differ seen) pair

pub order_of : (seen : List (List Seen)) → AllPairs (λ (a b : Couple). ComesBefore a.send b.send) (messages_of (events_of seen))
order_of seen = messages_rise (events_of seen) (ids_rise seen)
