-- Messages that come, from numbers to names.
use Rattle.std.proofs.Common.{◌≡◌, ◌≢◌, ◌<◌, ℕ, List, [], ◌∷◌, length, map, inl, inr, sym, ap, ◌∙◌, subst}
use Rattle.std.specs.Prelude.{All, AllPairs, Contains}
use Rattle.std.specs.List.Sorted.{IsPermutation}
use Rattle.std.proofs.lemmas.Bool.{cases_order}
use Rattle.std.proofs.lemmas.List.Elements.{All-contains}
use Rattle.traces.specs.declared.event.Side.{Side}
use Rattle.traces.specs.declared.event.Side.TheVariants.{Send, Receive}
use Rattle.traces.specs.Seen.{EventKey, Seen}
use Rattle.msg_match.specs.declared.change.Couple as numbers
use Rattle.msg_match.specs.Groups.{SeenItem, events_with}
use Rattle.msg_match.specs.Messages.{IsMessage}
use Rattle.msg_match.specs.Changes.{AreCouplesAnew}
use Rattle.msg_match.proofs.Changing as changing
use Rattle.traces.specs.declared.event_id.EventId.{EventId}
use Rattle.traces.specs.declared.event_id.Couple.{Couple}
use Rattle.traces.specs.Traces.{Placed, events_of}
use Rattle.traces.specs.Messages.{messages_of}
use Rattle.traces.specs.Windows.{grouped}
use Rattle.traces.proofs.Grouped.{grouped_differ}
use Rattle.traces.proofs.Ids.{ids_differ}
use Rattle.msg_match.specs.Ends.{AreCouplesBelow, AreNewMessages, IsNewMessage, end_at, ends_among, name_as_came, named, no_name}
use Rattle.msg_match.proofs.Lists.{each_in, from_map, in_map, map_differs, told_apart}
use Rattle.msg_match.proofs.Coupled.{couple_item, couple_message, item_couple, message_couple}

-- ---- numbers of messages
-- all numbers are those of names
abbrev pub AreWithin : List EventId → List SeenItem → Type 0
AreWithin ids items = All (λ (x : SeenItem). x.event < length ids) items

pub number_within : (ids : List EventId) (items : List SeenItem) (key : EventKey) (side : Side) (n : ℕ) → AreWithin ids items → events_with items key side ≡ n ∷ [] → n < length ids
number_within ids items key side n within is =
    let (a, among, number, has) = changing.holder items key side n is in
    subst (λ (k : ℕ). k < length ids) number (All-contains (λ (x : SeenItem). x.event < length ids) items a within among)

name_one : (ids : List EventId) (i j : ℕ) → AllPairs (λ (a b : EventId). a ≢ b) ids → i < length ids → j < length ids → name_as_came ids i ≡ name_as_came ids j → i ≡ j
name_one ids i j differ inside inside' same = elim (cases_order i j) [
  | inl is ↦ is
  | inr apart ↦ elim apart [
    | inl before ↦ absurd (differ i j no_name before inside' same)
    | inr behind ↦ absurd (differ j i no_name behind inside (sym same))
  ]
]

-- messages of items are one where their names are
named_one : (ids : List EventId) (first second : List SeenItem) (a b : numbers.Couple) → AllPairs (λ (x y : EventId). x ≢ y) ids → AreWithin ids first → AreWithin ids second → IsMessage first a → IsMessage second b → named ids a ≡ named ids b → a ≡ b
named_one ids first second a b differ within within' message message' same =
    let send : a.send ≡ b.send =
    name_one ids a.send b.send differ (number_within ids first message.key Send a.send within message.sent) (number_within ids second message'.key Send b.send within' message'.sent) (ap (λ (c : Couple). c.send) same) in
    let receive : a.receive ≡ b.receive =
    name_one ids a.receive b.receive differ (number_within ids first message.key Receive a.receive within message.received) (number_within ids second message'.key Receive b.receive within' message'.received) (ap (λ (c : Couple). c.receive) same) in
    ap (λ (n : ℕ). both n a.receive) send ∙ ap (λ (n : ℕ). both b.send n) receive
  where
    both : ℕ → ℕ → numbers.Couple
    both send receive = record { send = send; receive = receive }

-- messages that come have numbers of names
pub anew_within : (ids : List EventId) (first second : List SeenItem) (found : List numbers.Couple) → AreWithin ids second → AreCouplesAnew first second found → AreCouplesBelow (length ids) found
anew_within ids first second found within anew =
    each_in (λ (m : numbers.Couple). (m.send < length ids) × (m.receive < length ids)) found
    (λ m held.
    let message = (anew.only m held).0 in
    (number_within ids second message.key Send m.send within message.sent, number_within ids second message.key Receive m.receive within message.received))

-- ---- by names
-- events by their groups have names of their own
apart : (seen : List (List Seen)) → AllPairs (λ (a b : Placed). a.id ≢ b.id) (grouped (events_of seen))
apart seen = grouped_differ (events_of seen) (ids_differ seen)

module _ (ids : List EventId) (first second : List SeenItem) (before after : List (List Seen)) (differ : AllPairs (λ (a b : EventId). a ≢ b) ids) (within : AreWithin ids first) (within' : AreWithin ids second)
    (ends : IsPermutation (ends_among (grouped (events_of before))) (map (end_at ids) first)) (ends' : IsPermutation (ends_among (grouped (events_of after))) (map (end_at ids) second)) where
  olds : List Couple
  olds = messages_of (events_of before)

  was_message : (m : numbers.Couple) → IsMessage second m → Contains olds (named ids m) → IsMessage first m
  unfolding olds
  was_message m message held =
      let (n, old, same) = couple_item ids first (named ids m) (message_couple (grouped (events_of before)) (map (end_at ids) first) (apart before) ends (named ids m) held) in
      subst (λ (c : numbers.Couple). IsMessage first c) (named_one ids first second n m differ within within' old message same) old

  is_message : (m : numbers.Couple) → IsMessage first m → Contains olds (named ids m)
  unfolding olds
  is_message m message = couple_message (grouped (events_of before)) (map (end_at ids) first) (apart before) ends (named ids m) (item_couple ids first m message)

  -- what comes by numbers comes by names
  pub named_anew : (found : List numbers.Couple) → AreCouplesAnew first second found → AreNewMessages before after (map (named ids) found)
  unfolding olds
  named_anew found anew = record {
    only =
        λ m held.
        let (n, among, is) = from_map (named ids) found m held in
        let (message, new) = anew.only n among in
        let there : Contains (messages_of (events_of after)) (named ids n) = couple_message (grouped (events_of after)) (map (end_at ids) second) (apart after) ends' (named ids n) (item_couple ids second n message) in
        subst (λ (c : Couple). IsNewMessage before after c) is (there, λ old. new (was_message n message old));
    all =
        λ m new.
        let (n, message, is) = couple_item ids second m (message_couple (grouped (events_of after)) (map (end_at ids) second) (apart after) ends' m new.0) in
        let none : IsMessage first n → ⊥ = λ old. new.1 (subst (λ (c : Couple). Contains olds c) is (is_message n old)) in
        subst (λ (c : Couple). Contains (map (named ids) found) c) is (in_map (named ids) found n (anew.all n (message, none)));
    once =
        map_differs (named ids) found
        (told_apart (named ids) found anew.once
        (λ a b held held' same. named_one ids second second a b differ within' within' (anew.only a held).0 (anew.only b held').0 same));
  }
