-- Messages by the names of their ends.
use Rattle.std.proofs.Common.{◌≡◌, ◌≢◌, ℕ, List, [], ◌∷◌, map, sym, ap, ◌∙◌, subst}
use Rattle.std.specs.Prelude.{AllPairs, Contains}
use Rattle.std.specs.List.Sorted.{IsPermutation}
use Rattle.std.proofs.lemmas.List.Sorted.{IsPermutation-sym}
use Rattle.traces.specs.declared.event.Side.{Side}
use Rattle.traces.specs.declared.event.Side.TheVariants.{Send, Receive}
use Rattle.traces.specs.Seen.{EventKey}
use Rattle.msg_match.specs.declared.change.Couple as numbers
use Rattle.msg_match.specs.Groups.{SeenItem, events_with}
use Rattle.msg_match.specs.Messages.{IsMessage}
use Rattle.traces.specs.declared.event_id.EventId.{EventId}
use Rattle.traces.specs.declared.event_id.Couple.{Couple}
use Rattle.traces.specs.Traces.{Placed}
use Rattle.traces.specs.Messages.{couples_of, with_mark}
use Rattle.traces.proofs.Marks.{only_from, only_to}
use Rattle.traces.proofs.CoupleEnds.{couple_pair, pair_couple}
use Rattle.msg_match.specs.Ends.{End, end_at, ends_among, name_as_came, named}
use Rattle.msg_match.specs.Ambiguous.{is_end, names_with}
use Rattle.msg_match.proofs.Lists.{AreAlike, alike_filter, alike_map, alike_one, map_one}
use Rattle.msg_match.proofs.Names.{names_by, names_of}

-- of all ends with some key, the couple has the only send and the only receive
pub record IsCouple (ends : List End) (m : Couple) : Type 0 where
  pub key : EventKey
  pub sent : names_with ends key Send ≡ m.send ∷ []
  pub received : names_with ends key Receive ≡ m.receive ∷ []

-- ---- of events
-- the names of a key and a side are alike, in whichever order the ends stand
pub alike_names : (xs ys : List End) (key : EventKey) (side : Side) → IsPermutation xs ys → AreAlike (names_with xs key side) (names_with ys key side)
alike_names xs ys key side same = alike_map (λ (e : End). e.id) _ _ (alike_filter (is_end key side) xs ys same)

moved_one : (xs ys : List End) (key : EventKey) (side : Side) (id : EventId) → IsPermutation xs ys → names_with xs key side ≡ id ∷ [] → names_with ys key side ≡ id ∷ []
moved_one xs ys key side id same is =
    alike_one id (names_with ys key side) (subst (λ (l : List EventId). AreAlike l (names_with ys key side)) is (alike_names xs ys key side same))

module _ (events : List Placed) (ends : List End) (differ : AllPairs (λ (a b : Placed). a.id ≢ b.id) events) (same : IsPermutation (ends_among events) ends) where
  only_name : (key : EventKey) (side : Side) (e : Placed) (id : EventId) → with_mark key side events ≡ e ∷ [] → id ≡ e.id → names_with ends key side ≡ id ∷ []
  only_name key side e id only is =
      moved_one (ends_among events) ends key side id same
      (names_of events key side ∙ ap (λ (l : List Placed). map (λ (o : Placed). o.id) l) only ∙ ap (λ (n : EventId). n ∷ []) (sym is))

  -- a couple of events is one of their ends
  pub message_couple : (m : Couple) → Contains (couples_of events) m → IsCouple ends m
  message_couple m held =
      let pair = couple_pair events m held in
      record {
        key = pair.key;
        sent = only_name pair.key Send pair.sender m.send (only_to events pair.key Send pair.sender differ pair.sends) (ap (λ (c : Couple). c.send) pair.is);
        received = only_name pair.key Receive pair.receiver m.receive (only_to events pair.key Receive pair.receiver differ pair.receives) (ap (λ (c : Couple). c.receive) pair.is);
      }

  only_placed : (key : EventKey) (side : Side) (id : EventId) → names_with ends key side ≡ id ∷ [] → (e : Placed) × (with_mark key side events ≡ e ∷ []) × (e.id ≡ id)
  only_placed key side id is =
      map_one (λ (o : Placed). o.id) (with_mark key side events) id
      (sym (names_of events key side) ∙ moved_one ends (ends_among events) key side id (IsPermutation-sym (ends_among events) ends same) is)

  -- and a couple of the ends is one of the events
  pub couple_message : (m : Couple) → IsCouple ends m → Contains (couples_of events) m
  couple_message m couple =
      let (s, only_s, is_s) = only_placed couple.key Send m.send couple.sent in
      let (r, only_r, is_r) = only_placed couple.key Receive m.receive couple.received in
      pair_couple events m differ
      (record {
        key = couple.key;
        sender = s;
        receiver = r;
        sends = only_from events couple.key Send s only_s;
        receives = only_from events couple.key Receive r only_r;
        is = ap (λ (n : EventId). made n m.receive) (sym is_s) ∙ ap (λ (n : EventId). made s.id n) (sym is_r);
      })
    where
      made : EventId → EventId → Couple
      made send receive = record { send = send; receive = receive }

-- ---- of items
module _ (ids : List EventId) (items : List SeenItem) where
  -- a message of items is a couple of their ends, by its names
  pub item_couple : (m : numbers.Couple) → IsMessage items m → IsCouple (map (end_at ids) items) (named ids m)
  item_couple m message = record {
    key = message.key;
    sent = names_by (name_as_came ids) items message.key Send ∙ ap (λ (l : List ℕ). map (name_as_came ids) l) message.sent;
    received = names_by (name_as_came ids) items message.key Receive ∙ ap (λ (l : List ℕ). map (name_as_came ids) l) message.received;
  }

  -- and a couple is a message
  pub couple_item : (m : Couple) → IsCouple (map (end_at ids) items) m → (n : numbers.Couple) × IsMessage items n × (named ids n ≡ m)
  couple_item m couple =
      let (s, only_s, is_s) = map_one (name_as_came ids) (events_with items couple.key Send) m.send (sym (names_by (name_as_came ids) items couple.key Send) ∙ couple.sent) in
      let (r, only_r, is_r) = map_one (name_as_came ids) (events_with items couple.key Receive) m.receive (sym (names_by (name_as_came ids) items couple.key Receive) ∙ couple.received) in (
        record { send = s; receive = r },
        record { key = couple.key; sent = only_s; received = only_r },
        ap (λ (n : EventId). made n (name_as_came ids r)) is_s ∙ ap (λ (n : EventId). made m.send n) is_r,
      )
    where
      made : EventId → EventId → Couple
      made send receive = record { send = send; receive = receive }
