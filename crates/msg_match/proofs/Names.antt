-- Ends of messages by the names of their events.
use Rattle.std.proofs.Common.{◌≡◌, ℕ, List, [], ◌∷◌, ◌++◌, map, Bool, true, false, cond, ◌&&◌, ◌==◌, inl, inr, refl, sym, ap, ◌∙◌}
use Rattle.std.specs.Prelude.{Contains}
use Rattle.std.proofs.lemmas.Bool.{and_from, and_parts, cases_Bool, eq-eqb, eqb-true}
use Rattle.traces.specs.declared.event.Side.{Side}
use Rattle.traces.specs.Seen.{EventKey, SeenMark, Keyed, Unkeyed, is_mark, is_same_key, is_same_side}
use Rattle.msg_match.specs.Groups.{SeenItem, events_with}
use Rattle.traces.specs.declared.event_id.EventId.{EventId}
use Rattle.traces.specs.Traces.{Placed, is_same}
use Rattle.traces.specs.Messages.{with_mark}
use Rattle.traces.proofs.Members.{head_or_tail, none_in}
use Rattle.msg_match.specs.Ends.{End, end_by_mark, ends_among}
use Rattle.msg_match.specs.Ambiguous.{names_with}

-- ---- names
abbrev pub made_id : ℕ → ℕ → EventId
made_id label number = record { label = label; number = number }

pub same_id : (a b : EventId) → is_same a b ≡ true → a ≡ b
same_id a b same =
    let both = and_parts (a.label == b.label) (a.number == b.number) same in
    ap (λ (n : ℕ). made_id n a.number) (eqb-true a.label b.label both.0) ∙ ap (λ (n : ℕ). made_id b.label n) (eqb-true a.number b.number both.1)

pub own_id : (a : EventId) → is_same a a ≡ true
own_id a = and_from (a.label == a.label) (a.number == a.number) (eq-eqb a.label a.label refl) (eq-eqb a.number a.number refl)

-- ---- ends with a key and a side
one_end : (id : EventId) (mark : SeenMark) (key : EventKey) (side : Side) (us : List End) (vs : List EventId) → names_with us key side ≡ vs → names_with (end_by_mark id mark ++ us) key side ≡ cond (is_mark key side mark) (id ∷ vs) vs
one_end id (Unkeyed reason) key side us vs is = is
one_end id (Keyed other its_side) key side us vs is = elim (cases_Bool (is_same_key other key && is_same_side its_side side)) [
  | inl yes' ↦ rw yes' (ap (λ (l : List EventId). id ∷ l) is)
  | inr no' ↦ rw no' is
]

one_placed : (b : Bool) (e : Placed) (us : List Placed) → map (λ (o : Placed). o.id) (cond b (e ∷ us) us) ≡ cond b (e.id ∷ map (λ (o : Placed). o.id) us) (map (λ (o : Placed). o.id) us)
one_placed true e us = refl
one_placed false e us = refl

-- the ends of events have the names of the events
pub names_of : (events : List Placed) (key : EventKey) (side : Side) → names_with (ends_among events) key side ≡ map (λ (e : Placed). e.id) (with_mark key side events)
names_of [] key side = refl
names_of (e ∷ events) key side =
    one_end e.id e.seen.mark key side (ends_among events) (map (λ (o : Placed). o.id) (with_mark key side events)) (names_of events key side)
    ∙ sym (one_placed (is_mark key side e.seen.mark) e (with_mark key side events))

-- ---- items as ends
-- an item as an end, where its number stands for this event
abbrev pub end_by : (ℕ → EventId) → SeenItem → End
end_by f x = record { id = f x.event; key = x.key; side = x.side }

-- items have the names that their numbers stand for
pub names_by : (f : ℕ → EventId) (items : List SeenItem) (key : EventKey) (side : Side) → names_with (map (end_by f) items) key side ≡ map f (events_with items key side)
names_by f [] key side = refl
names_by f (x ∷ items) key side = elim (cases_Bool (is_same_key x.key key && is_same_side x.side side)) [
  | inl yes' ↦ rw yes' (ap (λ (l : List EventId). f x.event ∷ l) (names_by f items key side))
  | inr no' ↦ rw no' (names_by f items key side)
]

-- and the keys
pub keys_by : (f : ℕ → EventId) (items : List SeenItem) → map (λ (e : End). e.key) (map (end_by f) items) ≡ map (λ (x : SeenItem). x.key) items
keys_by f [] = refl
keys_by f (x ∷ items) = ap (λ (l : List EventKey). x.key ∷ l) (keys_by f items)

-- ---- names of their own
pub own_end : (id : EventId) (mark : SeenMark) (x : End) → Contains (end_by_mark id mark) x → x.id ≡ id
own_end id (Unkeyed reason) x held = absurd (none_in x held)
own_end id (Keyed key side) x held = elim (head_or_tail _ x [] held) [
  | inl is ↦ ap (λ (e : End). e.id) (sym is)
  | inr more ↦ absurd (none_in x more)
]
