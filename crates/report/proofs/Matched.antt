-- The couples among events are as many as the messages among their ends.
use Rattle.std.proofs.Common.{◌≡◌, ℕ, ◌+◌, List, [], ◌∷◌, ◌++◌, length, map, Bool, ◌&&◌, cond, inl, inr, refl, sym, ap, ◌∙◌, arith, length-append}
use Rattle.std.proofs.lemmas.List.{length-map}
use Rattle.std.specs.Prelude.{filter, is_some}
use Rattle.std.specs.List.{flat_map}
use Rattle.std.proofs.lemmas.Bool.{cases_Bool}
use Rattle.traces.specs.declared.event.Side.{Side}
use Rattle.traces.specs.declared.event.Side.TheVariants.{Send, Receive}
use Rattle.traces.specs.Seen.{EventKey, SeenMark, Keyed, Unkeyed, is_mark}
use Rattle.traces.specs.declared.event_id.EventId.{EventId}
use Rattle.traces.specs.Traces.{Placed}
use Rattle.traces.specs.Messages as traces
use Rattle.traces.specs.Messages.{couples_of, sent_by, with_mark}
use Rattle.msg_match.specs.Groups as groups
use Rattle.msg_match.specs.Groups.{SeenItem, events_with, has_mark}
use Rattle.msg_match.specs.Messages.{sends_message}
use Rattle.msg_match.specs.Ends.{End, end_by_mark, ends_among}
use Rattle.msg_match.specs.Ambiguous.{tallies_of, unnumbered}
use Rattle.msg_match.proofs.ByNumber.{is_one, told_alone}

-- ends as they are counted
abbrev pub items_in : List End → List SeenItem
items_in ends = map unnumbered ends

-- ---- events with a key and a side
count_first : {X : Type 0} (p : X → Bool) (x : X) (xs : List X) → length (filter p (x ∷ xs)) ≡ cond (p x) 1 0 + length (filter p xs)
count_first p x xs = elim (cases_Bool (p x)) [
  | inl passes ↦ rw passes (omega arith)
  | inr fails ↦ rw fails (omega arith)
]

counted : (items : List SeenItem) (key : EventKey) (side : Side) → length (events_with items key side) ≡ length (filter (has_mark key side) items)
counted items key side = length-map (filter (has_mark key side) items) (λ (x : SeenItem). x.event)

end_first : (key : EventKey) (side : Side) (id : EventId) (m : SeenMark) (ends : List End) → length (filter (has_mark key side) (items_in (end_by_mark id m ++ ends))) ≡ cond (is_mark key side m) 1 0 + length (filter (has_mark key side) (items_in ends))
end_first key side id (Keyed other its_side) ends = count_first (has_mark key side) (record { event = 0; side = its_side; key = other }) (items_in ends)
end_first key side id (Unkeyed reason) ends = omega arith

marked : (key : EventKey) (side : Side) (events : List Placed) → length (with_mark key side events) ≡ length (filter (has_mark key side) (items_in (ends_among events)))
marked key side [] = refl
marked key side (e ∷ more) =
    count_first (λ (x : Placed). is_mark key side x.seen.mark) e more
    ∙ ap (λ (k : ℕ). cond (is_mark key side e.seen.mark) 1 0 + k) (marked key side more)
    ∙ sym (end_first key side e.id e.seen.mark (ends_among more))

same_many : (key : EventKey) (side : Side) (events : List Placed) → length (with_mark key side events) ≡ length (events_with (items_in (ends_among events)) key side)
same_many key side events = marked key side events ∙ sym (counted (items_in (ends_among events)) key side)

-- ---- messages
-- a send and a receive alone, told by how many there are
two_alone : (ss rs : List Placed) → length (traces.only_two ss rs) ≡ cond (is_one (length ss) && is_one (length rs)) 1 0
two_alone [] rs = refl
two_alone (s ∷ p ∷ ss) rs = refl
two_alone (s ∷ []) [] = refl
two_alone (s ∷ []) (r ∷ []) = refl
two_alone (s ∷ []) (r ∷ q ∷ rs) = refl

as_alone : (ss rs : List Placed) (us vs : List ℕ) → length ss ≡ length us → length rs ≡ length vs → length (traces.only_two ss rs) ≡ cond (is_some (groups.only_couple us vs)) 1 0
as_alone ss rs us vs sends receives =
    two_alone ss rs
    ∙ ap (λ (n : ℕ). cond (is_one n && is_one (length rs)) 1 0) sends
    ∙ ap (λ (n : ℕ). cond (is_one (length us) && is_one n) 1 0) receives
    ∙ ap (λ (b : Bool). cond b 1 0) (sym (told_alone us vs))

sent_first : (all : List Placed) (id : EventId) (m : SeenMark) (ends : List End)
    → length (filter (sends_message (items_in (ends_among all))) (items_in (end_by_mark id m ++ ends))) ≡ length (sent_by all m) + length (filter (sends_message (items_in (ends_among all))) (items_in ends))
sent_first all id (Keyed key Send) ends =
    let items : List SeenItem = items_in (ends_among all) in
    count_first (sends_message items) (record { event = 0; side = Send; key = key }) (items_in ends)
    ∙ ap (λ (k : ℕ). k + length (filter (sends_message items) (items_in ends)))
    (sym (as_alone (with_mark key Send all) (with_mark key Receive all) (events_with items key Send) (events_with items key Receive) (same_many key Send all) (same_many key Receive all)))
sent_first all id (Keyed key Receive) ends = omega arith
sent_first all id (Unkeyed reason) ends = omega arith

sent_many : (all events : List Placed) → length (flat_map (λ (e : Placed). sent_by all e.seen.mark) events) ≡ length (filter (sends_message (items_in (ends_among all))) (items_in (ends_among events)))
sent_many all [] = refl
sent_many all (e ∷ more) =
    length-append (sent_by all e.seen.mark) (flat_map (λ (x : Placed). sent_by all x.seen.mark) more)
    ∙ ap (λ (k : ℕ). length (sent_by all e.seen.mark) + k) (sent_many all more)
    ∙ sym (sent_first all e.id e.seen.mark (ends_among more))

-- they are as many
pub messages_many : (events : List Placed) → (tallies_of (ends_among events)).messages ≡ length (couples_of events)
messages_many events = sym (sent_many events events)
