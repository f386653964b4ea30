-- Events that came to labels, and more that come to one of them.
use Rattle.std.proofs.Common.{◌≡◌, ℕ, zero, suc, ◌+◌, ◌≤◌, ◌<◌, List, [], ◌∷◌, ◌++◌, length, map, get_or, refl, sym, ◌∙◌, ap, subst, arith}
use Rattle.std.specs.Prelude.{All, slice_get, slice_set, Some}
use Rattle.std.proofs.lemmas.List.{get_or-map, length-map, map-append, map-set}
use Rattle.std.proofs.lemmas.List.Elements.{All-cons, All-nil}
use Rattle.std.proofs.lemmas.List.Sums.{sum_by-cons}
use Rattle.std.proofs.lemmas.Option.{get_or_from_slice_get, none-some, same_Some, slice_get_read}
use Rattle.decl.specs.declared.items.Label.{Label}
use Rattle.traces.specs.declared.event.Event.{Event}
use Rattle.traces.specs.Seen.{Seen, seen_event, seen_events}
use Rattle.traces.specs.declared.accepted.Accepted.{Accepted}
use Rattle.traces.specs.declared.event_id.EventId.{EventId}
use Rattle.traces.specs.Traces.{event_count}
use Rattle.traces.specs.Held.{seen_in}
use Rattle.msg_match.specs.Groups.{SeenItem}
use Rattle.msg_match.specs.Changes.{HaveOwnNumbers}
use Rattle.msg_match.specs.Ends.{AreEndsBy, ids_from, items_from}
use Rattle.msg_match.proofs.Grown.{ends_few, ends_more, ends_none, own_more}
use Rattle.roster.specs.declared.came.Came.{Came}
use Rattle.roster.specs.Groups.{group_at, sizes_of, total, with_more}
use Rattle.roster.specs.Readings.{stamps_of}
use Rattle.roster.specs.Roster.{RosterLists, HoldsEvents, IsGrown, IsRoster, came_from, event_at, id_of}
use Rattle.roster.proofs.Holding.{holds_more, holds_none}
use Rattle.roster.proofs.Turns.{map-map}
use Rattle.reference_traces.specs.Added.{AreAllAdded}

-- ---- no events
abbrev IsNone : List Seen → Type 0
IsNone events = events ≡ []

all_none : (labels : List Label) → All IsNone (map (λ (l : Label). []) labels)
all_none [] = All-nil IsNone
all_none (l ∷ labels) = All-cons IsNone [] (map (λ (x : Label). []) labels) refl (all_none labels)

pub none_added : (r : RosterLists) (items : List SeenItem) (seen : List (List Seen)) → IsRoster r → r.came ≡ [] → items ≡ [] → seen ≡ map (λ (l : Label). []) r.declaration.labels → AreAllAdded r items seen
none_added r items seen is none no_items no_events =
    let ends : AreEndsBy [] [] seen = subst (λ (l : List (List Seen)). AreEndsBy [] [] l) (sym no_events) (ends_none (map (λ (l : Label). []) r.declaration.labels) (all_none r.declaration.labels)) in
    record {
      holds = subst (λ (l : List (List Seen)). HoldsEvents r l) (sym no_events) (holds_none r is none);
      ends = subst (λ (l : List Came). AreEndsBy (map id_of l) items seen) (sym none) (subst (λ (l : List SeenItem). AreEndsBy [] l seen) (sym no_items) ends);
    }

-- ---- as many
abbrev stamp_seen : Seen → ℕ
stamp_seen s = s.stamp

abbrev stamps_seen : List Seen → List ℕ
stamps_seen events = map stamp_seen events

-- under one label
group_long : (f : ℕ → ℕ) (under : List (List ℕ)) (seen : List (List Seen)) (label : ℕ) (own : List Seen) → map (map f) under ≡ map stamps_seen seen → slice_get seen label ≡ Some own → length (group_at under label) ≡ length own
group_long f under [] label own e at = absurd (none-some own at)
group_long f [] (ss ∷ seen) label own e at = absurd (cc)
group_long f (vs ∷ under) (ss ∷ seen) zero own e at =
    let one : map f vs ≡ stamps_seen ss = cc in
    omega (arith, ap length one, length-map vs f, length-map ss stamp_seen, ap length (same_Some ss own at))
group_long f (vs ∷ under) (ss ∷ seen) (suc label) own e at =
    let rest : map (map f) under ≡ map stamps_seen seen = cc in
    group_long f under seen label own rest at

-- under all
all_long : (f : ℕ → ℕ) (under : List (List ℕ)) (seen : List (List Seen)) → map (map f) under ≡ map stamps_seen seen → total (sizes_of under) ≡ event_count seen
all_long f [] [] e = refl
all_long f [] (ss ∷ seen) e = absurd (cc)
all_long f (vs ∷ under) [] e = absurd (cc)
all_long f (vs ∷ under) (ss ∷ seen) e =
    let one : map f vs ≡ stamps_seen ss = cc in
    let rest : map (map f) under ≡ map stamps_seen seen = cc in
    omega (arith, ap length one, length-map vs f, length-map ss stamp_seen, all_long f under seen rest, sum_by-cons length ss seen)

-- ---- names
-- those of events that come to a roster
ids_came : (label n : ℕ) (more : List Event) → map id_of (came_from label n (stamps_of more)) ≡ ids_from label n (seen_events more)
ids_came label n [] = refl
ids_came label n (e ∷ more) =
    let id : EventId = record { label = label; number = n } in
    ap (λ (l : List EventId). id ∷ l) (ids_came label (n + 1) more)

-- ---- the events of one label, where more come to it
module _ (accepted : List Accepted) (more : List Event) (label : ℕ) (old after : Accepted) (inside : label < length accepted) (old_is : old ≡ get_or accepted label old)
    (after_is : after.events.items ≡ old.events.items ++ more) where
  abbrev under : Accepted → List Seen
  under a = seen_events a.events.items

  own_at : slice_get (seen_in accepted) label ≡ Some (under old)
  own_at = (
      let read : under old ≡ get_or (seen_in accepted) label (under old) = ap under old_is ∙ sym (get_or-map under accepted label old (under old) inside) in
      slice_get_read (seen_in accepted) (length accepted) label (under old) (sym (length-map accepted under)) inside read)

  seen_set : slice_set (seen_in accepted) label (under old ++ seen_events more) ≡ seen_in (slice_set accepted label after)
  seen_set = (
      let appended : under old ++ seen_events more ≡ under after = sym (ap seen_events after_is ∙ map-append seen_event old.events.items more) in
      ap (λ (l : List Seen). slice_set (seen_in accepted) label l) appended ∙ sym (map-set under accepted label after))

  pub seen_more : seen_in (slice_set accepted label after) ≡ with_more (seen_in accepted) label (seen_events more)
  seen_more = (
      let there : under old ≡ group_at (seen_in accepted) label = sym (get_or_from_slice_get (seen_in accepted) label (under old) [] own_at) in
      sym seen_set ∙ ap (λ (l : List Seen). slice_set (seen_in accepted) label (l ++ seen_events more)) there)

-- ---- more events
module _ (r : RosterLists) (is : IsRoster r) (items : List SeenItem) (accepted : List Accepted) (are : AreAllAdded r items (seen_in accepted)) where
  abbrev stamp_by : ℕ → ℕ
  stamp_by v = (event_at r.came v).stamp

  pub labels_many : length accepted ≡ length r.declaration.labels
  labels_many =
      let long = ap length are.holds in
      let labels = is.labels in
      omega (arith, long, length-map r.under (map stamp_by), length-map (seen_in accepted) stamps_seen, length-map accepted (λ (a : Accepted). seen_events a.events.items), labels)

  pub items_few : length items ≤ length r.came
  items_few =
      let few = ends_few (seen_in accepted) (map id_of r.came) items are.ends in
      let all = all_long stamp_by r.under (seen_in accepted) are.holds in
      let count = is.count in
      omega (arith, few, all, count)

  -- events that come, numbered behind those that came
  module _ (more : List Event) (n : ℕ) (found : List SeenItem) (behind : n ≡ length r.came) (found_is : found ≡ items_from n (seen_events more)) where
    abbrev names : List EventId
    names = map id_of r.came

    found_there : found ≡ items_from (length names) (seen_events more)
    found_there = (
        let same : n ≡ length names = omega (arith, behind, length-map r.came id_of) in
        found_is ∙ ap (λ (k : ℕ). items_from k (seen_events more)) same)

    pub own_numbers : HaveOwnNumbers (items ++ found)
    own_numbers = subst (λ (l : List SeenItem). HaveOwnNumbers (items ++ l)) (sym found_there) (own_more names items (seen_in accepted) (seen_events more) are.ends)

    pub added_more : (new : RosterLists) (label : ℕ) (old after : Accepted) → label < length accepted → old ≡ get_or accepted label old → IsGrown r new label (stamps_of more) → after.events.items ≡ old.events.items ++ more
        → AreAllAdded new (items ++ found) (seen_in (slice_set accepted label after))
    added_more new label old after inside old_is grown after_is =
        let seen = seen_in accepted in
        let own : List Seen = seen_events old.events.items in
        let at : slice_get seen label ≡ Some own = own_at accepted more label old after inside old_is after_is in
        let there : slice_set seen label (own ++ seen_events more) ≡ seen_in (slice_set accepted label after) = seen_set accepted more label old after inside old_is after_is in
        let long : length (group_at r.under label) ≡ length own = group_long stamp_by r.under seen label own are.holds at in
        let ids : names ++ ids_from label (length own + 1) (seen_events more) ≡ map id_of new.came =
        sym (ap (map id_of) grown.came ∙ map-append id_of r.came (came_from label (length (group_at r.under label) + 1) (stamps_of more))
        ∙ ap (λ (l : List EventId). names ++ l) (ids_came label (length (group_at r.under label) + 1) more)
        ∙ ap (λ (k : ℕ). names ++ ids_from label (k + 1) (seen_events more)) long) in
        let stamps : stamps_of more ≡ stamps_seen (seen_events more) = sym (map-map stamp_seen seen_event more) in
        let grown' : IsGrown r new label (stamps_seen (seen_events more)) = subst (λ (l : List ℕ). IsGrown r new label l) stamps grown in
        let ends : AreEndsBy (names ++ ids_from label (length own + 1) (seen_events more)) (items ++ items_from (length names) (seen_events more)) (slice_set seen label (own ++ seen_events more)) =
        ends_more seen label own (seen_events more) names items at are.ends in
        record {
          holds = subst (λ (l : List (List Seen)). HoldsEvents new l) there (holds_more r new label seen own (seen_events more) is grown' are.holds at);
          ends = subst (λ (l : List (List Seen)). AreEndsBy (map id_of new.came) (items ++ found) l) there
              (subst (λ (l : List EventId). AreEndsBy l (items ++ found) (slice_set seen label (own ++ seen_events more))) ids
              (subst (λ (l : List SeenItem). AreEndsBy (names ++ ids_from label (length own + 1) (seen_events more)) (items ++ l) (slice_set seen label (own ++ seen_events more))) (sym found_there) ends));
        }
