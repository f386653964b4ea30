-- Events by their groups: the order of the events does not matter, and where there is no window nothing changes.
use Rattle.std.proofs.Common.{◌≡◌, ◌≢◌, ◌<◌, ◌==◌, ℕ, List, [], ◌∷◌, ◌++◌, length, map, Bool, true, cond, Option, Some, None, inl, inr, refl, sym, ap, ◌∙◌, subst}
use Rattle.std.specs.Prelude.{ℤ, All, AllPairs, Contains, option_map}
use Rattle.std.specs.List.Sorted.{IsPermutation}
use Rattle.std.proofs.lemmas.Bool.{and_from, and_parts, cases_Bool, eq-eqb, eqb-true}
use Rattle.std.proofs.lemmas.List.Elements.{All-head, All-map, All-tail}
use Rattle.std.proofs.lemmas.List.Sorted.{Contains-permutation, IsPermutation-map, IsPermutation-sym}
use Rattle.traces.specs.Beginnings.{beginning}
use Rattle.traces.specs.Seen.{Seen, EventKey, MessageKey, SeenMark, Keyed, Unkeyed, SeenMoment, is_same_message}
use Rattle.traces.specs.Traces.{Placed, events_of}
use Rattle.traces.specs.Windows.{by_group, group_key, group_mark, group_moment, grouped, is_alike, key_in, keys_among, time_in, time_with, times_of}
use Rattle.traces.proofs.Beginnings.{beginning_is, has_beginning, moved_beginning}
use Rattle.traces.proofs.Keys.{messages_tell}
use Rattle.traces.proofs.Members.{given_by, giver, head_or_tail, here, none_in, there}
use Rattle.traces.specs.declared.event_id.EventId.{EventId}
use Rattle.msg_match.specs.Groups.{SeenItem}
use Rattle.msg_match.specs.Changes.{HaveOwnNumbers}
use Rattle.msg_match.specs.Windowed.{group_item, grouped_items, item_keys}
use Rattle.msg_match.specs.Inside.{IsUntimed}
use Rattle.msg_match.specs.Ends.{AreEndsBy, End, end_at, end_by_mark, ends_among, name_as_came}
use Rattle.msg_match.proofs.Lists.{in_map}
use Rattle.msg_match.proofs.Names.{keys_by}
use Rattle.msg_match.proofs.Rising.{pairs_map}

-- ---- keys
abbrev pub made_key : MessageKey → Option SeenMoment → EventKey
made_key message moment = record { message = message; moment = moment }

-- a key is like itself, whatever the times
own_alike : (message : MessageKey) (m : SeenMoment) → is_alike (made_key message (Some m)) (made_key message (Some m)) ≡ true
own_alike message m = and_from (is_same_message message message) (m.window == m.window) ((messages_tell message message).1 refl) (eq-eqb m.window m.window refl)

-- its time is among those of the keys like it
pub own_time : (keys : List EventKey) (message : MessageKey) (m : SeenMoment) → Contains keys (made_key message (Some m)) → Contains (times_of keys (made_key message (Some m))) m.time
own_time keys message m among =
    let key = made_key message (Some m) in
    given_by (time_with key) keys key m.time among (rw (own_alike message m) (here m.time []))

-- a key that has a time among those of the keys like this one is this key at that time
alike_at : (ma mb : MessageKey) (o : Option SeenMoment) (m : SeenMoment) (t : ℤ) → is_alike (made_key ma (Some m)) (made_key mb o) ≡ true → Contains (time_in (made_key mb o)) t → made_key mb o ≡ made_key ma (Some (record { time = t; window = m.window }))
alike_at ma mb None m t alike among = absurd (none_in t among)
alike_at ma mb (Some n) m t alike among =
    let both = and_parts (is_same_message ma mb) (m.window == n.window) alike in
    let message : ma ≡ mb = (messages_tell ma mb).0 both.0 in
    let window : m.window ≡ n.window = eqb-true m.window n.window both.1 in
    let time : n.time ≡ t = elim (head_or_tail n.time t [] among) [ inl is ↦ is | inr more ↦ absurd (none_in t more) ] in
    ap (λ (k : MessageKey). made_key k (Some n)) (sym message)
    ∙ ap (λ (u : ℤ). made_key ma (Some (record { time = u; window = n.window }))) time
    ∙ ap (λ (w : ℕ). made_key ma (Some (record { time = t; window = w }))) (sym window)

pub alike_key : (message : MessageKey) (m : SeenMoment) (k : EventKey) (t : ℤ) → Contains (time_with (made_key message (Some m)) k) t → k ≡ made_key message (Some (record { time = t; window = m.window }))
alike_key message m k t held = elim (cases_Bool (is_alike (made_key message (Some m)) k)) [
  | inl alike ↦ alike_at message k.message k.moment m t alike (subst (λ (b : Bool). Contains (cond b (time_in k) []) t) alike held)
  | inr other ↦ absurd (none_in t (subst (λ (b : Bool). Contains (cond b (time_in k) []) t) other held))
]

pub times_moved : (ks js : List EventKey) → ((k : EventKey) → Contains ks k → Contains js k) → (key : EventKey) (t : ℤ) → Contains (times_of ks key) t → Contains (times_of js key) t
times_moved ks js to key t held = let (k, among, gives) = giver (time_with key) ks t held in given_by (time_with key) js k t (to k among) gives

-- which group a key is of goes by the keys alone, in whatever order they stand
moved_at : (ks js : List EventKey) → ((k : EventKey) → Contains ks k → Contains js k) → ((k : EventKey) → Contains js k → Contains ks k) → (message : MessageKey) (moment : Option SeenMoment) → Contains ks (made_key message moment)
    → group_key ks (made_key message moment) ≡ group_key js (made_key message moment)
moved_at ks js to from message None among = refl
moved_at ks js to from message (Some m) among =
    let key = made_key message (Some m) in
    let is = has_beginning m.window (times_of ks key) m.time (own_time ks message m among) in
    let same : beginning m.window (times_of js key) m.time ≡ beginning m.window (times_of ks key) m.time =
    beginning_is m.window (times_of js key) m.time (beginning m.window (times_of ks key) m.time)
    (moved_beginning m.window (Contains (times_of ks key)) (Contains (times_of js key)) (times_moved ks js to key) (times_moved js ks from key) m.time (beginning m.window (times_of ks key) m.time) is) in
    ap (λ (t : ℤ). made_key message (Some (record { time = t; window = m.window }))) (sym same)

pub key_moved : (ks js : List EventKey) → ((k : EventKey) → Contains ks k → Contains js k) → ((k : EventKey) → Contains js k → Contains ks k) → (key : EventKey) → Contains ks key → group_key ks key ≡ group_key js key
key_moved ks js to from key among = moved_at ks js to from key.message key.moment among

-- ---- events without a time
abbrev made_item : SeenItem → Option SeenMoment → SeenItem
made_item x moment = record { event = x.event; side = x.side; key = made_key x.key.message moment }

untimed_item : (keys : List EventKey) (x : SeenItem) → IsUntimed x → group_item keys x ≡ x
untimed_item keys x none = ap (λ (o : Option SeenMoment). made_item x (option_map (group_moment (times_of keys x.key)) o)) none ∙ ap (λ (o : Option SeenMoment). made_item x o) (sym none)

untimed_among : (keys : List EventKey) (items : List SeenItem) → All IsUntimed items → map (group_item keys) items ≡ items
untimed_among keys [] none = refl
untimed_among keys (x ∷ items) none =
    ap (λ (y : SeenItem). y ∷ map (group_item keys) items) (untimed_item keys x (All-head IsUntimed x items none))
    ∙ ap (λ (l : List SeenItem). x ∷ l) (untimed_among keys items (All-tail IsUntimed x items none))

-- all events of a key are one group where none has a time
pub untimed_grouped : (items : List SeenItem) → All IsUntimed items → grouped_items items ≡ items
untimed_grouped items none = untimed_among (item_keys items) items none

-- ---- numbers
-- they are the same
pub grouped_own : (items : List SeenItem) → HaveOwnNumbers items → HaveOwnNumbers (grouped_items items)
grouped_own items own = pairs_map (group_item (item_keys items)) (λ (a b : SeenItem). a.event ≢ b.event) items own

pub grouped_within : (ids : List EventId) (items : List SeenItem) → All (λ (x : SeenItem). x.event < length ids) items → All (λ (x : SeenItem). x.event < length ids) (grouped_items items)
grouped_within ids items within = All-map (λ (x : SeenItem). x.event < length ids) (group_item (item_keys items)) items within

-- ---- ends
-- an end with the key of its group
abbrev group_end : List EventKey → End → End
group_end keys e = record { id = e.id; key = group_key keys e.key; side = e.side }

one_end : (keys : List EventKey) (id : EventId) (mark : SeenMark) (us vs : List End) → us ≡ map (group_end keys) vs → end_by_mark id (group_mark keys mark) ++ us ≡ map (group_end keys) (end_by_mark id mark ++ vs)
one_end keys id (Unkeyed reason) us vs is = is
one_end keys id (Keyed key side) us vs is = ap (λ (l : List End). group_end keys (record { id = id; key = key; side = side }) ∷ l) is

ends_by : (keys : List EventKey) (events : List Placed) → ends_among (map (by_group keys) events) ≡ map (group_end keys) (ends_among events)
ends_by keys [] = refl
ends_by keys (e ∷ events) = one_end keys e.id e.seen.mark (ends_among (map (by_group keys) events)) (ends_among events) (ends_by keys events)

one_key : (id : EventId) (mark : SeenMark) (ks : List EventKey) (vs : List End) → ks ≡ map (λ (e : End). e.key) vs → key_in mark ++ ks ≡ map (λ (e : End). e.key) (end_by_mark id mark ++ vs)
one_key id (Unkeyed reason) ks vs is = is
one_key id (Keyed key side) ks vs is = ap (λ (l : List EventKey). key ∷ l) is

keys_are : (events : List Placed) → keys_among events ≡ map (λ (e : End). e.key) (ends_among events)
keys_are [] = refl
keys_are (e ∷ events) = one_key e.id e.seen.mark (keys_among events) (ends_among events) (keys_are events)

items_by : (ids : List EventId) (keys : List EventKey) (items : List SeenItem) → map (end_at ids) (map (group_item keys) items) ≡ map (group_end keys) (map (end_at ids) items)
items_by ids keys [] = refl
items_by ids keys (x ∷ items) = ap (λ (l : List End). end_at ids (group_item keys x) ∷ l) (items_by ids keys items)

same_map : {X Y : Type 0} (f g : X → Y) (xs : List X) → ((x : X) → Contains xs x → f x ≡ g x) → map f xs ≡ map g xs
same_map f g [] same = refl
same_map {X} {Y} f g (x ∷ xs) same = ap (λ (y : Y). y ∷ map f xs) (same x (here x xs)) ∙ ap (λ (l : List Y). g x ∷ l) (same_map f g xs (λ y held. same y (there x y xs held)))

module _ (events : List Placed) (ids : List EventId) (items : List SeenItem) (moved : IsPermutation (ends_among events) (map (end_at ids) items)) where
  -- the keys of the events are those of the items
  keys_moved : IsPermutation (keys_among events) (item_keys items)
  keys_moved =
      subst (λ (ks : List EventKey). IsPermutation ks (item_keys items)) (sym (keys_are events))
      (subst (λ (js : List EventKey). IsPermutation (map (λ (e : End). e.key) (ends_among events)) js) (keys_by (name_as_came ids) items)
      (IsPermutation-map (λ (e : End). e.key) (ends_among events) (map (end_at ids) items) moved))

  same_end : (e : End) → Contains (item_keys items) e.key → group_end (keys_among events) e ≡ group_end (item_keys items) e
  same_end e held =
      let ks = keys_among events in
      let js = item_keys items in
      ap (λ (k : EventKey). made e.id k e) (key_moved ks js (λ k in'. Contains-permutation ks js k keys_moved in') (λ k in'. Contains-permutation js ks k (IsPermutation-sym ks js keys_moved) in') e.key (Contains-permutation js ks e.key (IsPermutation-sym ks js keys_moved) held))
    where
      made : EventId → EventKey → End → End
      made id key e = record { id = id; key = key; side = e.side }

  key_held : (e : End) → Contains (map (end_at ids) items) e → Contains (item_keys items) e.key
  key_held e held = subst (λ (js : List EventKey). Contains js e.key) (keys_by (name_as_came ids) items) (in_map (λ (o : End). o.key) (map (end_at ids) items) e held)

  -- the ends of events by their groups are those of the items by theirs
  pub ends_regrouped : IsPermutation (ends_among (grouped events)) (map (end_at ids) (grouped_items items))
  ends_regrouped =
      let ks = keys_among events in
      let js = item_keys items in
      let ends = map (end_at ids) items in
      subst (λ (l : List End). IsPermutation l (map (end_at ids) (grouped_items items))) (sym (ends_by ks events))
      (subst (λ (l : List End). IsPermutation (map (group_end ks) (ends_among events)) l) (same_map (group_end ks) (group_end js) ends (λ e held. same_end e (key_held e held)) ∙ sym (items_by ids js items))
      (IsPermutation-map (group_end ks) (ends_among events) ends moved))

-- the same of all labels
pub ends_grouped : (ids : List EventId) (items : List SeenItem) (seen : List (List Seen)) → AreEndsBy ids items seen → IsPermutation (ends_among (grouped (events_of seen))) (map (end_at ids) (grouped_items items))
ends_grouped ids items seen are = ends_regrouped (events_of seen) ids items are.ends
