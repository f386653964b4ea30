-- The tables with one event more, and with one less.
use Rattle.std.proofs.Common.{◌≡◌, ℕ, ◌<◌, ◌≤◌, ◌+◌, ◌-◌, List, [], ◌∷◌, ◌++◌, length, map, set, get_or, slice_get, Bool, true, false, ◌==◌, cond, Some, inl, inr, refl, sym, ap, ◌∙◌, subst, arith}
use Rattle.std.specs.Prelude.{All}
use Rattle.std.specs.List.{list_any}
use Rattle.std.proofs.lemmas.Bool.{cases_Bool, eqb-true, eq-eqb, false≢true, or_parts, cases_eq}
use Rattle.std.proofs.lemmas.List.{get_or_append_left, get_or_at, get_or-map, get_or-set_same, length-map, length_push, map_push, set-get_or, set-set, take_at}
use Rattle.std.proofs.lemmas.List.Elements.{All-cons, All-head, All-nil, All-pop, All-push, All-tail, All-weaker}
use Rattle.std.proofs.lemmas.Option.{get_or_from_slice_get}
use Rattle.problem_model.specs.Limits.{most_items}
use Rattle.traces.specs.declared.event.Side.{Side}
use Rattle.traces.specs.declared.event.Side.TheVariants.{Send, Receive}
use Rattle.traces.specs.Seen.{EventKey, is_same_key}
use Rattle.msg_match.specs.declared.entry.Entry.{Entry}
use Rattle.msg_match.specs.Groups.{SeenItem, SeenGroup, each_once, events_with, group_of, keys_of, group_size}
use Rattle.msg_match.specs.Parts.{empty_group, entry_with_key, group_at_place, group_before, groups_before, keys_before, keys_in, no_key, shorter, with_entry, without_last}
use Rattle.msg_match.specs.Inside.{AreGrouped, item_by, items_by}
use Rattle.msg_match.proofs.Distinct.{AreApart, any_once, known_at, once_apart, once_known, once_new}
use Rattle.msg_match.proofs.Grouping.{exact_keys, group_own, made, map_at, map_others, none_with, some_with}

-- ---- keys
abbrev pub key_in : SeenItem → EventKey
key_in x = x.key

-- the keys of events are those that some event has
pub any_of : (items : List SeenItem) (key : EventKey) → list_any (is_same_key key) (keys_of items) ≡ list_any (is_same_key key) (map key_in items)
any_of items key = any_once is_same_key exact_keys key (map key_in items)

pub keys_apart : (items : List SeenItem) → AreApart is_same_key (keys_of items)
keys_apart items = once_apart is_same_key exact_keys (map key_in items)

-- each event's key is among them
pub key_known : (items : List SeenItem) (k : ℕ) (d : SeenItem) → k < length items → list_any (is_same_key (get_or items k d).key) (map key_in items) ≡ true
key_known items k d inside =
    known_at is_same_key exact_keys (map key_in items) k d.key (get_or items k d).key (subst (λ (n : ℕ). k < n) (sym (length-map items key_in)) inside) (get_or-map key_in items k d d.key inside)

keys_known : (items : List SeenItem) (y : SeenItem) → list_any (is_same_key y.key) (map key_in items) ≡ true → keys_of (items ++ y ∷ []) ≡ keys_of items
keys_known items y known = ap (each_once is_same_key) (map_push key_in items y) ∙ once_known is_same_key exact_keys (map key_in items) y.key known

keys_new : (items : List SeenItem) (y : SeenItem) → list_any (is_same_key y.key) (map key_in items) ≡ false → keys_of (items ++ y ∷ []) ≡ keys_of items ++ y.key ∷ []
keys_new items y new = ap (each_once is_same_key) (map_push key_in items y) ∙ once_new is_same_key exact_keys (map key_in items) y.key new

-- ---- events by their keys
abbrev with_key : Entry → EventKey → SeenItem
with_key e key = record { event = e.event; side = e.side; key = key }

-- a key more changes no event before
items_front : (ks : List EventKey) (k : EventKey) (log : List Entry) → All (λ (e : Entry). e.place < length ks) log → items_by (ks ++ k ∷ []) log ≡ items_by ks log
items_front ks k [] within = refl
items_front ks k (e ∷ log) within =
    let P : Entry → Type 0 = λ e'. e'.place < length ks in
    let at : get_or (ks ++ k ∷ []) e.place no_key ≡ get_or ks e.place no_key = get_or_append_left ks (k ∷ []) no_key e.place (All-head P e log within) in
    ap (λ (key : EventKey). with_key e key ∷ items_by (ks ++ k ∷ []) log) at ∙ ap (λ (l : List SeenItem). item_by ks e ∷ l) (items_front ks k log (All-tail P e log within))

-- where no event has the last key, all have places before it
places_front : (ks : List EventKey) (k : EventKey) (log : List Entry) → All (λ (e : Entry). e.place < length (ks ++ k ∷ [])) log → list_any (is_same_key k) (map key_in (items_by (ks ++ k ∷ []) log)) ≡ false → All (λ (e : Entry). e.place < length ks) log
places_front ks k [] within none = All-nil (λ (e : Entry). e.place < length ks)
places_front ks k (e ∷ log) within none =
    let P : Entry → Type 0 = λ e'. e'.place < length (ks ++ k ∷ []) in
    let key = get_or (ks ++ k ∷ []) e.place no_key in
    let both = or_parts (is_same_key k key) (list_any (is_same_key k) (map key_in (items_by (ks ++ k ∷ []) log))) none in
    let inside : e.place < length (ks ++ k ∷ []) = All-head P e log within in
    let before : e.place < length ks = elim (cases_eq e.place (length ks)) [
      | inl last ↦ (let is : key ≡ k = get_or_at ks k [] no_key e.place (sym last) in absurd (false≢true (sym both.0 ∙ subst (λ (j : EventKey). is_same_key k j ≡ true) (sym is) (exact_keys.own k))))
      | inr other ↦ omega (arith, inside, length_push ks k)
    ] in
    All-cons (λ (e' : Entry). e'.place < length ks) e log before (places_front ks k log (All-tail P e log within) both.1)

one_more : (n m top : ℕ) → m ≡ n + 1 → n < top → m ≤ top
one_more n m top is below = omega (arith, is, below)

one_less : (n m top : ℕ) → m ≡ n + 1 → m ≤ top → n ≤ top
one_less n m top is below = omega (arith, is, below)

abbrev first_group : SeenGroup
first_group = empty_group no_key

pub kept_as : (keys keys' : List EventKey) (log log' : List Entry) (groups groups' : List SeenGroup) → keys' ≡ keys → log' ≡ log → groups' ≡ groups → AreGrouped keys log groups → AreGrouped keys' log' groups'
kept_as keys keys' log log' groups groups' same_keys same_log same_groups kept =
    subst (λ (ks : List EventKey). AreGrouped ks log' groups') (sym same_keys) (subst (λ (l : List Entry). AreGrouped keys l groups') (sym same_log) (subst (λ (gs : List SeenGroup). AreGrouped keys log gs) (sym same_groups) kept))

-- ---- one event more
pub items_at : (keys : List EventKey) (log : List Entry) (place event : ℕ) (side : Side) (key : EventKey) → slice_get keys place ≡ Some key
    → items_by keys (log ++ entry_with_key event side place ∷ []) ≡ items_by keys log ++ (record { event = event; side = side; key = key }) ∷ []
items_at keys log place event side key at =
    map_push (item_by keys) log (entry_with_key event side place) ∙ ap (λ (k : EventKey). items_by keys log ++ with_key (entry_with_key event side place) k ∷ []) (get_or_from_slice_get keys place key no_key at)

-- an event of a key that is there
pub kept_at : (keys : List EventKey) (log : List Entry) (groups : List SeenGroup) (e : Entry) → AreGrouped keys log groups → e.place < length keys → length log < most_items
    → AreGrouped keys (log ++ e ∷ []) (set groups e.place (with_entry (group_at_place groups e.place) e.side e.event))
kept_at keys log groups e kept inside room =
    let items = items_by keys log in
    let y = item_by keys e in
    let joined : items_by keys (log ++ e ∷ []) ≡ items ++ y ∷ [] = map_push (item_by keys) log e in
    let apart : AreApart is_same_key keys = subst (AreApart is_same_key) (sym kept.ordered) (keys_apart items) in
    let there : list_any (is_same_key y.key) (map key_in items) ≡ true =
    sym (any_of items y.key) ∙ subst (λ (ks : List EventKey). list_any (is_same_key y.key) ks ≡ true) kept.ordered (known_at is_same_key exact_keys keys e.place no_key y.key inside refl) in record {
      few = one_more (length log) (length (log ++ e ∷ [])) (most_items) (length_push log e) room;
      within = All-push (λ (e' : Entry). e'.place < length keys) log e kept.within inside;
      ordered = kept.ordered ∙ sym (keys_known items y there) ∙ ap keys_of (sym joined);
      grouped = ap (λ (gs : List SeenGroup). set gs e.place (with_entry (get_or gs e.place first_group) e.side e.event)) kept.grouped
          ∙ map_at items y keys e.place no_key first_group apart inside refl
          ∙ ap (λ (is : List SeenItem). map (group_of is) keys) (sym joined);
    }

pub same_length : (keys : List EventKey) (log : List Entry) (groups : List SeenGroup) → AreGrouped keys log groups → length groups ≡ length keys
same_length keys log groups kept = ap length kept.grouped ∙ length-map keys (group_of (items_by keys log))

own_keys : (items : List SeenItem) (keys : List EventKey) → keys_in (map (group_of items) keys) ≡ keys
own_keys items [] = refl
own_keys items (k ∷ ks) = ap (λ (l : List EventKey). k ∷ l) (own_keys items ks)

-- the keys are those of the groups
pub keys_kept : (keys : List EventKey) (log : List Entry) (groups : List SeenGroup) → AreGrouped keys log groups → keys_in groups ≡ keys
keys_kept keys log groups kept = ap keys_in kept.grouped ∙ own_keys (items_by keys log) keys

-- the first event of a key
pub items_first : (keys : List EventKey) (log : List Entry) (groups : List SeenGroup) (key : EventKey) (event : ℕ) (side : Side) → AreGrouped keys log groups
    → items_by (keys ++ key ∷ []) (log ++ entry_with_key event side (length groups) ∷ []) ≡ items_by keys log ++ (record { event = event; side = side; key = key }) ∷ []
items_first keys log groups key event side kept =
    let e = entry_with_key event side (length groups) in
    let keys' = keys ++ key ∷ [] in
    let last : get_or keys' (length groups) no_key ≡ key = get_or_at keys key [] no_key (length groups) (sym (same_length keys log groups kept)) in
    map_push (item_by keys') log e ∙ ap (λ (l : List SeenItem). l ++ item_by keys' e ∷ []) (items_front keys key log kept.within) ∙ ap (λ (k : EventKey). items_by keys log ++ with_key e k ∷ []) last

pub kept_first : (keys : List EventKey) (log : List Entry) (groups : List SeenGroup) (key : EventKey) (event : ℕ) (side : Side) → AreGrouped keys log groups → list_any (is_same_key key) keys ≡ false → length log < most_items
    → AreGrouped (keys ++ key ∷ []) (log ++ entry_with_key event side (length groups) ∷ []) (groups ++ with_entry (empty_group key) side event ∷ [])
kept_first keys log groups key event side kept absent room =
    let e = entry_with_key event side (length groups) in
    let keys' = keys ++ key ∷ [] in
    let items = items_by keys log in
    let y : SeenItem = record { event = event; side = side; key = key } in
    let w = with_entry (empty_group key) side event in
    let many = same_length keys log groups kept in
    let longer = length_push keys key in
    let joined : items_by keys' (log ++ e ∷ []) ≡ items ++ y ∷ [] = items_first keys log groups key event side kept in
    let new : list_any (is_same_key key) (map key_in items) ≡ false = sym (any_of items key) ∙ subst (λ (ks : List EventKey). list_any (is_same_key key) ks ≡ false) kept.ordered absent in
    let nothing : group_of items key ≡ empty_group key =
    ap (λ (l : List ℕ). made key l (events_with items key Receive)) (none_with items key Send new) ∙ ap (λ (l : List ℕ). made key [] l) (none_with items key Receive new) in
    let own : group_of (items ++ y ∷ []) key ≡ w = group_own items y ∙ ap (λ (g : SeenGroup). with_entry g side event) nothing in record {
      few = one_more (length log) (length (log ++ e ∷ [])) (most_items) (length_push log e) room;
      within = All-push (λ (e' : Entry). e'.place < length keys') log e (All-weaker (λ (e' : Entry). e'.place < length keys) (λ (e' : Entry). e'.place < length keys') (λ e' before. omega (arith, before, longer)) log kept.within) (omega (arith, many, longer));
      ordered = ap (λ (ks : List EventKey). ks ++ key ∷ []) kept.ordered ∙ sym (keys_new items y new) ∙ ap keys_of (sym joined);
      grouped = ap (λ (gs : List SeenGroup). gs ++ w ∷ []) (kept.grouped ∙ sym (map_others items y keys absent))
          ∙ ap (λ (g : SeenGroup). map (group_of (items ++ y ∷ [])) keys ++ g ∷ []) (sym own)
          ∙ sym (map_push (group_of (items ++ y ∷ [])) keys key)
          ∙ ap (λ (is : List SeenItem). map (group_of is) keys') (sym joined);
    }

-- ---- one event less
pub short_push : {X : Type 0} (xs : List X) (x : X) → shorter (xs ++ x ∷ []) ≡ xs
short_push xs x = take_at xs (x ∷ []) (length (xs ++ x ∷ []) - 1) (omega (arith, length_push xs x))

-- the last event of a side is the one that came last
undone : (g : SeenGroup) (side : Side) (event : ℕ) → without_last (with_entry g side event) side ≡ g
undone g Send event = ap (λ (l : List ℕ). made g.key l g.receives) (short_push g.sends event)
undone g Receive event = ap (λ (l : List ℕ). made g.key g.sends l) (short_push g.receives event)

choose : {A B : Type 0} (T : A → B → Type 0) (b : Bool) (a a' : A) (x x' : B) → (b ≡ true → T a x) → (b ≡ false → T a' x') → T (cond b a a') (cond b x x')
choose T true a a' x x' yes' no' = yes' refl
choose T false a a' x x' yes' no' = no' refl

module _ (keys : List EventKey) (log : List Entry) (groups : List SeenGroup) (e : Entry) (kept : AreGrouped keys (log ++ e ∷ []) groups) where
  abbrev held : List SeenItem
  held = items_by keys log

  abbrev last_item : SeenItem
  last_item = item_by keys e

  joined : items_by keys (log ++ e ∷ []) ≡ held ++ last_item ∷ []
  joined = map_push (item_by keys) log e

  before : All (λ (e' : Entry). e'.place < length keys) log × (e.place < length keys)
  before = All-pop (λ (e' : Entry). e'.place < length keys) (log ++ e ∷ []) log (Some e) refl kept.within

  apart : AreApart is_same_key keys
  apart = subst (AreApart is_same_key) (sym kept.ordered) (keys_apart (items_by keys (log ++ e ∷ [])))

  abbrev whole : List SeenGroup
  whole = map (group_of held) keys

  abbrev filled : SeenGroup
  filled = with_entry (get_or whole e.place first_group) e.side e.event

  groups_are : set whole e.place filled ≡ groups
  groups_are = map_at held last_item keys e.place no_key first_group apart before.1 refl ∙ ap (λ (is : List SeenItem). map (group_of is) keys) (sym joined) ∙ sym kept.grouped

  inside : e.place < length whole
  inside = subst (λ (n : ℕ). e.place < n) (sym (length-map keys (group_of held))) before.1

  -- the event's group without it is that of the events before
  group_is : group_before groups e ≡ get_or whole e.place first_group
  group_is =
      ap (λ (gs : List SeenGroup). without_last (get_or gs e.place first_group) e.side) (sym groups_are)
      ∙ ap (λ (g : SeenGroup). without_last g e.side) (get_or-set_same whole e.place filled first_group inside)
      ∙ undone (get_or whole e.place first_group) e.side e.event

  less_is : set groups e.place (group_before groups e) ≡ whole
  less_is =
      ap (λ (g : SeenGroup). set groups e.place g) group_is
      ∙ ap (λ (gs : List SeenGroup). set gs e.place (get_or whole e.place first_group)) (sym groups_are)
      ∙ set-set whole e.place filled (get_or whole e.place first_group)
      ∙ set-get_or whole e.place first_group

  size_is : group_size (group_before groups e) ≡ group_size (group_of held last_item.key)
  size_is = ap group_size (group_is ∙ get_or-map (group_of held) keys e.place no_key first_group before.1)

  few' : length log ≤ most_items
  few' = one_less (length log) (length (log ++ e ∷ [])) (most_items) (length_push log e) kept.few

  abbrev IsLess : List EventKey → List SeenGroup → Type 0
  IsLess ks gs = AreGrouped ks log gs × (items_by ks log ≡ held)

  -- another event has the key
  with_more : list_any (is_same_key last_item.key) (map key_in held) ≡ true → IsLess keys (set groups e.place (group_before groups e))
  with_more known = (
    record {
      few = few';
      within = before.0;
      ordered = kept.ordered ∙ ap keys_of joined ∙ keys_known held last_item known;
      grouped = less_is;
    },
    refl,
  )

  -- none has
  without : list_any (is_same_key last_item.key) (map key_in held) ≡ false → IsLess (shorter keys) (shorter (set groups e.place (group_before groups e)))
  without new =
      let front = keys_of held in
      let split : keys ≡ front ++ last_item.key ∷ [] = kept.ordered ∙ ap keys_of joined ∙ keys_new held last_item new in
      let within = subst (λ (ks : List EventKey). All (λ (e' : Entry). e'.place < length ks) log) split before.0 in
      let none = subst (λ (ks : List EventKey). list_any (is_same_key last_item.key) (map key_in (items_by ks log)) ≡ false) split new in
      let places : All (λ (e' : Entry). e'.place < length front) log = places_front front last_item.key log within none in
      let same : items_by front log ≡ held = sym (items_front front last_item.key log places) ∙ ap (λ (ks : List EventKey). items_by ks log) (sym split) in
      let keys_are : shorter keys ≡ front = ap (λ (ks : List EventKey). shorter ks) split ∙ short_push front last_item.key in
      let groups_short : shorter (set groups e.place (group_before groups e)) ≡ map (group_of held) front =
      ap (λ (gs : List SeenGroup). shorter gs) (less_is ∙ ap (map (group_of held)) split ∙ map_push (group_of held) front last_item.key) ∙ short_push (map (group_of held) front) (group_of held last_item.key) in
      let there : IsLess front (map (group_of held) front) = (
        record {
          few = few';
          within = places;
          ordered = ap keys_of (sym same);
          grouped = ap (λ (is : List SeenItem). map (group_of is) front) (sym same);
        },
        same,
      ) in
      subst (λ (ks : List EventKey). IsLess ks (shorter (set groups e.place (group_before groups e)))) (sym keys_are) (subst (λ (gs : List SeenGroup). IsLess front gs) (sym groups_short) there)

  empty_is_new : group_size (group_before groups e) ≡ 0 → list_any (is_same_key last_item.key) (map key_in held) ≡ false
  empty_is_new empty = elim (cases_Bool (list_any (is_same_key last_item.key) (map key_in held))) [
    | inl known ↦ (let some = some_with held last_item.key known in absurd (omega (arith, some, size_is, empty)))
    | inr new ↦ new
  ]

  other_is_known : (group_size (group_before groups e) ≡ 0 → ⊥) → list_any (is_same_key last_item.key) (map key_in held) ≡ true
  other_is_known other = elim (cases_Bool (list_any (is_same_key last_item.key) (map key_in held))) [
    | inl known ↦ known
    | inr new ↦ absurd (other (size_is ∙ omega (arith, ap length (none_with held last_item.key Send new), ap length (none_with held last_item.key Receive new))))
  ]

  -- what is kept once the last event is taken away, and the events before are as they were
  pub kept_less : IsLess (keys_before groups e keys) (groups_before groups e)
  kept_less =
      choose IsLess (group_size (group_before groups e) == 0) (shorter keys) keys (shorter (set groups e.place (group_before groups e))) (set groups e.place (group_before groups e))
      (λ empty. without (empty_is_new (eqb-true (group_size (group_before groups e)) 0 empty)))
      (λ other. with_more (other_is_known (λ is. false≢true (sym other ∙ eq-eqb (group_size (group_before groups e)) 0 is))))

-- ---- the group of a key
pub group_found : (keys : List EventKey) (log : List Entry) (groups : List SeenGroup) (place : ℕ) (key : EventKey) (g : SeenGroup) → AreGrouped keys log groups → place < length keys → slice_get keys place ≡ Some key
    → get_or groups place g ≡ group_of (items_by keys log) key
group_found keys log groups place key g kept inside at =
    ap (λ (gs : List SeenGroup). get_or gs place g) kept.grouped
    ∙ get_or-map (group_of (items_by keys log)) keys place key g inside
    ∙ ap (group_of (items_by keys log)) (get_or_from_slice_get keys place key key at)

pub group_missing : (keys : List EventKey) (log : List Entry) (groups : List SeenGroup) (key : EventKey) → AreGrouped keys log groups → list_any (is_same_key key) keys ≡ false
    → events_with (items_by keys log) key Send ≡ []
group_missing keys log groups key kept absent =
    none_with (items_by keys log) key Send (sym (any_of (items_by keys log) key) ∙ subst (λ (ks : List EventKey). list_any (is_same_key key) ks ≡ false) kept.ordered absent)
