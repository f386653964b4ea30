-- The ambiguous keys of ends, gathered in any order and sorted.
use Rattle.std.proofs.Common.{◌<◌, ◌+◌, ◌||◌, take, get_or, ◌≡◌, ◌≢◌, ℕ, List, [], ◌∷◌, ◌++◌, length, map, Bool, cond, ◌&&◌, nat_lt, true, false, refl, sym, ap, ◌∙◌, subst, arith}
use Rattle.std.specs.Prelude.{All, AllPairs, filter}
use Rattle.std.specs.List.Sorted.{IsPermutation}
use Rattle.std.proofs.lemmas.Bool.{and_parts}
use Rattle.std.proofs.lemmas.List.{append-nil, get_or-map, length-map, map-append, map_more, map_push}
use Rattle.std.proofs.lemmas.List.Elements.{All-contains, All-filter, All-map, filter-append}
use Rattle.std.proofs.lemmas.List.Kept.{AllPairs-cons, AllPairs-filter}
use Rattle.std.proofs.lemmas.List.Sorted.{IsPermutation-map, IsPermutation-sym, length_permutation}
use Rattle.traces.specs.declared.event.Side.{Side}
use Rattle.traces.specs.declared.event.Side.TheVariants.{Send, Receive}
use Rattle.traces.specs.Seen.{EventKey, Seen, SeenMark, Keyed, Unkeyed}
use Rattle.msg_match.specs.Groups.{SeenGroup, SeenItem, are_ambiguous, events_with, group_of, groups_of, has_mark, is_ambiguous, keys_of}
use Rattle.msg_match.specs.declared.group.Group.{Group}
use Rattle.msg_match.specs.Held.{seen_group, seen_groups}
use Rattle.msg_match.specs.Parts.{keys_in}
use Rattle.traces.specs.declared.event_id.EventId.{EventId}
use Rattle.traces.specs.Traces.{Placed, events_of, is_same}
use Rattle.traces.specs.Windows.{grouped}
use Rattle.traces.specs.Pairs.{ComesBefore}
use Rattle.traces.proofs.Grouped.{grouped_rise}
use Rattle.traces.proofs.Ids.{ids_rise}
use Rattle.traces.proofs.Members.{first_of_pairs, giver, no_pairs, rest_of_pairs}
use Rattle.msg_match.specs.Ends.{End, end_at, end_by_mark, ends_among, name_as_came}
use Rattle.msg_match.specs.Ambiguous.{EndGroup, ambiguous_ends, ambiguous_keys, end_group, is_end, is_ambiguous_key, names_with}
use Rattle.msg_match.specs.EndsInside.{AreNamesInOrder, AreRising, HasEventsOf, IsWithin, earlier, first_with, led_group, led_groups}
use Rattle.msg_match.proofs.Lists.{alike_filter, alike_map, each_in}
use Rattle.msg_match.proofs.Names.{keys_by, names_by, own_end}
use Rattle.msg_match.proofs.Rising.{differ_still, pairs_map, pairs_unmap, same_elements}
use Rattle.msg_match.proofs.Sorting.{exact_ids, rising_differ}
use Rattle.msg_match.proofs.Firsts.{first_is, firsts_rise, keys_among, keys_moved}

-- ---- the ends of events rise
one_rises : (id : EventId) (mark : SeenMark) (ends : List End) → All (λ (b : End). ComesBefore id b.id) ends → AreRising ends → AreRising (end_by_mark id mark ++ ends)
one_rises id (Unkeyed reason) ends after rising = rising
one_rises id (Keyed key side) ends after rising = AllPairs-cons (λ (a b : End). ComesBefore a.id b.id) _ ends after rising

events_rise : (events : List Placed) → AllPairs (λ (a b : Placed). ComesBefore a.id b.id) events → AreRising (ends_among events)
events_rise [] rising = no_pairs (λ (a b : End). ComesBefore a.id b.id)
events_rise (e ∷ events) rising =
    let R : Placed → Placed → Type 0 = λ a b. ComesBefore a.id b.id in
    one_rises e.id e.seen.mark (ends_among events)
    (each_in (λ (b : End). ComesBefore e.id b.id) (ends_among events)
    (λ b held.
    let (o, among, gives) = giver (λ (z : Placed). end_by_mark z.id z.seen.mark) events b held in
    subst (ComesBefore e.id) (sym (own_end o.id o.seen.mark b gives)) (All-contains (R e) events o (first_of_pairs R e events rising) among)))
    (events_rise events (rest_of_pairs R e events rising))

pub ends_rise : (seen : List (List Seen)) → AreRising (ends_among (grouped (events_of seen)))
ends_rise seen = events_rise (grouped (events_of seen)) (grouped_rise (events_of seen) (ids_rise seen))

-- ---- the events of a key
pub names_rise : (ends : List End) (key : EventKey) (side : Side) → AreRising ends → AreNamesInOrder (names_with ends key side)
names_rise ends key side rising =
    let R : End → End → Type 0 = λ a b. ComesBefore a.id b.id in
    pairs_map (λ (e : End). e.id) ComesBefore (filter (is_end key side) ends) (AllPairs-filter R (is_end key side) ends rising)

-- ends in another order have the same events of each key
pub names_moved : (ends moved : List End) (key : EventKey) (side : Side) → AreRising ends → IsPermutation ends moved → IsPermutation (names_with ends key side) (names_with moved key side)
names_moved ends moved key side rising same =
    let id : End → EventId = λ e. e.id in
    let R : EventId → EventId → Type 0 = λ a b. a ≢ b in
    let S : End → End → Type 0 = λ a b. a.id ≢ b.id in
    let back : IsPermutation moved ends = IsPermutation-sym ends moved same in
    let differ : AllPairs R (map id moved) = differ_still is_same exact_ids (map id ends) (map id moved) (IsPermutation-map id ends moved same) (rising_differ (map id ends) (pairs_map id ComesBefore ends rising)) in
    let differ' : AllPairs R (names_with moved key side) = pairs_map id R (filter (is_end key side) moved) (AllPairs-filter S (is_end key side) moved (pairs_unmap id R moved differ)) in
    same_elements is_same exact_ids (names_with ends key side) (names_with moved key side) (rising_differ (names_with ends key side) (names_rise ends key side rising)) differ'
    (alike_map id (filter (is_end key side) ends) (filter (is_end key side) moved) (alike_filter (is_end key side) ends moved same)).1
    (alike_map id (filter (is_end key side) moved) (filter (is_end key side) ends) (alike_filter (is_end key side) moved ends back)).1

-- ---- groups by numbers
module _ (ids : List EventId) (items : List SeenItem) (ends : List End) (rising : AreRising ends) (same : IsPermutation ends (map (end_at ids) items)) where
  group_has : (key : EventKey) → HasEventsOf ids ends (group_of items key)
  group_has key = record {
    sends = subst (λ (l : List EventId). IsPermutation (names_with ends key Send) l) (names_by (name_as_came ids) items key Send) (names_moved ends (map (end_at ids) items) key Send rising same);
    receives = subst (λ (l : List EventId). IsPermutation (names_with ends key Receive) l) (names_by (name_as_came ids) items key Receive) (names_moved ends (map (end_at ids) items) key Receive rising same);
  }

  pub groups_have : All (HasEventsOf ids ends) (groups_of items)
  groups_have = All-map (HasEventsOf ids ends) (group_of items) (keys_of items) (λ k d inside. group_has _)

-- a group is ambiguous where its key is, among ends
pub ambiguous_is : (ids : List EventId) (ends : List End) (g : SeenGroup) → HasEventsOf ids ends g → is_ambiguous g ≡ is_ambiguous_key ends g.key
ambiguous_is ids ends g has =
    let sends : length g.sends ≡ length (names_with ends g.key Send) = sym (length-map g.sends (name_as_came ids)) ∙ length_permutation (names_with ends g.key Send) (map (name_as_came ids) g.sends) has.sends in
    let receives : length g.receives ≡ length (names_with ends g.key Receive) = sym (length-map g.receives (name_as_came ids)) ∙ length_permutation (names_with ends g.key Receive) (map (name_as_came ids) g.receives) has.receives in
    ap (λ (n : ℕ). are_ambiguous n (length g.receives)) sends ∙ ap (λ (n : ℕ). are_ambiguous (length (names_with ends g.key Send)) n) receives

-- ---- all ambiguous keys
pub group_keys : (items : List SeenItem) (keys : List EventKey) → map (λ (g : SeenGroup). g.key) (map (group_of items) keys) ≡ keys
group_keys items [] = refl
group_keys items (key ∷ keys) = ap (λ (l : List EventKey). key ∷ l) (group_keys items keys)

-- in the order of their first events
pub all_rise : (ends : List End) → AreRising ends → AllPairs (λ (a b : EventId × EndGroup). ComesBefore a.0 b.0) (map (led_group ends) (ambiguous_keys ends))
all_rise ends rising =
    pairs_map (led_group ends) (λ (a b : EventId × EndGroup). ComesBefore a.0 b.0) (ambiguous_keys ends)
    (AllPairs-filter (λ (j k : EventKey). ComesBefore (first_with ends j) (first_with ends k)) (is_ambiguous_key ends) (keys_among ends) (firsts_rise ends rising))

-- and in that of the groups
pub all_moved : (ids : List EventId) (items : List SeenItem) (ends : List End) → IsPermutation ends (map (end_at ids) items) → IsPermutation (map (led_group ends) (ambiguous_keys ends)) (led_groups ends (keys_of items))
all_moved ids items ends same =
    let keys : IsPermutation (map (λ (e : End). e.key) ends) (map (λ (x : SeenItem). x.key) items) =
    subst (λ (l : List EventKey). IsPermutation (map (λ (e : End). e.key) ends) l) (keys_by (name_as_came ids) items) (IsPermutation-map (λ (e : End). e.key) ends (map (end_at ids) items) same) in
    IsPermutation-map (led_group ends) (ambiguous_keys ends) (filter (is_ambiguous_key ends) (keys_of items)) (keys_moved (is_ambiguous_key ends) _ _ keys)

-- without their first events they are the ambiguous keys of the ends
behind_first : {X : Type 0} (f : X → EventId) (g : X → EndGroup) (xs : List X) (ends : List End) (keys : List EventKey) → map (λ (x : X). (f x, g x)) xs ≡ map (led_group ends) keys → map g xs ≡ map (end_group ends) keys
behind_first {X} f g xs ends keys is = sym (joined xs) ∙ ap (map (λ (p : EventId × EndGroup). p.1)) is ∙ joined' keys
  where
    joined : (ys : List X) → map (λ (p : EventId × EndGroup). p.1) (map (λ (x : X). (f x, g x)) ys) ≡ map g ys
    joined [] = refl
    joined (y ∷ ys) = ap (λ (l : List EndGroup). g y ∷ l) (joined ys)

    joined' : (ks : List EventKey) → map (λ (p : EventId × EndGroup). p.1) (map (led_group ends) ks) ≡ map (end_group ends) ks
    joined' [] = refl
    joined' (k ∷ ks) = ap (λ (l : List EndGroup). end_group ends k ∷ l) (joined' ks)

pub told_behind : {X : Type 0} (f : X → EventId) (g : X → EndGroup) (xs : List X) (ends : List End) → map (λ (x : X). (f x, g x)) xs ≡ map (led_group ends) (ambiguous_keys ends) → map g xs ≡ ambiguous_ends ends
told_behind f g xs ends is = behind_first f g xs ends (ambiguous_keys ends) is

-- one group more
pub led_more : (ends : List End) (keys : List EventKey) (key : EventKey) → led_groups ends (keys ++ key ∷ []) ≡ led_groups ends keys ++ led_groups ends (key ∷ [])
led_more ends keys key =
    ap (map (led_group ends)) (filter-append (is_ambiguous_key ends) keys (key ∷ [])) ∙ map-append (led_group ends) (filter (is_ambiguous_key ends) keys) (filter (is_ambiguous_key ends) (key ∷ []))

-- ---- one group
abbrev made : EventKey → List EventId → List EventId → EndGroup
made key sends receives = record { key = key; sends = sends; receives = receives }

abbrev both : EventId → EndGroup → EventId × EndGroup
both first group = (first, group)

-- its events in their order, behind the first of them
pub led_is : (ends : List End) (key : EventKey) (sends receives : List EventId) (s r : EventId) → AreRising ends → sends ≡ names_with ends key Send → receives ≡ names_with ends key Receive → 0 < length sends → 0 < length receives
    → s ≡ get_or sends 0 s → r ≡ get_or receives 0 r → (earlier s r, record { key = key; sends = sends; receives = receives }) ≡ led_group ends key
led_is ends key [] receives s r rising is is' some some' at at' = absurd (omega (arith, some))
led_is ends key (x ∷ xs) [] s r rising is is' some some' at at' = absurd (omega (arith, some'))
led_is ends key (x ∷ xs) (y ∷ ys) s r rising is is' some some' at at' =
    let group : made key (x ∷ xs) (y ∷ ys) ≡ end_group ends key = ap (λ (l : List EventId). made key l (y ∷ ys)) is ∙ ap (λ (l : List EventId). made key (names_with ends key Send) l) is' in
    let first : earlier s r ≡ first_with ends key = ap (λ (n : EventId). earlier n r) at ∙ ap (λ (n : EventId). earlier x n) at' ∙ first_is ends key x y xs ys rising (sym is) (sym is') in
    ap (λ (n : EventId). both n (made key (x ∷ xs) (y ∷ ys))) first ∙ ap (λ (g : EndGroup). both (first_with ends key) g) group

-- it is appended where its key is ambiguous
pub led_in : {X : Type 0} (f : X → EventId × EndGroup) (old new : List X) (x : X) (ends : List End) (key : EventKey) → is_ambiguous_key ends key ≡ true → new ≡ old ++ x ∷ [] → f x ≡ led_group ends key → map f new ≡ map f old ++ led_groups ends (key ∷ [])
led_in f old new x ends key ambiguous pushed is =
    ap (map f) pushed ∙ map_push f old x ∙ ap (λ (p : EventId × EndGroup). map f old ++ p ∷ []) is
    ∙ ap (λ (b : Bool). map f old ++ map (led_group ends) (cond b (key ∷ []) [])) (sym ambiguous)

-- and else nothing is
pub led_out : {X : Type 0} (f : X → EventId × EndGroup) (old : List X) (ends : List End) (key : EventKey) → is_ambiguous_key ends key ≡ false → map f old ≡ map f old ++ led_groups ends (key ∷ [])
led_out f old ends key clear = sym (append-nil (map f old)) ∙ ap (λ (b : Bool). map f old ++ map (led_group ends) (cond b (key ∷ []) [])) (sym clear)

-- an ambiguous one has sends and receives
pub some_of_both : (g : SeenGroup) → is_ambiguous g ≡ true → (0 < length g.sends) × (0 < length g.receives)
some_of_both g is =
    let two = and_parts (nat_lt 0 (length g.sends) && nat_lt 0 (length g.receives)) (nat_lt 1 (length g.sends) || nat_lt 1 (length g.receives)) is in
    let each = and_parts (nat_lt 0 (length g.sends)) (nat_lt 0 (length g.receives)) two.0 in
    (grind (arith, each.0), grind (arith, each.1))

-- ---- one group after another
group_there : (groups : List Group) (i : ℕ) (g : Group) → i < length groups → g ≡ get_or groups i g → get_or (seen_groups groups) i (seen_group g) ≡ seen_group g
group_there groups i g inside is = get_or-map seen_group groups i g (seen_group g) inside ∙ ap seen_group (sym is)

-- what holds of all holds of one
pub at_group : (P : SeenGroup → Type 0) (groups : List Group) (i : ℕ) (g : Group) → All P (seen_groups groups) → i < length groups → g ≡ get_or groups i g → P (seen_group g)
at_group P groups i g all inside is = subst P (group_there groups i g inside is) (all i (seen_group g) (subst (λ (n : ℕ). i < n) (sym (length-map groups seen_group)) inside))

-- one key more
pub next_led : (ends : List End) (groups : List Group) (i : ℕ) (g : Group) → i < length groups → g ≡ get_or groups i g
    → led_groups ends (keys_in (seen_groups (take i groups))) ++ led_groups ends ((seen_group g).key ∷ []) ≡ led_groups ends (keys_in (seen_groups (take (i + 1) groups)))
next_led ends groups i g inside is =
    let before = seen_groups (take i groups) in
    let more : seen_groups (take (i + 1) groups) ≡ before ++ seen_group g ∷ [] = map_more seen_group groups i g inside ∙ ap (λ (h : Group). before ++ seen_group h ∷ []) (sym is) in
    sym (ap (λ (l : List SeenGroup). led_groups ends (keys_in l)) more ∙ ap (led_groups ends) (map_push (λ (h : SeenGroup). h.key) before (seen_group g)) ∙ led_more ends (keys_in before) (seen_group g).key)

-- ---- groups of numbers
events_within : (ids : List EventId) (items : List SeenItem) (key : EventKey) (side : Side) → All (λ (x : SeenItem). x.event < length ids) items → All (λ (n : ℕ). n < length ids) (events_with items key side)
events_within ids items key side within =
    All-map (λ (n : ℕ). n < length ids) (λ (x : SeenItem). x.event) (filter (has_mark key side) items) (All-filter (has_mark key side) (λ (x : SeenItem). x.event < length ids) items within)

pub groups_within : (ids : List EventId) (items : List SeenItem) → All (λ (x : SeenItem). x.event < length ids) items → All (IsWithin ids) (groups_of items)
groups_within ids items within = All-map (IsWithin ids) (group_of items) (keys_of items) (λ k d inside. (events_within ids items _ Send within, events_within ids items _ Receive within))

-- all of them, sorted, are the ambiguous keys of the ends in their order
pub all_told : {X : Type 0} (f : X → EventId) (g : X → EndGroup) (ids : List EventId) (items : List SeenItem) (groups : List SeenGroup) (ends : List End) (found sorted : List X) → AreRising ends → IsPermutation ends (map (end_at ids) items) → groups ≡ groups_of items
    → (All (HasEventsOf ids ends) groups → map (λ (x : X). (f x, g x)) found ≡ led_groups ends (keys_in groups))
    → ((in_order : List (EventId × EndGroup)) → AllPairs (λ (a b : EventId × EndGroup). ComesBefore a.0 b.0) in_order → IsPermutation in_order (map (λ (x : X). (f x, g x)) found) → map (λ (x : X). (f x, g x)) sorted ≡ in_order)
    → map g sorted ≡ ambiguous_ends ends
all_told {X} f g ids items groups ends found sorted rising same is gives sorts =
    let have : All (HasEventsOf ids ends) groups = subst (All (HasEventsOf ids ends)) (sym is) (groups_have ids items ends rising same) in
    let keys : keys_in groups ≡ keys_of items = ap (λ (gs : List SeenGroup). keys_in gs) is ∙ group_keys items (keys_of items) in
    let all : map (λ (x : X). (f x, g x)) found ≡ led_groups ends (keys_of items) = gives have ∙ ap (led_groups ends) keys in
    let in_order : List (EventId × EndGroup) = map (led_group ends) (ambiguous_keys ends) in
    told_behind f g sorted ends
    (sorts in_order (all_rise ends rising) (subst (IsPermutation in_order) (sym all) (all_moved ids items ends same)))
