-- Ends of messages by the numbers of their events, while events are added.
use Rattle.std.proofs.Common.{◌≡◌, ◌≢◌, ◌≤◌, ◌<◌, ◌+◌, ◌-◌, ℕ, List, [], ◌∷◌, ◌++◌, length, map, take, get_or, inl, inr, refl, sym, ap, ◌∙◌, subst, arith, length-append, length-take}
use Rattle.std.specs.Prelude.{All, AllPairs, slice_get, slice_set, Some}
use Rattle.std.proofs.lemmas.Bool.{cases_lt}
use Rattle.std.proofs.lemmas.List.{append-nil, append_assoc, get_or_append_left, get_or-append_right, get_or_at, length-map, length_push, map-append, map_more}
use Rattle.std.proofs.lemmas.List.Elements.{All-append, All-cons, All-head, All-nil, All-tail}
use Rattle.traces.proofs.Members.{no_pairs}
use Rattle.traces.specs.declared.event.Event.{Event}
use Rattle.traces.specs.Seen.{Seen, SeenMark, Keyed, Unkeyed, mark_of, seen_event, seen_events}
use Rattle.msg_match.specs.declared.change.Change.{Change}
use Rattle.msg_match.specs.Groups.{SeenItem}
use Rattle.msg_match.specs.Changes.{AreMessagesAnew, HaveOwnNumbers}
use Rattle.traces.specs.declared.event_id.EventId.{EventId}
use Rattle.traces.specs.Traces.{Placed, event_count, events_of, numbered}
use Rattle.msg_match.specs.Ends.{AreChanges, AreCouplesBelow, AreEndsBy, AreMatchedEnds, End, end_at, end_by_mark, ends_among, ids_from, item_of, items_from, name_as_came, no_name}
use Rattle.msg_match.proofs.Growing.{ends_few as few_ends_of, length_numbered, more_ends, no_ends}
use Rattle.msg_match.specs.Windowed.{grouped_items}
use Rattle.msg_match.proofs.GroupedEnds.{ends_regrouped, grouped_within}
use Rattle.msg_match.proofs.Renamed.{AreWithin, anew_within, named_anew}

-- ---- numbers
abbrev Own : SeenItem → SeenItem → Type 0
Own a b = a.event ≢ b.event

-- events that are numbered from n on have numbers of at least n
abbrev From : ℕ → SeenItem → Type 0
From n x = n ≤ x.event

abbrev Below : ℕ → SeenItem → Type 0
Below n x = x.event < n

one_from : (m n : ℕ) (mark : SeenMark) → m ≤ n → All (From m) (item_of n mark)
one_from m n (Unkeyed reason) up = All-nil (From m)
one_from m n (Keyed key side) up = All-cons (From m) _ [] up (All-nil (From m))

all_from : (m n : ℕ) (more : List Seen) → m ≤ n → All (From m) (items_from n more)
all_from m n [] up = All-nil (From m)
all_from m n (s ∷ more) up = All-append (From m) (item_of n s.mark) (items_from (n + 1) more) (one_from m n s.mark up) (all_from m (n + 1) more (omega (arith, up)))

one_below : (m n : ℕ) (mark : SeenMark) → n < m → All (Below m) (item_of n mark)
one_below m n (Unkeyed reason) up = All-nil (Below m)
one_below m n (Keyed key side) up = All-cons (Below m) _ [] up (All-nil (Below m))

all_below : (m n : ℕ) (more : List Seen) → n + length more ≤ m → All (Below m) (items_from n more)
all_below m n [] few = All-nil (Below m)
all_below m n (s ∷ more) few = All-append (Below m) (item_of n s.mark) (items_from (n + 1) more) (one_below m n s.mark (omega (arith, few))) (all_below m (n + 1) more (omega (arith, few)))

-- two lists of events with numbers of their own, the first below the second
own_both : (n : ℕ) (xs ys : List SeenItem) → HaveOwnNumbers xs → HaveOwnNumbers ys → All (Below n) xs → All (From n) ys → HaveOwnNumbers (xs ++ ys)
own_both n xs ys own own' below from i j d before inside = elim (cases_lt j (length xs)) [
  | inl first ↦ (
      let at : get_or (xs ++ ys) i d ≡ get_or xs i d = get_or_append_left xs ys d i (omega (arith, before, first)) in
      let at' : get_or (xs ++ ys) j d ≡ get_or xs j d = get_or_append_left xs ys d j first in
      λ same. own i j d before first (ap (λ (x : SeenItem). x.event) (sym at) ∙ same ∙ ap (λ (x : SeenItem). x.event) at'))
  | inr second ↦ (
      let place : j - length xs < length ys = omega (arith, inside, second, length-append xs ys) in
      let at' : get_or (xs ++ ys) j d ≡ get_or ys (j - length xs) d = get_or-append_right xs ys (length xs) j d refl second in
      let high : n ≤ (get_or ys (j - length xs) d).event = from (j - length xs) d place in
      elim (cases_lt i (length xs)) [
        | inl first ↦ (
            let at : get_or (xs ++ ys) i d ≡ get_or xs i d = get_or_append_left xs ys d i first in
            let low : (get_or xs i d).event < n = below i d first in
            λ same. (
            let one : (get_or xs i d).event ≡ (get_or ys (j - length xs) d).event = ap (λ (x : SeenItem). x.event) (sym at) ∙ same ∙ ap (λ (x : SeenItem). x.event) at' in
            omega (arith, low, high, one)))
        | inr second' ↦ (
            let at : get_or (xs ++ ys) i d ≡ get_or ys (i - length xs) d = get_or-append_right xs ys (length xs) i d refl second' in
            let less : i - length xs < j - length xs = omega (arith, before, second') in
            λ same. own' (i - length xs) (j - length xs) d less place (ap (λ (x : SeenItem). x.event) (sym at) ∙ same ∙ ap (λ (x : SeenItem). x.event) at'))
      ])
]

one_own : (n : ℕ) (mark : SeenMark) → HaveOwnNumbers (item_of n mark)
one_own n (Unkeyed reason) = no_pairs Own
one_own n (Keyed key side) = λ i j d before inside. absurd (omega (arith, before, inside))

all_own : (n : ℕ) (more : List Seen) → HaveOwnNumbers (items_from n more)
all_own n [] = no_pairs Own
all_own n (s ∷ more) = own_both (n + 1) (item_of n s.mark) (items_from (n + 1) more) (one_own n s.mark) (all_own (n + 1) more) (one_below (n + 1) n s.mark (omega arith)) (all_from (n + 1) (n + 1) more (omega arith))

-- numbers of names are numbers of more names
within_more : (m n : ℕ) (items : List SeenItem) → m ≤ n → All (Below m) items → All (Below n) items
within_more m n items up within k d inside = let less = within k d inside in omega (arith, less, up)

-- ---- names
-- an end has its name where more names stand behind
names_left : (ids more : List EventId) (items : List SeenItem) → All (Below (length ids)) items → map (end_at (ids ++ more)) items ≡ map (end_at ids) items
names_left ids more [] within = refl
names_left ids more (x ∷ items) within =
    let name : name_as_came (ids ++ more) x.event ≡ name_as_came ids x.event = get_or_append_left ids more no_name x.event (All-head (Below (length ids)) x items within) in
    ap (λ (n : EventId). (record { id = n; key = x.key; side = x.side }) ∷ map (end_at (ids ++ more)) items) name
    ∙ ap (λ (l : List End). end_at ids x ∷ l) (names_left ids more items (All-tail (Below (length ids)) x items within))

one_there : (all : List EventId) (n : ℕ) (id : EventId) (mark : SeenMark) (rest : List SeenItem) (ends : List End) → name_as_came all n ≡ id → map (end_at all) rest ≡ ends → map (end_at all) (item_of n mark ++ rest) ≡ end_by_mark id mark ++ ends
one_there all n id (Unkeyed reason) rest ends at is = is
one_there all n id (Keyed key side) rest ends at is =
    ap (λ (m : EventId). (record { id = m; key = key; side = side }) ∷ map (end_at all) rest) at ∙ ap (λ (l : List End). (record { id = id; key = key; side = side }) ∷ l) is

-- events that come are the ends of these events, by the names behind all
ends_right : (ids : List EventId) (label n : ℕ) (more : List Seen) → map (end_at (ids ++ ids_from label n more)) (items_from (length ids) more) ≡ ends_among (numbered label n more)
ends_right ids label n [] = refl
ends_right ids label n (s ∷ more) =
    let id : EventId = record { label = label; number = n } in
    let rest : List EventId = ids_from label (n + 1) more in
    let all : List EventId = ids ++ (id ∷ rest) in
    let grouped : (ids ++ id ∷ []) ++ rest ≡ all = append_assoc ids (id ∷ []) rest in
    let at : name_as_came all (length ids) ≡ id = get_or_at ids id rest no_name (length ids) refl in
    let behind : map (end_at all) (items_from (length ids + 1) more) ≡ ends_among (numbered label (n + 1) more) =
    subst (λ (k : ℕ). map (end_at all) (items_from k more) ≡ ends_among (numbered label (n + 1) more)) (length_push ids id)
    (subst (λ (l : List EventId). map (end_at l) (items_from (length (ids ++ id ∷ [])) more) ≡ ends_among (numbered label (n + 1) more)) grouped
    (ends_right (ids ++ id ∷ []) label (n + 1) more)) in
    one_there all (length ids) id s.mark (items_from (length ids + 1) more) (ends_among (numbered label (n + 1) more)) at behind

pub ids_many : (label n : ℕ) (more : List Seen) → length (ids_from label n more) ≡ length more
ids_many label n more = length-map (numbered label n more) (λ (e : Placed). e.id) ∙ length_numbered label n more

-- ---- while events are added
pub ends_none : (seen : List (List Seen)) → All (λ (events : List Seen). events ≡ []) seen → AreEndsBy [] [] seen
ends_none seen empty = record {
  own = no_pairs Own;
  within = All-nil (Below 0);
  ends = no_ends seen empty;
}

-- numbers of those that come are their own
pub own_more : (ids : List EventId) (items : List SeenItem) (seen : List (List Seen)) (more : List Seen) → AreEndsBy ids items seen → HaveOwnNumbers (items ++ items_from (length ids) more)
own_more ids items seen more are = own_both (length ids) items (items_from (length ids) more) are.own (all_own (length ids) more) are.within (all_from (length ids) (length ids) more (omega arith))

pub ends_more : (seen : List (List Seen)) (label : ℕ) (old more : List Seen) (ids : List EventId) (items : List SeenItem) → slice_get seen label ≡ Some old → AreEndsBy ids items seen
    → AreEndsBy (ids ++ ids_from label (length old + 1) more) (items ++ items_from (length ids) more) (slice_set seen label (old ++ more))
ends_more seen label old more ids items at are =
    let names : List EventId = ids_from label (length old + 1) more in
    let new : List SeenItem = items_from (length ids) more in
    let long : length (ids ++ names) ≡ length ids + length more = omega (arith, length-append ids names, ids_many label (length old + 1) more) in
    let is : map (end_at (ids ++ names)) (items ++ new) ≡ map (end_at ids) items ++ ends_among (numbered label (length old + 1) more) =
    map-append (end_at (ids ++ names)) items new
    ∙ ap (λ (l : List End). l ++ map (end_at (ids ++ names)) new) (names_left ids names items are.within)
    ∙ ap (λ (l : List End). map (end_at ids) items ++ l) (ends_right ids label (length old + 1) more) in
    record {
      own = own_more ids items seen more are;
      within = All-append (Below (length (ids ++ names))) items new (within_more (length ids) (length (ids ++ names)) items (omega (arith, long)) are.within)
          (all_below (length (ids ++ names)) (length ids) more (omega (arith, long)));
      ends = subst (λ (l : List End). AreMatchedEnds l (slice_set seen label (old ++ more))) (sym is) (more_ends seen label old more (map (end_at ids) items) at are.ends);
    }

pub ends_few : (seen : List (List Seen)) (ids : List EventId) (items : List SeenItem) → AreEndsBy ids items seen → length items ≤ event_count seen
ends_few seen ids items are = (let few = few_ends_of seen (map (end_at ids) items) are.ends in omega (arith, few, length-map items (end_at ids)))

-- no more than events that come
pub few_more : (n : ℕ) (more : List Seen) → length (items_from n more) ≤ length more
few_more n [] = omega arith
few_more n (s ∷ more) = omega (arith, length-append (item_of n s.mark) (items_from (n + 1) more), few_one n s.mark, few_more (n + 1) more)
  where
    few_one : (n : ℕ) (mark : SeenMark) → length (item_of n mark) ≤ 1
    few_one n (Unkeyed reason) = omega arith
    few_one n (Keyed key side) = omega arith

-- ---- how the messages change
module _ (ids more : List EventId) (items new : List SeenItem) (before after : List (List Seen)) (c : Change) (are : AreEndsBy ids items before) (are' : AreEndsBy (ids ++ more) (items ++ new) after)
    (added : AreMessagesAnew items (items ++ new) c.added.items) (withdrawn : AreMessagesAnew (items ++ new) items c.withdrawn.items) where
  -- what comes and goes has numbers of names
  pub added_within : AreCouplesBelow (length (ids ++ more)) c.added.items
  added_within = anew_within (ids ++ more) (grouped_items items) (grouped_items (items ++ new)) c.added.items (grouped_within (ids ++ more) (items ++ new) are'.within) added

  pub gone_within : AreCouplesBelow (length ids) c.withdrawn.items
  gone_within = anew_within ids (grouped_items (items ++ new)) (grouped_items items) c.withdrawn.items (grouped_within ids items are.within) withdrawn

  -- and by the names it is what comes and goes
  pub changes_are : AllPairs (λ (a b : EventId). a ≢ b) (ids ++ more) → AreChanges (ids ++ more) before after c
  changes_are differ =
      let all = ids ++ more in
      let olds = grouped_items items in
      let news = grouped_items (items ++ new) in
      let within : AreWithin all olds = grouped_within all items (within_more (length ids) (length all) items (omega (arith, length-append ids more)) are.within) in
      let within' : AreWithin all news = grouped_within all (items ++ new) are'.within in
      let first : AreMatchedEnds (map (end_at all) items) before = subst (λ (l : List End). AreMatchedEnds l before) (sym (names_left ids more items are.within)) are.ends in
      let ends = ends_regrouped (events_of before) all items first in
      let ends' = ends_regrouped (events_of after) all (items ++ new) are'.ends in
      record {
        added = named_anew all olds news before after differ within within' ends ends' c.added.items added;
        withdrawn = named_anew all news olds after before differ within' within ends' ends c.withdrawn.items withdrawn;
      }

-- ---- items, one event after another
items_joined : (n : ℕ) (xs ys : List Seen) → items_from n (xs ++ ys) ≡ items_from n xs ++ items_from (n + length xs) ys
items_joined n [] ys = let same : n ≡ n + 0 = omega arith in ap (λ (k : ℕ). items_from k ys) same
items_joined n (s ∷ xs) ys =
    let same : (n + 1) + length xs ≡ n + length (s ∷ xs) = omega arith in
    ap (λ (l : List SeenItem). item_of n s.mark ++ l) (items_joined (n + 1) xs ys ∙ ap (λ (k : ℕ). items_from (n + 1) xs ++ items_from k ys) same)
    ∙ sym (append_assoc (item_of n s.mark) (items_from (n + 1) xs) (items_from (n + length (s ∷ xs)) ys))

pub items_next : (n : ℕ) (events : List Event) (i : ℕ) (x : Event) → i < length events → x ≡ get_or events i x
    → items_from n (seen_events (take i events)) ++ item_of (n + i) (mark_of x.mark) ≡ items_from n (seen_events (take (i + 1) events))
items_next n events i x inside is =
    let before = seen_events (take i events) in
    let more : before ++ seen_event x ∷ [] ≡ seen_events (take (i + 1) events) =
    sym (map_more seen_event events i x inside ∙ ap (λ (y : Event). before ++ seen_event y ∷ []) (sym is)) in
    let place : n + length before ≡ n + i = omega (arith, length-map (take i events) seen_event, length-take i events, inside) in
    sym
    (ap (λ (l : List Seen). items_from n l) (sym more)
    ∙ items_joined n before (seen_event x ∷ [])
    ∙ ap (λ (k : ℕ). items_from n before ++ items_from k (seen_event x ∷ [])) place
    ∙ ap (λ (l : List SeenItem). items_from n before ++ l) (append-nil (item_of (n + i) (mark_of x.mark))))
