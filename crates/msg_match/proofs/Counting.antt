-- What all groups count as is what is counted among all events.
use Rattle.std.proofs.Common.{◌≡◌, ℕ, ◌<◌, ◌≤◌, ◌+◌, ◌^◌, List, [], ◌∷◌, length, map, take, get_or, Bool, true, false, ◌&&◌, cond, inl, inr, refl, sym, ap, ◌∙◌, subst, arith, lit<}
use Rattle.std.specs.Prelude.{All, filter, sum_by}
use Rattle.std.specs.List.{list_any}
use Rattle.std.proofs.lemmas.Bool.{cases_Bool, false≢true, or_cases, or_parts}
use Rattle.std.proofs.lemmas.List.{get_or-map, length-map, take-map}
use Rattle.std.proofs.lemmas.List.Elements.{All-head, All-tail}
use Rattle.std.proofs.lemmas.List.Folds.{fold-map}
use Rattle.std.proofs.lemmas.List.Sums.{get_or-le-sum_by, sum_by-cons, sum_by_more_le_part}
use Rattle.problem_model.specs.Limits.{most_items}
use Rattle.traces.specs.declared.event.Side.{Side}
use Rattle.traces.specs.declared.event.Side.TheVariants.{Send, Receive}
use Rattle.traces.specs.Seen.{EventKey, is_same_key, is_same_side}
use Rattle.msg_match.specs.declared.change.Tallies.{Tallies}
use Rattle.msg_match.specs.declared.entry.Entry.{Entry}
use Rattle.msg_match.specs.declared.group.Group.{Group}
use Rattle.msg_match.specs.Groups.{SeenItem, SeenGroup, events_with, group_of, is_ambiguous, is_matched, is_unmatched, keys_of, group_size}
use Rattle.msg_match.specs.Held.{seen_group, seen_groups}
use Rattle.msg_match.specs.Inside.{AreGrouped, item_by, items_by}
use Rattle.msg_match.specs.Messages.{has_ambiguous_key, is_unmatched_event, sends_message, tallies}
use Rattle.msg_match.specs.Parts.{sum_of_groups, tallies_of, total_of}
use Rattle.msg_match.proofs.Distinct.{AreApart, known_at}
use Rattle.msg_match.proofs.Grouping.{exact_keys, size_cons, some_with}
use Rattle.msg_match.proofs.Keeping.{any_of, key_known, keys_apart}

-- ---- sums over lists
sum_by_map : {X Y : Type 0} (f : Y → ℕ) (h : X → Y) (xs : List X) → sum_by f (map h xs) ≡ sum_by (λ (x : X). f (h x)) xs
sum_by_map {X} {Y} f h xs = fold-map (λ (a : ℕ) (y : Y). a + f y) h 0 xs

sum_by_same : {X : Type 0} (f g : X → ℕ) → ((x : X) → f x ≡ g x) → (xs : List X) → sum_by f xs ≡ sum_by g xs
sum_by_same f g agree [] = refl
sum_by_same f g agree (x ∷ xs) = omega (arith, sum_by-cons f x xs, sum_by-cons g x xs, agree x, sum_by_same f g agree xs)

sum_by_both : {X : Type 0} (f g h : X → ℕ) → ((x : X) → h x ≡ f x + g x) → (xs : List X) → sum_by h xs ≡ sum_by f xs + sum_by g xs
sum_by_both f g h adds [] = refl
sum_by_both f g h adds (x ∷ xs) = omega (arith, sum_by-cons f x xs, sum_by-cons g x xs, sum_by-cons h x xs, adds x, sum_by_both f g h adds xs)

sum_by_none : {X : Type 0} (f : X → ℕ) → ((x : X) → f x ≡ 0) → (xs : List X) → sum_by f xs ≡ 0
sum_by_none f none [] = refl
sum_by_none f none (x ∷ xs) = omega (arith, sum_by-cons f x xs, none x, sum_by_none f none xs)

-- ---- one key among others
abbrev at_key : EventKey → ℕ → EventKey → ℕ
at_key h n k = cond (is_same_key h k) n 0

not_there : (h : EventKey) (n : ℕ) (ks : List EventKey) → list_any (is_same_key h) ks ≡ false → sum_by (at_key h n) ks ≡ 0
not_there h n [] none = refl
not_there h n (k ∷ ks) none =
    let both = or_parts (is_same_key h k) (list_any (is_same_key h) ks) none in
    let first : at_key h n k ≡ 0 = ap (λ (b : Bool). cond b n 0) both.0 in
    omega (arith, sum_by-cons (at_key h n) k ks, first, not_there h n ks both.1)

-- a key that is there once counts once
there_once : (h : EventKey) (n : ℕ) (ks : List EventKey) → AreApart is_same_key ks → list_any (is_same_key h) ks ≡ true → sum_by (at_key h n) ks ≡ n
there_once h n [] apart known = absurd (false≢true known)
there_once h n (k ∷ ks) apart known = elim (cases_Bool (is_same_key h k)) [
  | inl same ↦ (
      let first : at_key h n k ≡ n = ap (λ (b : Bool). cond b n 0) same in
      let none : list_any (is_same_key h) ks ≡ false = subst (λ (j : EventKey). list_any (is_same_key j) ks ≡ false) (sym (exact_keys.one h k same)) apart.0 in
      omega (arith, sum_by-cons (at_key h n) k ks, first, not_there h n ks none)
      )
  | inr other ↦ (
      let first : at_key h n k ≡ 0 = ap (λ (b : Bool). cond b n 0) other in
      let more : list_any (is_same_key h) ks ≡ true = elim (or_cases (is_same_key h k) (list_any (is_same_key h) ks) known) [
        | inl same ↦ absurd (false≢true (sym other ∙ same))
        | inr more ↦ more
      ] in
      omega (arith, sum_by-cons (at_key h n) k ks, first, there_once h n ks apart.1 more)
      )
]

-- ---- events, key by key
-- how many events of a key pass a test
abbrev count_of : (SeenItem → Bool) → List SeenItem → EventKey → ℕ
count_of P items k = length (filter (λ (x : SeenItem). is_same_key x.key k && P x) items)

count_cons : (P : SeenItem → Bool) (x : SeenItem) (items : List SeenItem) (k : EventKey) → count_of P (x ∷ items) k ≡ at_key x.key (cond (P x) 1 0) k + count_of P items k
count_cons P x items k = elim (cases_Bool (is_same_key x.key k)) [
  | inl same ↦ elim (cases_Bool (P x)) [
    | inl yes' ↦ rw (same, yes') (omega arith)
    | inr no' ↦ rw (same, no') (omega arith)
  ]
  | inr other ↦ rw other (omega arith)
]

passing_cons : (P : SeenItem → Bool) (x : SeenItem) (items : List SeenItem) → length (filter P (x ∷ items)) ≡ cond (P x) 1 0 + length (filter P items)
passing_cons P x items = elim (cases_Bool (P x)) [
  | inl yes' ↦ rw yes' (omega arith)
  | inr no' ↦ rw no' (omega arith)
]

-- where each key is there once, the events that pass are those of all keys together
parted : (P : SeenItem → Bool) (items : List SeenItem) (ks : List EventKey) → AreApart is_same_key ks → All (λ (x : SeenItem). list_any (is_same_key x.key) ks ≡ true) items → sum_by (count_of P items) ks ≡ length (filter P items)
parted P [] ks apart known = sum_by_none (count_of P []) (λ k. refl) ks
parted P (x ∷ items) ks apart known =
    let R : SeenItem → Type 0 = λ y. list_any (is_same_key y.key) ks ≡ true in
    omega (
      arith,
      sum_by_both (at_key x.key (cond (P x) 1 0)) (count_of P items) (count_of P (x ∷ items)) (count_cons P x items) ks,
      there_once x.key (cond (P x) 1 0) ks apart (All-head R x items known),
      passing_cons P x items,
      parted P items ks apart (All-tail R x items known),
    )

all_known : (items : List SeenItem) → All (λ (x : SeenItem). list_any (is_same_key x.key) (keys_of items) ≡ true) items
all_known items k d inside = any_of items (get_or items k d).key ∙ key_known items k d inside

-- the same for what each key's group counts as
by_groups : (P : SeenItem → Bool) (part : SeenGroup → ℕ) (items : List SeenItem) → ((k : EventKey) → count_of P items k ≡ part (group_of items k)) → sum_by part (map (group_of items) (keys_of items)) ≡ length (filter P items)
by_groups P part items agree =
    sum_by_map part (group_of items) (keys_of items)
    ∙ sym (sum_by_same (count_of P items) (λ (k : EventKey). part (group_of items k)) agree (keys_of items))
    ∙ parted P items (keys_of items) (keys_apart items) (all_known items)

-- ---- tests that go by the key
-- a test on keys passes all events of a key, or none
count_key : (U : EventKey → Bool) (items : List SeenItem) (k : EventKey) → count_of (λ (x : SeenItem). U x.key) items k ≡ cond (U k) (group_size (group_of items k)) 0
count_key U [] k = elim (cases_Bool (U k)) [
  | inl yes' ↦ rw yes' refl
  | inr no' ↦ rw no' refl
]
count_key U (x ∷ items) k =
    let P : SeenItem → Bool = λ y. U y.key in
    let more = count_key U items k in
    let first = count_cons P x items k in
    let size = size_cons x.event x.side x.key items k in
    elim (cases_Bool (is_same_key x.key k)) [
      | inl same ↦ (
          let is : U x.key ≡ U k = ap U (exact_keys.one x.key k same) in
          let one' : ◌≡◌ {A = ℕ} (cond (is_same_key x.key k) 1 0) 1 = ap (λ (b : Bool). cond b 1 0) same in
          let here : at_key x.key (cond (P x) 1 0) k ≡ cond (U k) 1 0 = ap (λ (b : Bool). cond b (cond (P x) 1 0) 0) same ∙ ap (λ (b : Bool). cond b 1 0) is in
          key_step (U k) (count_of P (x ∷ items) k) (count_of P items k) (group_size (group_of (x ∷ items) k)) (group_size (group_of items k)) (first ∙ ap (λ (n : ℕ). n + count_of P items k) here) (size ∙ ap (λ (n : ℕ). n + group_size (group_of items k)) one') more
          )
      | inr other ↦ (
          let none : ◌≡◌ {A = ℕ} (cond (is_same_key x.key k) 1 0) 0 = ap (λ (b : Bool). cond b 1 0) other in
          let here : at_key x.key (cond (P x) 1 0) k ≡ 0 = ap (λ (b : Bool). cond b (cond (P x) 1 0) 0) other in
          let same_size : group_size (group_of (x ∷ items) k) ≡ group_size (group_of items k) = omega (arith, size, none) in
          omega (arith, first, here, more, ap (λ (n : ℕ). cond (U k) n 0) same_size)
          )
    ]
  where
    key_step : (b : Bool) (counted before size rest : ℕ) → counted ≡ cond b 1 0 + before → size ≡ 1 + rest → before ≡ cond b rest 0 → counted ≡ cond b size 0
    key_step true counted before size rest first next more = omega (arith, first, next, more)
    key_step false counted before size rest first next more = omega (arith, first, next, more)

sends_cons : (event : ℕ) (side : Side) (k : EventKey) (items : List SeenItem) (key : EventKey)
    → length (events_with ((record { event = event; side = side; key = k }) ∷ items) key Send) ≡ cond (is_same_key k key && is_same_side side Send) 1 0 + length (events_with items key Send)
sends_cons event side k items key = elim (cases_Bool (is_same_key k key && is_same_side side Send)) [
  | inl yes' ↦ rw yes' (omega arith)
  | inr no' ↦ rw no' (omega arith)
]

send_step : (same send' u : Bool) (rest : ℕ) → cond same (cond (send' && u) 1 0) 0 + cond u rest 0 ≡ cond u (cond (same && send') 1 0 + rest) 0
send_step true true true rest = omega arith
send_step true true false rest = omega arith
send_step true false true rest = omega arith
send_step true false false rest = omega arith
send_step false true true rest = omega arith
send_step false true false rest = omega arith
send_step false false true rest = omega arith
send_step false false false rest = omega arith

-- and one on sends and keys passes all sends of a key, or none
count_send : (U : EventKey → Bool) (items : List SeenItem) (k : EventKey) → count_of (λ (x : SeenItem). is_same_side x.side Send && U x.key) items k ≡ cond (U k) (length (events_with items k Send)) 0
count_send U [] k = elim (cases_Bool (U k)) [
  | inl yes' ↦ rw yes' refl
  | inr no' ↦ rw no' refl
]
count_send U (x ∷ items) k =
    let P : SeenItem → Bool = λ y. is_same_side y.side Send && U y.key in
    let rest = length (events_with items k Send) in
    let by_key : cond (is_same_key x.key k) (cond (is_same_side x.side Send && U x.key) 1 0) 0 ≡ cond (is_same_key x.key k) (cond (is_same_side x.side Send && U k) 1 0) 0 = elim (cases_Bool (is_same_key x.key k)) [
      | inl same ↦ ap (λ (j : EventKey). cond (is_same_key x.key k) (cond (is_same_side x.side Send && U j) 1 0) 0) (exact_keys.one x.key k same)
      | inr other ↦ ap (λ (b : Bool). cond b (cond (is_same_side x.side Send && U x.key) 1 0) 0) other ∙ ap (λ (b : Bool). cond b (cond (is_same_side x.side Send && U k) 1 0) 0) (sym other)
    ] in
    count_cons P x items k
    ∙ ap (λ (n : ℕ). n + count_of P items k) by_key
    ∙ ap (λ (n : ℕ). cond (is_same_key x.key k) (cond (is_same_side x.side Send && U k) 1 0) 0 + n) (count_send U items k)
    ∙ send_step (is_same_key x.key k) (is_same_side x.side Send) (U k) rest
    ∙ ap (λ (n : ℕ). cond (U k) n 0) (sym (sends_cons x.event x.side x.key items k))

-- ---- the tallies
matched_one : (sends receives : List ℕ) (key : EventKey) → let g : SeenGroup = record { key = key; sends = sends; receives = receives } in cond (is_matched g) (length sends) 0 ≡ cond (is_matched g) 1 0
matched_one [] receives key = refl
matched_one (s ∷ t ∷ more) receives key = refl
matched_one (s ∷ []) [] key = refl
matched_one (s ∷ []) (r ∷ []) key = refl
matched_one (s ∷ []) (r ∷ t ∷ more) key = refl

abbrev made_tallies : ℕ → ℕ → ℕ → Tallies
made_tallies m u a = record { messages = m; unmatched = u; ambiguous = a }

same_tallies : (m m' u u' a a' : ℕ) → m ≡ m' → u ≡ u' → a ≡ a' → made_tallies m u a ≡ made_tallies m' u' a'
same_tallies m m' u u' a a' messages unmatched ambiguous =
    ap (λ (n : ℕ). made_tallies n u a) messages ∙ ap (λ (n : ℕ). made_tallies m' n a) unmatched ∙ ap (λ (n : ℕ). made_tallies m' u' n) ambiguous

-- what all groups count as is what is counted
pub sums_are : (items : List SeenItem) → sum_of_groups (map (group_of items) (keys_of items)) ≡ tallies items
sums_are items =
    same_tallies _ _ _ _ _ _
    (by_groups (sends_message items) (λ (g : SeenGroup). cond (is_matched g) 1 0) items
    (λ k. count_send (λ (j : EventKey). is_matched (group_of items j)) items k ∙ matched_one (events_with items k Send) (events_with items k Receive) k))
    (by_groups (is_unmatched_event items) (λ (g : SeenGroup). cond (is_unmatched g) (group_size g) 0) items (λ k. count_key (λ (j : EventKey). is_unmatched (group_of items j)) items k))
    (by_groups (has_ambiguous_key items) (λ (g : SeenGroup). cond (is_ambiguous g) (group_size g) 0) items (λ k. count_key (λ (j : EventKey). is_ambiguous (group_of items j)) items k))

all_pass : (items : List SeenItem) → length (filter (λ (x : SeenItem). true) items) ≡ length items
all_pass [] = refl
all_pass (x ∷ items) = omega (arith, all_pass items)

-- there are as many events in all groups as were added
pub totals_are : (items : List SeenItem) → total_of (map (group_of items) (keys_of items)) ≡ length items
totals_are items = by_groups (λ (x : SeenItem). true) group_size items (λ k. count_key (λ (j : EventKey). true) items k) ∙ all_pass items

groups_of_kept : (keys : List EventKey) (log : List Entry) (groups : List SeenGroup) → AreGrouped keys log groups → groups ≡ map (group_of (items_by keys log)) (keys_of (items_by keys log))
groups_of_kept keys log groups kept = kept.grouped ∙ ap (map (group_of (items_by keys log))) kept.ordered

pub tallies_kept : (keys : List EventKey) (log : List Entry) (groups : List SeenGroup) → AreGrouped keys log groups → sum_of_groups groups ≡ tallies (items_by keys log)
tallies_kept keys log groups kept = ap (λ (gs : List SeenGroup). sum_of_groups gs) (groups_of_kept keys log groups kept) ∙ sums_are (items_by keys log)

pub total_kept : (keys : List EventKey) (log : List Entry) (groups : List SeenGroup) → AreGrouped keys log groups → total_of groups ≤ most_items
total_kept keys log groups kept =
    let is : total_of groups ≡ length log = ap (λ (gs : List SeenGroup). total_of gs) (groups_of_kept keys log groups kept) ∙ totals_are (items_by keys log) ∙ length-map log (item_by keys) in
    subst (λ (n : ℕ). n ≤ most_items) (sym is) kept.few

below_both : (n m total top : ℕ) → n ≡ m → m ≤ total → total ≤ top → n ≤ top
below_both n m total top is few within = omega (arith, is, few, within)

-- there are no more groups than events
keys_sized : (items : List SeenItem) → All (λ (k : EventKey). 0 < group_size (group_of items k)) (keys_of items)
keys_sized items i d inside =
    let key = get_or (keys_of items) i d in
    some_with items key (sym (any_of items key) ∙ known_at is_same_key exact_keys (keys_of items) i d key inside refl)

some_sized : (items : List SeenItem) (ks : List EventKey) → All (λ (k : EventKey). 0 < group_size (group_of items k)) ks → length ks ≤ total_of (map (group_of items) ks)
some_sized items [] sized = omega arith
some_sized items (k ∷ ks) sized =
    let R : EventKey → Type 0 = λ j. 0 < group_size (group_of items j) in
    omega (arith, sum_by-cons group_size (group_of items k) (map (group_of items) ks), All-head R k ks sized, some_sized items ks (All-tail R k ks sized))

pub groups_few : (keys : List EventKey) (log : List Entry) (groups : List SeenGroup) → AreGrouped keys log groups → length groups ≤ most_items
groups_few keys log groups kept =
    let items = items_by keys log in
    let total = total_kept keys log groups kept in
    let is = groups_of_kept keys log groups kept in
    let few : length (keys_of items) ≤ total_of groups = subst (λ (gs : List SeenGroup). length (keys_of items) ≤ total_of gs) (sym is) (some_sized items (keys_of items) (keys_sized items)) in
    let many : length groups ≡ length (keys_of items) = ap length is ∙ length-map (keys_of items) (group_of items) in
    below_both (length groups) (length (keys_of items)) (total_of groups) (most_items) many few total

-- ---- the loop over groups
matched_le : (sends receives : List ℕ) (key : EventKey) → let g : SeenGroup = record { key = key; sends = sends; receives = receives } in cond (is_matched g) 1 0 ≤ group_size g
matched_le [] receives key = omega arith
matched_le (s ∷ t ∷ more) receives key = omega arith
matched_le (s ∷ []) [] key = omega arith
matched_le (s ∷ []) (r ∷ []) key = omega arith
matched_le (s ∷ []) (r ∷ t ∷ more) key = omega arith

chosen_le : (b : Bool) (n : ℕ) → cond b n 0 ≤ n
chosen_le true n = omega arith
chosen_le false n = omega arith

fits_below : (so_far here rest total top wide : ℕ) → so_far + rest ≤ total → here ≤ rest → total ≤ top → top < wide → so_far + here < wide
fits_below so_far here rest total top wide joined part within below = omega (arith, joined, part, within, below)

more_fits : (f : SeenGroup → ℕ) → ((h : SeenGroup) → f h ≤ group_size h) → (groups : List Group) (i : ℕ) (g : Group) → i < length groups → g ≡ get_or groups i g → total_of (seen_groups groups) ≤ most_items
    → sum_by f (seen_groups (take i groups)) + f (seen_group g) < 2 ^ 32
more_fits f part groups i g inside is few =
    let xs = seen_groups groups in
    let place : i < length xs = subst (λ (n : ℕ). i < n) (sym (length-map groups seen_group)) inside in
    let joined : sum_by f (take i xs) + group_size (get_or xs i (seen_group g)) ≤ total_of xs = sum_by_more_le_part f group_size xs i (seen_group g) place part in
    let front : take i xs ≡ seen_groups (take i groups) = take-map seen_group i groups in
    let at : get_or xs i (seen_group g) ≡ seen_group g = get_or-map seen_group groups i g (seen_group g) inside ∙ ap seen_group (sym is) in
    let joined' : sum_by f (seen_groups (take i groups)) + group_size (seen_group g) ≤ total_of xs =
    subst (λ (h : SeenGroup). sum_by f (seen_groups (take i groups)) + group_size h ≤ total_of xs) at (subst (λ (l : List SeenGroup). sum_by f l + group_size (get_or xs i (seen_group g)) ≤ total_of xs) front joined) in
    fits_below (sum_by f (seen_groups (take i groups))) (f (seen_group g)) (group_size (seen_group g)) (total_of xs) (most_items) (2 ^ 32) joined' (part (seen_group g)) few (lit< tt)

-- what is counted never passes the number of events
pub messages_fit : (groups : List Group) (i : ℕ) (g : Group) → i < length groups → g ≡ get_or groups i g → total_of (seen_groups groups) ≤ most_items → (sum_of_groups (seen_groups (take i groups))).messages + (tallies_of (seen_group g)).messages < 2 ^ 32
messages_fit groups i g inside is few = more_fits (λ (h : SeenGroup). cond (is_matched h) 1 0) (λ h. matched_le h.sends h.receives h.key) groups i g inside is few

pub unmatched_fit : (groups : List Group) (i : ℕ) (g : Group) → i < length groups → g ≡ get_or groups i g → total_of (seen_groups groups) ≤ most_items → (sum_of_groups (seen_groups (take i groups))).unmatched + (tallies_of (seen_group g)).unmatched < 2 ^ 32
unmatched_fit groups i g inside is few = more_fits (λ (h : SeenGroup). cond (is_unmatched h) (group_size h) 0) (λ h. chosen_le (is_unmatched h) (group_size h)) groups i g inside is few

pub ambiguous_fit : (groups : List Group) (i : ℕ) (g : Group) → i < length groups → g ≡ get_or groups i g → total_of (seen_groups groups) ≤ most_items → (sum_of_groups (seen_groups (take i groups))).ambiguous + (tallies_of (seen_group g)).ambiguous < 2 ^ 32
ambiguous_fit groups i g inside is few = more_fits (λ (h : SeenGroup). cond (is_ambiguous h) (group_size h) 0) (λ h. chosen_le (is_ambiguous h) (group_size h)) groups i g inside is few

pub size_fits : (groups : List Group) (i : ℕ) (g : Group) → i < length groups → g ≡ get_or groups i g → total_of (seen_groups groups) ≤ most_items → group_size (seen_group g) ≤ most_items
size_fits groups i g inside is few =
    let xs = seen_groups groups in
    let place : i < length xs = subst (λ (n : ℕ). i < n) (sym (length-map groups seen_group)) inside in
    let at : get_or xs i (seen_group g) ≡ seen_group g = get_or-map seen_group groups i g (seen_group g) inside ∙ ap seen_group (sym is) in
    let part : group_size (seen_group g) ≤ total_of xs = subst (λ (h : SeenGroup). group_size h ≤ total_of xs) at (get_or-le-sum_by group_size xs i (seen_group g) place) in
    below_both (group_size (seen_group g)) (group_size (seen_group g)) (total_of xs) (most_items) refl part few
