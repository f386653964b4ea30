-- Events in their series: the times of a series are those of the keys alike, so the scan finds the keys of groups.
use Rattle.std.proofs.Common.{◌≡◌, ◌≢◌, ◌<◌, ◌≤◌, ◌+◌, ◌==◌, ℕ, zero, suc, List, [], ◌∷◌, ◌++◌, length, map, take, get_or, slice_get, Bool, true, false, not, cond, Option, Some, None, inl, inr, refl, sym, ap, ◌∙◌, subst, arith}
use Rattle.std.specs.Prelude.{ℤ, pos, All, AllPairs, Contains, filter}
use Rattle.std.specs.List.{list_any}
use Rattle.std.specs.List.Sorted.{IsPermutation, IsSortedByKey}
use Rattle.std.proofs.lemmas.Bool.{and_from, cases_Bool, cases_lt, eq-eqb, eqb-true, false≢true}
use Rattle.std.proofs.lemmas.List.{get_or_append_left, get_or_at, get_or_default, get_or-map, length-map, length_push, map_push, take_more}
use Rattle.std.proofs.lemmas.List.Elements.{Contains-get_or}
use Rattle.std.proofs.lemmas.List.Sorted.{All-permutation, Contains-permutation, IsPermutation-map, IsPermutation-sym, length_permutation}
use Rattle.std.proofs.lemmas.Option.{none-some, same_Some}
use Rattle.traces.specs.Beginnings.{beginning}
use Rattle.traces.specs.Seen.{EventKey, MessageKey, SeenMoment, is_same_key, is_same_message}
use Rattle.traces.specs.Windows.{group_key, is_alike, time_with, times_of}
use Rattle.traces.proofs.Beginnings.{IsBeginning, beginning_is, moved_beginning}
use Rattle.traces.proofs.Keys.{messages_tell}
use Rattle.traces.proofs.Members.{given_by, giver, here}
use Rattle.msg_match.specs.declared.series.Stop.{Stop}
use Rattle.msg_match.specs.Groups.{SeenItem, each_once}
use Rattle.msg_match.specs.Series.{AreBeginnings, AreBegun, AreStops, HaveOwnPlaces, IsStop, item_at, key_at, moment_at, moment_or_none, no_stop, series_of, timeless, with_series}
use Rattle.msg_match.specs.Windowed.{group_item, grouped_items, item_keys}
use Rattle.msg_match.proofs.Distinct.{AreApart, IsExact, any_once, once_apart, once_known, once_new}
use Rattle.msg_match.proofs.Grouping.{exact_keys}
use Rattle.msg_match.proofs.Lists.{from_map, in_map}
use Rattle.msg_match.proofs.Rising.{differ_still, pairs_map, pairs_unmap}
use Rattle.msg_match.proofs.Scanned.{IsTimeIn, scanned, turn, turn_cmp}
use Rattle.msg_match.proofs.GroupedEnds.{alike_key, made_key}

-- ---- keys without times
abbrev timeless_of : SeenItem → EventKey
timeless_of x = timeless x.key

-- keys alike are those that are one without their times
same_window : (o p : Option SeenMoment) → moment_at o (pos 0) ≡ moment_at p (pos 0) → (moment_or_none o).window ≡ (moment_or_none p).window
same_window None None same = refl
same_window None (Some m) same = absurd (none-some _ same)
same_window (Some n) None same = absurd (none-some _ (sym same))
same_window (Some n) (Some m) same = ap (λ (r : SeenMoment). r.window) (same_Some _ _ same)

abbrev moment_in : EventKey → Option SeenMoment
moment_in key = key.moment

alike_time : (ma mb : MessageKey) (o : Option SeenMoment) (m : SeenMoment) → timeless (made_key ma o) ≡ timeless (made_key mb (Some m)) → Contains (time_with (made_key mb (Some m)) (made_key ma o)) (moment_or_none o).time
alike_time ma mb None m same = absurd (none-some _ (ap moment_in same))
alike_time ma mb (Some n) m same =
    let message : ma ≡ mb = ap (λ (k : EventKey). k.message) same in
    let window : n.window ≡ m.window = ap (λ (r : SeenMoment). r.window) (same_Some _ _ (ap moment_in same)) in
    let alike : is_alike (made_key mb (Some m)) (made_key ma (Some n)) ≡ true = and_from (is_same_message mb ma) (m.window == n.window) ((messages_tell mb ma).1 (sym message)) (eq-eqb m.window n.window (sym window)) in
    rw alike (here n.time [])

time_alike : (message : MessageKey) (m : SeenMoment) (k : EventKey) (t : ℤ) → Contains (time_with (made_key message (Some m)) k) t → (timeless k ≡ timeless (made_key message (Some m))) × ((moment_or_none k.moment).time ≡ t)
time_alike message m k t held = let is = alike_key message m k t held in (ap timeless is, ap (λ (j : EventKey). (moment_or_none j.moment).time) is)

-- ---- series
found_any : (ks : List EventKey) (b : ℕ) (k : EventKey) → slice_get ks b ≡ Some k → list_any (is_same_key k) ks ≡ true
found_any [] b k at = absurd (none-some k at)
found_any (h ∷ ks) zero k at =
    let is : is_same_key k h ≡ true = subst (λ (j : EventKey). is_same_key k j ≡ true) (sym (same_Some h k at)) (exact_keys.own k) in
    rw is refl
found_any (h ∷ ks) (suc b) k at = elim (cases_Bool (is_same_key k h)) [
  | inl same ↦ rw same refl
  | inr other ↦ rw other (found_any ks b k at)
]

-- a key has one place among keys that are apart
one_place : (ks : List EventKey) (a b : ℕ) (k : EventKey) → AreApart is_same_key ks → slice_get ks a ≡ Some k → slice_get ks b ≡ Some k → a ≡ b
one_place [] a b k apart at at' = absurd (none-some k at)
one_place (h ∷ ks) zero zero k apart at at' = refl
one_place (h ∷ ks) zero (suc b) k apart at at' = absurd (false≢true (sym apart.0 ∙ subst (λ (j : EventKey). list_any (is_same_key j) ks ≡ true) (sym (same_Some h k at)) (found_any ks b k at')))
one_place (h ∷ ks) (suc a) zero k apart at at' = absurd (false≢true (sym apart.0 ∙ subst (λ (j : EventKey). list_any (is_same_key j) ks ≡ true) (sym (same_Some h k at')) (found_any ks a k at)))
one_place (h ∷ ks) (suc a) (suc b) k apart at at' = ap suc (one_place ks a b k apart.1 at at')

-- ---- the keys of groups
begun_key : (keys : List EventKey) (message : MessageKey) (o : Option SeenMoment) (b : ℤ) → ((m : SeenMoment) → o ≡ Some m → b ≡ beginning m.window (times_of keys (made_key message (Some m))) m.time) → key_at (made_key message o) b ≡ group_key keys (made_key message o)
begun_key keys message None b is = refl
begun_key keys message (Some m) b is = ap (λ (t : ℤ). made_key message (Some (record { time = t; window = m.window }))) (is m refl)

-- ---- all together
module _ (items : List SeenItem) (came sorted : List Stop) (are : AreStops items came) (moved : IsPermutation came sorted) where
  back : (r : Stop) → Contains sorted r → Contains came r
  back r held = Contains-permutation sorted came r (IsPermutation-sym came sorted moved) held

  -- which event a stop is of
  source : (r : Stop) → Contains came r → (x : SeenItem) × Contains items x × (k : ℕ) × IsStop (series_of items) x k r
  source r (j, inside, is) =
      let x = any_item items (subst (λ (n : ℕ). j < n) are.many inside) in
      let y = get_or items j x in (
        y,
        Contains-get_or items j x (subst (λ (n : ℕ). j < n) are.many inside),
        j,
        subst (λ (s : Stop). IsStop (series_of items) y j s) is (are.each j x r inside),
      )
    where
      any_item : {j : ℕ} (xs : List SeenItem) → j < length xs → SeenItem
      any_item [] inside = absurd (omega (arith, inside))
      any_item (x ∷ xs) inside = x

  -- events of one series have one window
  pub one_window : (r s : Stop) → Contains sorted r → Contains sorted s → r.series ≡ s.series → r.window ≡ s.window
  one_window r s held held' same =
      let (x, among, k, is) = source r (back r held) in
      let (y, among', j, is') = source s (back s held') in
      let key : timeless x.key ≡ timeless y.key = same_Some _ _ (sym is.number ∙ ap (λ (n : ℕ). slice_get (series_of items) n) same ∙ is'.number) in
      is.window ∙ same_window x.key.moment y.key.moment (ap moment_in key) ∙ sym is'.window

  module _ (x : SeenItem) (k : ℕ) (a : Stop) (stands : IsStop (series_of items) x k a) (m : SeenMoment) (timed : x.key.moment ≡ Some m) where
    abbrev key : EventKey
    key = made_key x.key.message (Some m)

    key_is : x.key ≡ key
    key_is = ap (λ (o : Option SeenMoment). made_key x.key.message o) timed

    -- the times of the series are those of the keys alike
    times_to : (t : ℤ) → IsTimeIn sorted a.series t → Contains (times_of (item_keys items) key) t
    times_to t held =
        let (y, among, j, is) = source held.0 (back held.0 held.1) in
        let same : timeless y.key ≡ timeless key = same_Some _ _ (sym is.number ∙ ap (λ (n : ℕ). slice_get (series_of items) n) held.2 ∙ stands.number) ∙ ap timeless key_is in
        let time : (moment_or_none y.key.moment).time ≡ t = sym is.time ∙ held.3 in
        given_by (time_with key) (item_keys items) y.key t (in_map (λ (z : SeenItem). z.key) items y among)
        (subst (λ (u : ℤ). Contains (time_with key y.key) u) time (alike_time y.key.message x.key.message y.key.moment m same))

    times_from : (t : ℤ) → Contains (times_of (item_keys items) key) t → IsTimeIn sorted a.series t
    times_from t held =
        let (h, among, gives) = giver (time_with key) (item_keys items) t held in
        let (y, (j, inside, is), has) = from_map (λ (z : SeenItem). z.key) items h among in
        let within : j < length came = subst (λ (n : ℕ). j < n) (sym are.many) inside in
        let r : Stop = get_or came j a in
        let stop : IsStop (series_of items) y j r = subst (λ (z : SeenItem). IsStop (series_of items) z j r) is (are.each j y a within) in
        let (same, time) = time_alike x.key.message m y.key t (subst (λ (q : EventKey). Contains (time_with key q) t) (sym has) gives) in
        let one : r.series ≡ a.series = one_place (series_of items) r.series a.series (timeless x.key) (once_apart is_same_key exact_keys (map (λ (z : SeenItem). timeless z.key) items))
        (stop.number ∙ ap Some (same ∙ ap timeless (sym key_is))) stands.number in
        (r, Contains-permutation came sorted r moved (Contains-get_or came j a within), one, stop.time ∙ time)

    begun_there : (b : ℤ) → a.time ≡ m.time → a.window ≡ m.window → IsBeginning a.window (IsTimeIn sorted a.series) a.time b → b ≡ beginning m.window (times_of (item_keys items) key) m.time
    begun_there b time window is =
        sym (beginning_is m.window (times_of (item_keys items) key) m.time b
        (moved_beginning m.window (IsTimeIn sorted a.series) (Contains (times_of (item_keys items) key)) times_to times_from m.time b
        (subst (λ (u : ℤ). IsBeginning m.window (IsTimeIn sorted a.series) u b) time (subst (λ (w : ℕ). IsBeginning w (IsTimeIn sorted a.series) a.time b) window is))))

  -- no two events have one place
  came_place : (k : ℕ) (x : SeenItem) (s : Stop) → k < length came → (get_or came k s).place ≡ k
  came_place k x s inside = (are.each k x s inside).place

  own_came : AllPairs (λ (a b : Stop). a.place ≢ b.place) came
  own_came i j d below inside same = any_came items (subst (λ (n : ℕ). j < n) are.many inside)
    where
      any_came : (xs : List SeenItem) → j < length xs → ⊥
      any_came [] within = omega (arith, within)
      any_came (x ∷ xs) within =
          let first = came_place i x d (omega (arith, below, inside)) in
          let second = came_place j x d inside in
          omega (arith, below, same, first, second)

  within_came : All (λ (s : Stop). s.place < length sorted) came
  within_came k d inside = any_came items (subst (λ (n : ℕ). k < n) are.many inside)
    where
      any_came : (xs : List SeenItem) → k < length xs → (get_or came k d).place < length sorted
      any_came [] within = absurd (omega (arith, within))
      any_came (x ∷ xs) within = (let place = came_place k x d inside in let many = length_permutation came sorted moved in omega (arith, place, many, inside))

  exact_places : IsExact (λ (a b : ℕ). a == b)
  exact_places = record { one = λ a b same. eqb-true a b same; own = λ a. eq-eqb a a refl }

  pub own_places : HaveOwnPlaces sorted
  own_places = record {
    within = All-permutation (λ (s : Stop). s.place < length sorted) came sorted moved within_came;
    differ =
        pairs_unmap (λ (s : Stop). s.place) (λ (a b : ℕ). a ≢ b) sorted
        (differ_still (λ (a b : ℕ). a == b) exact_places (map (λ (s : Stop). s.place) came) (map (λ (s : Stop). s.place) sorted) (IsPermutation-map (λ (s : Stop). s.place) came sorted moved)
        (pairs_map (λ (s : Stop). s.place) (λ (a b : ℕ). a ≢ b) came own_came));
  }

  module _ (up : IsSortedByKey turn turn_cmp sorted) (begins : List ℤ) (begun : AreBegun (length sorted) sorted begins) (many : length begins ≡ length sorted) where
    begun_at : (k : ℕ) (d : SeenItem) → k < length items → (m : SeenMoment) → (get_or items k d).key.moment ≡ Some m
        → get_or begins k (pos 0) ≡ beginning m.window (times_of (item_keys items) (made_key (get_or items k d).key.message (Some m))) m.time
    begun_at k d inside m timed =
        let y = get_or items k d in
        let within : k < length came = subst (λ (n : ℕ). k < n) (sym are.many) inside in
        let a = get_or came k no_stop in
        let stands : IsStop (series_of items) y k a = are.each k d no_stop within in
        let (j, inside', is) = Contains-permutation came sorted a moved (Contains-get_or came k no_stop within) in
        let at : get_or sorted j no_stop ≡ a = get_or_default sorted j no_stop a inside' ∙ is in
        let scan : IsBeginning a.window (IsTimeIn sorted a.series) a.time (get_or begins a.place (pos 0)) =
        subst (λ (s : Stop). IsBeginning s.window (IsTimeIn sorted s.series) s.time (get_or begins s.place (pos 0))) at (scanned sorted up one_window begins begun j inside') in
        ap (λ (n : ℕ). get_or begins n (pos 0)) (sym stands.place)
        ∙ begun_there y k a stands m timed (get_or begins a.place (pos 0)) (stands.time ∙ ap (λ (o : Option SeenMoment). (moment_or_none o).time) timed) (stands.window ∙ ap (λ (o : Option SeenMoment). (moment_or_none o).window) timed) scan

    -- the groups begin where the scan says
    pub beginnings_are : AreBeginnings items begins
    beginnings_are = record {
      many = many ∙ length_permutation came sorted moved ∙ are.many;
      each = λ k x t inside.
          let y = get_or items k x in
          let long : length begins ≡ length items = many ∙ length_permutation came sorted moved ∙ are.many in
          ap (λ (b : ℤ). item_at y b) (get_or_default begins k t (pos 0) (subst (λ (n : ℕ). k < n) (sym long) inside))
          ∙ ap (λ (key : EventKey). made_item y key) (begun_key (item_keys items) y.key.message y.key.moment (get_or begins k (pos 0)) (begun_at k x inside));
    }
      where
        made_item : SeenItem → EventKey → SeenItem
        made_item x key = record { event = x.event; side = x.side; key = key }

-- ---- one event more
pub series_more : (items : List SeenItem) (x : SeenItem) → series_of (items ++ x ∷ []) ≡ with_series (series_of items) (timeless x.key)
series_more items x =
    let keys = map timeless_of items in
    let key = timeless x.key in
    ap (each_once is_same_key) (map_push timeless_of items x)
    ∙ elim (cases_Bool (list_any (is_same_key key) keys)) [
      | inl known ↦ once_known is_same_key exact_keys keys key known ∙ sym (ap (λ (b : Bool). cond b (series_of items) (series_of items ++ key ∷ [])) (any_once is_same_key exact_keys key keys ∙ known))
      | inr new ↦ once_new is_same_key exact_keys keys key new ∙ sym (ap (λ (b : Bool). cond b (series_of items) (series_of items ++ key ∷ [])) (any_once is_same_key exact_keys key keys ∙ new))
    ]

number_left : (ks : List EventKey) (k v : EventKey) (n : ℕ) → slice_get ks n ≡ Some v → slice_get (ks ++ k ∷ []) n ≡ Some v
number_left [] k v n at = absurd (none-some v at)
number_left (h ∷ ks) k v zero at = at
number_left (h ∷ ks) k v (suc n) at = number_left ks k v n at

pub number_more : (ks : List EventKey) (k v : EventKey) (n : ℕ) → slice_get ks n ≡ Some v → slice_get (with_series ks k) n ≡ Some v
number_more ks k v n at = elim (cases_Bool (list_any (is_same_key k) ks)) [
  | inl known ↦ rw known at
  | inr new ↦ rw new (number_left ks k v n at)
]

-- a series that is there is not appended
pub with_known : (ks : List EventKey) (n : ℕ) (k : EventKey) → slice_get ks n ≡ Some k → ks ≡ with_series ks k
with_known ks n k at = sym (ap (λ (b : Bool). cond b ks (ks ++ k ∷ [])) (found_any ks n k at))

pub last_number : (ks : List EventKey) (k : EventKey) → slice_get (ks ++ k ∷ []) (length ks) ≡ Some k
last_number [] k = refl
last_number (h ∷ ks) k = last_number ks k

fewer : {X : Type 0} (p : X → Bool) (xs : List X) → length (filter p xs) ≤ length xs
fewer p [] = omega arith
fewer p (x ∷ xs) = elim (cases_Bool (p x)) [
  | inl t ↦ rw t (let rest = fewer p xs in omega (arith, rest))
  | inr f ↦ rw f (let rest = fewer p xs in omega (arith, rest))
]

once_few : (ks : List EventKey) → length (each_once is_same_key ks) ≤ length ks
once_few [] = omega arith
once_few (k ∷ ks) = (let rest = once_few ks in let less = fewer (λ (j : EventKey). not (is_same_key k j)) (each_once is_same_key ks) in omega (arith, rest, less))

-- there are no more series than events
pub series_few : (items : List SeenItem) → length (series_of items) ≤ length items
series_few items = (let few = once_few (map timeless_of items) in let many = length-map items timeless_of in omega (arith, few, many))

pub stops_more : (items : List SeenItem) (stops : List Stop) (x : SeenItem) (s : Stop) (k : ℕ) → AreStops items stops → k ≡ length items → IsStop (with_series (series_of items) (timeless x.key)) x k s → AreStops (items ++ x ∷ []) (stops ++ s ∷ [])
stops_more items stops x s k are place stands = record {
  many = length_push stops s ∙ ap (λ (n : ℕ). n + 1) are.many ∙ sym (length_push items x);
  each = λ j y r inside.
      let series : series_of (items ++ x ∷ []) ≡ with_series (series_of items) (timeless x.key) = series_more items x in
      elim (cases_lt j (length stops)) [
        | inl before ↦ (
            let old = are.each j y r before in
            let there : get_or (items ++ x ∷ []) j y ≡ get_or items j y = get_or_append_left items (x ∷ []) y j (subst (λ (n : ℕ). j < n) are.many before) in
            let there' : get_or (stops ++ s ∷ []) j r ≡ get_or stops j r = get_or_append_left stops (s ∷ []) r j before in
            subst (λ (ks : List EventKey). IsStop ks (get_or (items ++ x ∷ []) j y) j (get_or (stops ++ s ∷ []) j r)) (sym series)
            (subst (λ (z : SeenItem). IsStop (with_series (series_of items) (timeless x.key)) z j (get_or (stops ++ s ∷ []) j r)) (sym there)
            (subst (λ (q : Stop). IsStop (with_series (series_of items) (timeless x.key)) (get_or items j y) j q) (sym there')
            (record { number = number_more (series_of items) (timeless x.key) (timeless (get_or items j y).key) (get_or stops j r).series old.number; time = old.time; window = old.window; place = old.place })))
            )
        | inr last ↦ (
            let many : length stops ≡ length items = are.many in
            let at : j ≡ k = omega (arith, inside, last, length_push stops s, place, many) in
            let there : get_or (items ++ x ∷ []) j y ≡ x = get_or_at items x [] y j (sym place ∙ sym at) in
            let there' : get_or (stops ++ s ∷ []) j r ≡ s = get_or_at stops s [] r j (many ∙ sym place ∙ sym at) in
            subst (λ (ks : List EventKey). IsStop ks (get_or (items ++ x ∷ []) j y) j (get_or (stops ++ s ∷ []) j r)) (sym series)
            (subst (λ (z : SeenItem). IsStop (with_series (series_of items) (timeless x.key)) z j (get_or (stops ++ s ∷ []) j r)) (sym there)
            (subst (λ (q : Stop). IsStop (with_series (series_of items) (timeless x.key)) x j q) (sym there')
            (subst (λ (n : ℕ). IsStop (with_series (series_of items) (timeless x.key)) x n s) (sym at) stands)))
            )
      ];
}

-- ---- the groups, one event after another
pub next_grouped : (items : List SeenItem) (begins : List ℤ) (i : ℕ) (x : SeenItem) (b : ℤ) → AreBeginnings items begins → i < length items → x ≡ get_or items i x → b ≡ get_or begins i b
    → take i (grouped_items items) ++ item_at x b ∷ [] ≡ take (i + 1) (grouped_items items)
next_grouped items begins i x b are inside is is' =
    let keys = item_keys items in
    let within : i < length (grouped_items items) = subst (λ (n : ℕ). i < n) (sym (length-map items (group_item keys))) inside in
    let there : get_or (grouped_items items) i (group_item keys x) ≡ group_item keys (get_or items i x) = get_or-map (group_item keys) items i x (group_item keys x) inside in
    let same : item_at x b ≡ get_or (grouped_items items) i (group_item keys x) = ap (λ (y : SeenItem). item_at y b) is ∙ ap (λ (t : ℤ). item_at (get_or items i x) t) is' ∙ are.each i x b inside ∙ sym there in
    ap (λ (y : SeenItem). take i (grouped_items items) ++ y ∷ []) same ∙ sym (take_more (grouped_items items) i (group_item keys x) within)
