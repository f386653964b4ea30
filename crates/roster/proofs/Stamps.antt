-- The stamps of readings, which rise: how they are looked for, and how more come among them.
use Rattle.std.proofs.Common.{◌≡◌, ℕ, ◌+◌, ◌<◌, ◌≤◌, ◌⊎◌, zero, suc, List, [], ◌∷◌, ◌++◌, length, take, drop, get_or, slice_get, Option, Some, All, AllPairs, Contains, true, false, ltb, nat_eq, Less, Equal, Greater, Ordering, refl, sym, ◌∙◌, ap, subst, arith, inl, inr, length-append}
use Rattle.std.specs.Ordering.{nat_cmp, ordering_index, eq_by_cmp, is_eq}
use Rattle.std.specs.List.{dedup}
use Rattle.std.specs.List.Sorted.{IsSorted, IsPermutation, IsPartitionPoint, IsPartitionedBy, IsNonDecreasingBy}
use Rattle.std.specs.List.Retain.{IsFiltered, DiffersFromLast}
use Rattle.std.specs.Cmp.{IsTotalOrder, IsEquivalence, both_tied}
use Rattle.std.proofs.lemmas.Cmp.{ranked, then_total, on_total, nat_cmp_total, nat_eq_equiv, on_equiv, and_equiv}
use Rattle.std.proofs.lemmas.Bool.{cases_lt, cases_order}
use Rattle.std.proofs.lemmas.Bool.Decides.{nat_tests}
use Rattle.std.proofs.lemmas.List.{take-append-drop, get_or-take, length-take}
use Rattle.std.proofs.lemmas.List.Sorted.{Contains-permutation, IsPartitionedBy-ltb, IsPermutation-sym, length_permutation}
use Rattle.std.proofs.lemmas.List.Elements.{All-contains, All-head, All-tail, All-cons, Contains-append_cases, Contains-append_left, Contains-append_right, Contains-get_or}
use Rattle.std.proofs.lemmas.List.Filters.{dedup_is}
use Rattle.std.proofs.lemmas.List.Kept.{AllPairs-cons, Contains-dedup, Contains-from_dedup, IsStrictlySortedBy-dedup}
use Rattle.std.proofs.lemmas.Map.Keys.{Less-from_sorted}
use Rattle.problem_model.specs.Nodes.{IsEarlierReading}
use Rattle.problem.specs.Listing.{reading_order}
use Rattle.problem.proofs.Places.{pair_same}
use Rattle.problem.proofs.ReadingOrder.{reading_eq, before_of_less}
use Rattle.traces.proofs.Members.{here, head_or_tail, none_in, first_of_pairs, rest_of_pairs, no_pairs, pairs_joined}
use Rattle.roster.specs.Readings.{Stamped, Rise, HasStamp, JoinsStamps, AreFresh, AreBefore, AreSorted}

-- ---- a search by stamp
most : (o : Ordering) → ordering_index o ≤ 2
most Less = omega arith
most Equal = omega arith
most Greater = omega arith

mono : (a b s : ℕ) → a ≤ b → ordering_index (nat_cmp a s) ≤ ordering_index (nat_cmp b s)
mono a b s le = elim (cases_lt a s) [
  | inl below ↦ (let less : nat_cmp a s ≡ Less = grind (arith, nat_tests) in rw less (omega arith))
  | inr above ↦ elim (cases_lt s b) [
    | inl past ↦ (let greater : nat_cmp b s ≡ Greater = grind (arith, nat_tests) in rw greater (most (nat_cmp a s)))
    | inr under ↦ (let same : a ≡ b = omega (arith, le, above, under) in subst (λ (c : ℕ). ordering_index (nat_cmp a s) ≤ ordering_index (nat_cmp c s)) same (omega arith))
  ]
]

pub index_rises : (readings : List Stamped) (stamp : ℕ) → Rise readings → IsNonDecreasingBy (λ (r : Stamped). ordering_index (nat_cmp r.0 stamp)) readings
index_rises readings stamp rise i j d le inside = elim (cases_lt i j) [
  | inl below ↦ (let less = rise i j d below inside in mono (get_or readings i d).0 (get_or readings j d).0 stamp (omega (arith, less)))
  | inr above ↦ (let same : i ≡ j = omega (arith, le, above) in subst (λ (k : ℕ). ordering_index (nat_cmp (get_or readings i d).0 stamp) ≤ ordering_index (nat_cmp (get_or readings k d).0 stamp)) same (omega arith))
]

pub found : (readings : List Stamped) (k stamp : ℕ) → k < length readings → ((d : Stamped) → nat_cmp (get_or readings k d).0 stamp ≡ Equal) → (node : ℕ) × (slice_get {X = Stamped} readings k ≡ Some (stamp, node))
found [] k stamp inside is = absurd (omega (arith, inside))
found ((s, n) ∷ readings) zero stamp inside is =
    let same : s ≡ stamp = ranked s stamp Equal (sym (is (s, n))) in
    (n, ap (λ (x : ℕ). let r : Option Stamped = Some (x, n) in r) same)
found (r ∷ readings) (suc k) stamp inside is = found readings k stamp (omega (arith, inside)) is

pub not_there : (readings : List Stamped) (k stamp : ℕ) → Rise readings →
    (IsNonDecreasingBy (λ (r : Stamped). ordering_index (nat_cmp r.0 stamp)) readings → IsPartitionPoint (λ (r : Stamped). nat_cmp r.0 stamp ≡ Less) (λ (r : Stamped). nat_cmp r.0 stamp ≡ Greater) readings k) →
    HasStamp readings stamp → ⊥
not_there readings k stamp rise parted (node, (i, inside, is)) =
    let point = parted (index_rises readings stamp rise) in
    let d : Stamped = (stamp, node) in
    let own : (get_or readings i d).0 ≡ stamp = ap (λ (r : Stamped). r.0) is in
    elim (cases_lt i k) [
      | inl below ↦ (let less : (get_or readings i d).0 < stamp = ranked (get_or readings i d).0 stamp Less (sym (point.0 i d (omega arith) below)) in absurd (omega (arith, own, less)))
      | inr above ↦ (let more : stamp < (get_or readings i d).0 = ranked (get_or readings i d).0 stamp Greater (sym (point.1 i d above inside)) in absurd (omega (arith, own, more)))
    ]

-- ---- parts of lists
all_left : {X : Type 0} (P : X → Type 0) (xs ys : List X) → All P (xs ++ ys) → All P xs × All P ys
all_left P [] ys all = ((λ k d inside. absurd (omega (arith, inside))), all)
all_left P (x ∷ xs) ys all =
    let more = all_left P xs ys (All-tail P x (xs ++ ys) all) in
    (All-cons P x xs (All-head P x (xs ++ ys) all) more.0, more.1)

pub pairs_parted : {X : Type 0} (R : X → X → Type 0) (xs ys : List X) → AllPairs R (xs ++ ys) → AllPairs R xs × AllPairs R ys × All (λ x. All (R x) ys) xs
pairs_parted R [] ys pairs = (no_pairs R, pairs, (λ k d inside. absurd (omega (arith, inside))))
pairs_parted R (x ∷ xs) ys pairs =
    let more = pairs_parted R xs ys (rest_of_pairs R x (xs ++ ys) pairs) in
    let first = all_left (R x) xs ys (first_of_pairs R x (xs ++ ys) pairs) in
    (AllPairs-cons R x xs first.0 more.0, more.1, All-cons (λ z. All (R z) ys) x xs first.1 more.2)

-- ---- fresh readings
last_is : {X : Type 0} (xs : List X) (x y : X) → Contains (xs ++ x ∷ []) y → Contains xs y ⊎ (y ≡ x)
last_is xs x y c = elim (Contains-append_cases xs (x ∷ []) y c) [
  | inl before ↦ inl before
  | inr last ↦ elim (head_or_tail x y [] last) [ inl is ↦ inr (sym is) | inr none ↦ absurd (none_in y none) ]
]

pub fresh_known : (old : List Stamped) (stamps : List ℕ) (fresh : List Stamped) (stamp : ℕ) → AreFresh old stamps fresh → HasStamp old stamp → AreFresh old (stamps ++ stamp ∷ []) fresh
fresh_known old stamps fresh stamp are known = record {
  each = λ r c. let e = are.each r c in (Contains-append_left stamps (stamp ∷ []) r.0 e.0, e.1, e.2);
  every = λ s c. elim (last_is stamps stamp s c) [ inl before ↦ are.every s before | inr is ↦ inl (subst (HasStamp old) (sym is) known) ];
  few = let n = are.few in omega (arith, n, length-append stamps (stamp ∷ []));
}

pub fresh_more : (old : List Stamped) (stamps : List ℕ) (fresh : List Stamped) (stamp : ℕ) → AreFresh old stamps fresh → (HasStamp old stamp → ⊥) →
    AreFresh old (stamps ++ stamp ∷ []) (fresh ++ (let r : Stamped = (stamp, 0) in r) ∷ [])
fresh_more old stamps fresh stamp are new =
    let r : Stamped = (stamp, 0) in
    record {
      each = λ q c. elim (last_is fresh r q c) [
        | inl before ↦ (let e = are.each q before in (Contains-append_left stamps (stamp ∷ []) q.0 e.0, e.1, e.2))
        | inr is ↦ (let first : q.0 ≡ stamp = ap (λ (x : Stamped). x.0) is in
            (Contains-append_right stamps (stamp ∷ []) q.0 (subst (Contains (stamp ∷ [])) (sym first) (here stamp [])), ap (λ (x : Stamped). x.1) is, λ h. new (subst (HasStamp old) first h)))
      ];
      every = λ s c. elim (last_is stamps stamp s c) [
        | inl before ↦ elim (are.every s before) [ inl h ↦ inl h | inr f ↦ inr (Contains-append_left fresh (r ∷ []) (s, 0) f) ]
        | inr is ↦ inr (Contains-append_right fresh (r ∷ []) (s, 0) (subst (λ (x : ℕ). Contains {X = Stamped} (r ∷ []) (x, 0)) (sym is) (here r [])))
      ];
      few = let n = are.few in omega (arith, n, length-append stamps (stamp ∷ []), length-append fresh (r ∷ []));
    }

-- ---- sorted and without repeats
cmp_total : IsTotalOrder reading_order
cmp_total = then_total (on_total (λ (t : Stamped). t.0) nat_cmp_total) (on_total (λ (t : Stamped). t.1) nat_cmp_total)

eq_equiv : IsEquivalence reading_eq
eq_equiv = and_equiv (on_equiv (λ (t : Stamped). t.0) nat_eq_equiv) (on_equiv (λ (t : Stamped). t.1) nat_eq_equiv)

eq_same : (x y : Stamped) → reading_eq x y ≡ true → x ≡ y
eq_same x y e = pair_same x.0 x.1 y.0 y.1 e

eq_tied : (a b : ℕ) → nat_eq a b ≡ is_eq (nat_cmp a b)
eq_tied a b = grind (arith, nat_tests)

ties : (x y : Stamped) → reading_eq x y ≡ eq_by_cmp reading_order x y
ties x y = both_tied (nat_eq x.0 y.0) (nat_eq x.1 y.1) (nat_cmp x.0 y.0) (nat_cmp x.1 y.1) (eq_tied x.0 y.0) (eq_tied x.1 y.1)

pub sorted_once : (xs ys zs : List Stamped) → length zs ≤ length ys → IsPermutation xs ys → IsSorted reading_order ys → IsFiltered (DiffersFromLast reading_eq) [] ys zs → AreSorted xs zs
sorted_once xs ys zs fewer shuffled sorted filtered =
    let is : zs ≡ dedup reading_eq ys = dedup_is reading_eq ys zs filtered in
    record {
      each = λ r c. Contains-permutation ys xs r (IsPermutation-sym xs ys shuffled) (Contains-from_dedup reading_eq ys r (subst (λ (l : List Stamped). Contains l r) is c));
      every = λ r c. subst (λ (l : List Stamped). Contains l r) (sym is) (Contains-dedup eq_equiv eq_same ys r (Contains-permutation xs ys r shuffled c));
      rising = subst (AllPairs IsEarlierReading) (sym is) (λ i j d lt inside. before_of_less _ _ (Less-from_sorted reading_order (dedup reading_eq ys) i j d (IsStrictlySortedBy-dedup cmp_total ties ys sorted) lt inside));
      few = omega (arith, fewer, length_permutation xs ys shuffled);
    }

-- ---- all together
same_pair : (a b : Stamped) → a.0 ≡ b.0 → a.1 ≡ b.1 → a ≡ b
same_pair (a, b) (c, d) e f = rw (e, f) refl

get_or_any : (xs : List Stamped) (k : ℕ) (d e : Stamped) → k < length xs → get_or xs k d ≡ get_or xs k e
get_or_any [] k d e inside = absurd (omega (arith, inside))
get_or_any (x ∷ xs) zero d e inside = refl
get_or_any (x ∷ xs) (suc k) d e inside = get_or_any xs k d e (omega (arith, inside))

-- readings whose stamps rise have each stamp once
rise_once : (readings : List Stamped) (a b : Stamped) → Rise readings → Contains readings a → Contains readings b → a.0 ≡ b.0 → a ≡ b
rise_once readings a b rise (i, ini, isi) (j, inj, isj) same =
    let at_i : get_or readings i b ≡ a = get_or_any readings i b a ini ∙ isi in
    elim (cases_order i j) [
      | inl equal ↦ sym at_i ∙ ap (λ (k : ℕ). get_or readings k b) equal ∙ isj
      | inr (inl less) ↦ (let below = rise i j b less inj in let x = ap (λ (r : Stamped). r.0) at_i in let y = ap (λ (r : Stamped). r.0) isj in absurd (omega (arith, below, x, y, same)))
      | inr (inr more) ↦ (let below = rise j i b more ini in let x = ap (λ (r : Stamped). r.0) at_i in let y = ap (λ (r : Stamped). r.0) isj in absurd (omega (arith, below, x, y, same)))
    ]

module _ (old fresh tail : List Stamped) (stamps : List ℕ) (from : ℕ) (rise : Rise old) (before : AreBefore (take from old) fresh) (are : AreFresh old stamps fresh) (sorted : AreSorted (drop from old ++ fresh) tail) where
  whole : take from old ++ drop from old ≡ old
  whole = take-append-drop from old

  parts : Rise (take from old) × Rise (drop from old) × AreBefore (take from old) (drop from old)
  parts = pairs_parted (λ (a b : Stamped). a.0 < b.0) (take from old) (drop from old) (subst Rise (sym whole) rise)

  of_front : (r : Stamped) → Contains (take from old) r → Contains old r
  of_front r c = subst (λ (l : List Stamped). Contains l r) whole (Contains-append_left (take from old) (drop from old) r c)

  of_back : (r : Stamped) → Contains (drop from old) r → Contains old r
  of_back r c = subst (λ (l : List Stamped). Contains l r) whole (Contains-append_right (take from old) (drop from old) r c)

  in_tail : (r : Stamped) → Contains tail r → Contains old r ⊎ Contains fresh r
  in_tail r c = elim (Contains-append_cases (drop from old) fresh r (sorted.each r c)) [ inl back ↦ inl (of_back r back) | inr new ↦ inr new ]

  same_stamp : (a b : Stamped) → Contains tail a → Contains tail b → a.0 ≡ b.0 → a ≡ b
  same_stamp a b ca cb same = elim (in_tail a ca) [
    | inl oa ↦ elim (in_tail b cb) [
      | inl ob ↦ rise_once old a b rise oa ob same
      | inr fb ↦ absurd ((are.each b fb).2 (a.1, subst (λ (s : ℕ). Contains {X = Stamped} old (s, a.1)) same oa))
    ]
    | inr fa ↦ elim (in_tail b cb) [
      | inl ob ↦ absurd ((are.each a fa).2 (b.1, subst (λ (s : ℕ). Contains {X = Stamped} old (s, b.1)) (sym same) ob))
      | inr fb ↦ same_pair a b same ((are.each a fa).1 ∙ sym (are.each b fb).1)
    ]
  ]

  lower : (a b : Stamped) → Contains tail a → Contains tail b → IsEarlierReading a b → a.0 < b.0
  lower a b ca cb (inl less) = less
  lower a b ca cb (inr both) =
      let one : a ≡ b = same_stamp a b ca cb both.0 in
      let less : a.1 < b.1 = both.1 in
      let equal : a.1 ≡ b.1 = ap (λ (r : Stamped). r.1) one in
      absurd (omega (arith, less, equal))

  tail_rises : Rise tail
  tail_rises i j d less inside = lower (get_or tail i d) (get_or tail j d) (Contains-get_or tail i d (omega (arith, less, inside))) (Contains-get_or tail j d inside) (sorted.rising i j d less inside)

  after : AreBefore (take from old) tail
  after i d inside = λ j e within.
      let r : Stamped = get_or (take from old) i d in
      elim (Contains-append_cases (drop from old) fresh (get_or tail j e) (sorted.each (get_or tail j e) (Contains-get_or tail j e within))) [
        | inl back ↦ All-contains (λ (b : Stamped). r.0 < b.0) (drop from old) (get_or tail j e) (parts.2 i d inside) back
        | inr new ↦ All-contains (λ (b : Stamped). r.0 < b.0) fresh (get_or tail j e) (before i d inside) new
      ]

  keeps : (r : Stamped) → Contains old r → Contains (take from old ++ tail) r
  keeps r c = elim (Contains-append_cases (take from old) (drop from old) r (subst (λ (l : List Stamped). Contains l r) (sym whole) c)) [
    | inl front ↦ Contains-append_left (take from old) tail r front
    | inr back ↦ Contains-append_right (take from old) tail r (sorted.every r (Contains-append_left (drop from old) fresh r back))
  ]

  pub joined : JoinsStamps old stamps (take from old ++ tail)
  joined = record {
    rise = pairs_joined (λ (a b : Stamped). a.0 < b.0) (take from old) tail parts.0 tail_rises after;
    kept = keeps;
    added = λ stamp c. elim (are.every stamp c) [
      | inl known ↦ (known.0, keeps (stamp, known.0) known.1)
      | inr new ↦ (0, Contains-append_right (take from old) tail (stamp, 0) (sorted.every (stamp, 0) (Contains-append_right (drop from old) fresh (stamp, 0) new)))
    ];
    only = λ r c. elim (Contains-append_cases (take from old) tail r c) [
      | inl front ↦ inl (of_front r front)
      | inr last ↦ elim (in_tail r last) [ inl known ↦ inl known | inr new ↦ (let e = are.each r new in inr (e.0, e.1)) ]
    ];
    few =
        let one : length (take from old) + length (drop from old) ≡ length old = sym (length-append (take from old) (drop from old)) ∙ ap length whole in
        let two : length tail ≤ length (drop from old ++ fresh) = sorted.few in
        let three : length fresh ≤ length stamps = are.few in
        omega (arith, one, two, three, length-append (drop from old) fresh, length-append (take from old) tail);
  }

-- ---- how many are below a stamp
stamps_rise : (readings : List Stamped) → Rise readings → IsNonDecreasingBy (λ (r : Stamped). r.0) readings
stamps_rise readings rise i j d le inside = elim (cases_lt i j) [
  | inl below ↦ (let less = rise i j d below inside in omega (arith, less))
  | inr above ↦ (let same : i ≡ j = omega (arith, le, above) in subst (λ (k : ℕ). (get_or readings i d).0 ≤ (get_or readings k d).0) same (omega arith))
]

lt_of : (a b : ℕ) → ltb a b ≡ true → a < b
lt_of a b e = grind (arith, nat_tests)

pub parted_by : (readings : List Stamped) (stamp : ℕ) → Rise readings → IsPartitionedBy (λ (r : Stamped). ltb r.0 stamp) readings
parted_by readings stamp rise = IsPartitionedBy-ltb (λ (r : Stamped). r.0) readings stamp (stamps_rise readings rise)

pub below_point : (readings : List Stamped) (stamp k : ℕ) → k ≤ length readings → IsPartitionPoint (λ (r : Stamped). ltb r.0 stamp ≡ true) (λ (r : Stamped). ltb r.0 stamp ≡ false) readings k →
    All (λ (r : Stamped). r.0 < stamp) (take k readings)
below_point readings stamp k within point i d inside =
    let less : i < k = omega (arith, inside, length-take k readings) in
    subst (λ (r : Stamped). r.0 < stamp) (sym (get_or-take k readings i d less)) (lt_of (get_or readings i d).0 stamp (point.0 i d (omega arith) less))
