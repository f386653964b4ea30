-- Values that are numbered, as a list.
use Rattle.std.proofs.Common.{◌≡◌, ◌+◌, ◌-◌, ◌<◌, ◌≤◌, ℕ, zero, suc, List, [], ◌∷◌, ◌++◌, length, slice_get, take, Bool, true, false, cond, nat_eq, nat_lt, count_by, filter_map, option_map, unwrap_or, Option, Some, None, refl, sym, ◌∙◌, ap, subst, arith, tests, inl, inr, position, Ordering, Less, Equal, Greater, is_eq, is_some, length-append, ltb-false, ltb-true, eqb-true}
use Rattle.std.specs.BTreeMap.{BTreeMap, IsOrdered, get_by, insert_entry, is_at}
use Rattle.std.specs.Cmp.{IsTotalOrder, eq_by_cmp_equiv, Equal-is}
use Rattle.std.specs.List.{range_with_len, cons_option}
use Rattle.std.specs.Map.{values_of, keys_of, lookup, remove_entry}
use Rattle.std.specs.Ordering.{match_ordering}
use Rattle.std.proofs.lemmas.Bool.{cases_Bool}
use Rattle.std.proofs.lemmas.Grind.{common_steps}
use Rattle.std.proofs.lemmas.List.Sums.{sum_by-cons}
use Rattle.std.proofs.lemmas.Map.Entries.{place_from_lookup, lookup_from_place, sum_by-insert_entry, sum_by-remove_entry}
use Rattle.std.proofs.lemmas.Map.Keys.{IsDistinct-from_sorted}
use Rattle.std.proofs.lemmas.Option.{slice_get_past}
use Rattle.interner.specs.Numbers.{value_at, by_number, HaveNumbers, IsLast}
use Rattle.interner.proofs.Positions.{IsFirstAt, position_is, position_none}

same_some : {X : Type 0} (a b : X) → Some a ≡ Some b → a ≡ b
same_some a b e = cc

-- ---- lists by their places
same_places : {T : Type 0} (xs ys : List T) → ((k : ℕ) → slice_get xs k ≡ slice_get ys k) → xs ≡ ys
same_places [] [] same = refl
same_places [] (y ∷ ys) same = let first : None ≡ Some y = same 0 in absurd cc
same_places (x ∷ xs) [] same = let first : Some x ≡ None = same 0 in absurd cc
same_places (x ∷ xs) (y ∷ ys) same = let first : x ≡ y = same_some x y (same 0) in let later : xs ≡ ys = same_places xs ys (λ k. same (suc k)) in rw (first, later) refl

at_pushed : {T : Type 0} (xs : List T) (v : T) (k : ℕ) → slice_get (xs ++ v ∷ []) k ≡ cond (nat_eq k (length xs)) (Some v) (slice_get xs k)
at_pushed [] v zero = refl
at_pushed [] v (suc k) = grind (arith, tests)
at_pushed (x ∷ xs) v zero = grind (arith, tests)
at_pushed (x ∷ xs) v (suc k) = let later = at_pushed xs v k in grind (arith, tests, later)

module _ {T : Type 0} where
  -- how many entries have this number
  abbrev count : List (T × ℕ) → ℕ → ℕ
  count es k = count_by (nat_eq k) (values_of es)

  count-cons : (e : T × ℕ) (es : List (T × ℕ)) (k : ℕ) → count (e ∷ es) k ≡ cond (nat_eq k e.1) 1 0 + count es k
  count-cons e es k = sum_by-cons (λ n. cond (nat_eq k n) 1 0) e.1 (values_of es)

  counted : (es : List (T × ℕ)) (i k : ℕ) (y : T) → slice_get es i ≡ Some (y, k) → 1 ≤ count es k
  counted [] i k y at = absurd cc
  counted (e ∷ es) zero k y at = let number : e.1 ≡ k = ap (λ (v : T × ℕ). v.1) (same_some e (y, k) at) in let c = count-cons e es k in grind (arith, tests, c, number)
  counted (e ∷ es) (suc i) k y at = let c = count-cons e es k in let later = counted es i k y at in omega (arith, c, later)

  none_at : (es : List (T × ℕ)) (k : ℕ) → count es k ≡ 0 → value_at es k ≡ None
  none_at [] k is = refl
  none_at (e ∷ es) k is = let c = count-cons e es k in elim (cases_Bool (nat_eq k e.1)) [
    | inl same ↦ absurd (let more : count (e ∷ es) k ≡ 1 + count es k = subst (λ b. count (e ∷ es) k ≡ cond b 1 0 + count es k) same c in omega (arith, is, more))
    | inr other ↦ rw other (none_at es k (let more : count (e ∷ es) k ≡ 0 + count es k = subst (λ b. count (e ∷ es) k ≡ cond b 1 0 + count es k) other c in omega (arith, is, more)))
  ]

  some_at : (es : List (T × ℕ)) (k : ℕ) → 1 ≤ count es k → (y : T) × (value_at es k ≡ Some y)
  some_at [] k is = absurd (omega (arith, is))
  some_at (e ∷ es) k is = let c = count-cons e es k in elim (cases_Bool (nat_eq k e.1)) [
    | inl same ↦ (e.0, rw same refl)
    | inr other ↦ (let later = some_at es k (let more : count (e ∷ es) k ≡ 0 + count es k = subst (λ b. count (e ∷ es) k ≡ cond b 1 0 + count es k) other c in omega (arith, is, more)) in (later.0, ap (λ b. cond b (Some e.0) (value_at es k)) other ∙ later.1))
  ]

  entry_at : (es : List (T × ℕ)) (k : ℕ) (y : T) → value_at es k ≡ Some y → (i : ℕ) × (slice_get es i ≡ Some (y, k))
  entry_at [] k y at = absurd cc
  entry_at (e ∷ es) k y at = elim (cases_Bool (nat_eq k e.1)) [
    | inl same ↦ (0, (let first : e.0 ≡ y = same_some e.0 y (subst (λ b. cond b (Some e.0) (value_at es k) ≡ Some y) same at) in let number : k ≡ e.1 = eqb-true k e.1 same in let is : Some (e.0, e.1) ≡ Some (y, k) = rw (first, number) refl in is))
    | inr other ↦ (let later = entry_at es k y (subst (λ b. cond b (Some e.0) (value_at es k) ≡ Some y) other at) in (suc later.0, later.1))
  ]

  at_entry : (es : List (T × ℕ)) (i k : ℕ) (y : T) → count es k ≤ 1 → slice_get es i ≡ Some (y, k) → value_at es k ≡ Some y
  at_entry [] i k y once at = absurd cc
  at_entry (e ∷ es) zero k y once at = let is : e ≡ (y, k) = same_some e (y, k) at in let number : e.1 ≡ k = ap (λ (v : T × ℕ). v.1) is in let first : e.0 ≡ y = ap (λ (v : T × ℕ). v.0) is in grind (arith, tests, number, first)
  at_entry (e ∷ es) (suc i) k y once at = let c = count-cons e es k in elim (cases_Bool (nat_eq k e.1)) [
    | inl same ↦ absurd (let more : count (e ∷ es) k ≡ 1 + count es k = subst (λ b. count (e ∷ es) k ≡ cond b 1 0 + count es k) same c in omega (arith, once, more, counted es i k y at))
    | inr other ↦ rw other (at_entry es i k y (omega (arith, c, once)) at)
  ]

  -- ---- what is drawn from a range
  drawn : (f : ℕ → Option T) (a n : ℕ) → ((k : ℕ) → k < n → (y : T) × (f (a + k) ≡ Some y)) → (j : ℕ) → j < n → slice_get (filter_map f (range_with_len a n)) j ≡ f (a + j)
  drawn f a zero some j less = absurd (omega (arith, less))
  drawn f a (suc n) some zero less =
      let first = some 0 (omega arith) in
      let here : f a ≡ Some first.0 = ap f (omega arith) ∙ first.1 in
      ap (λ o. slice_get (cons_option o (filter_map f (range_with_len (a + 1) n))) 0) here ∙ sym first.1
  drawn f a (suc n) some (suc j) less =
      let first = some 0 (omega arith) in
      let here : f a ≡ Some first.0 = ap f (omega arith) ∙ first.1 in
      ap (λ o. slice_get (cons_option o (filter_map f (range_with_len (a + 1) n))) (suc j)) here
      ∙ drawn f (a + 1) n (λ k within. let s = some (suc k) (omega (arith, within)) in (s.0, ap f (omega arith) ∙ s.1)) j (omega (arith, less))
      ∙ ap f (omega arith)

  length-drawn : (f : ℕ → Option T) (a n : ℕ) → ((k : ℕ) → k < n → (y : T) × (f (a + k) ≡ Some y)) → length (filter_map f (range_with_len a n)) ≡ n
  length-drawn f a zero some = refl
  length-drawn f a (suc n) some =
      let first = some 0 (omega arith) in
      let here : f a ≡ Some first.0 = ap f (omega arith) ∙ first.1 in
      ap (λ o. length (cons_option o (filter_map f (range_with_len (a + 1) n)))) here
      ∙ ap suc (length-drawn f (a + 1) n (λ k within. let s = some (suc k) (omega (arith, within)) in (s.0, ap f (omega arith) ∙ s.1)))

  module _ (es : List (T × ℕ)) (are : HaveNumbers es) where
    once : (k : ℕ) → count es k ≤ 1
    once k = let a = are k in grind (arith, tests, a)

    counted_below : (k : ℕ) → k < length es → 1 ≤ count es k
    counted_below k less = let a = are k in grind (arith, tests, a, less)

    not_past : (k : ℕ) → length es ≤ k → count es k ≡ 0
    not_past k past = let a = are k in grind (arith, tests, a, past)

    each : (k : ℕ) → k < length es → (y : T) × (value_at es (0 + k) ≡ Some y)
    each k less = some_at es (0 + k) (counted_below (0 + k) (omega (arith, less)))

    -- as many values as entries
    pub length-by_number : length (by_number es) ≡ length es
    length-by_number = length-drawn (value_at es) 0 (length es) each

    listed : (k : ℕ) → slice_get (by_number es) k ≡ value_at es k
    listed k = elim (cases_Bool (nat_lt k (length es))) [
      | inl t ↦ drawn (value_at es) 0 (length es) each k (ltb-true k (length es) t) ∙ ap (value_at es) (omega arith)
      | inr f ↦ (let past : length es ≤ k = ltb-false k (length es) f in slice_get_past (by_number es) k (omega (arith, length-by_number, past)) ∙ sym (none_at es k (not_past k past)))
    ]

  -- ---- a value is found by its place
  module _ (E : T → T → Bool) (R : T → T → Ordering) (o : IsTotalOrder R) (ties : (x y : T) → E x y ≡ is_eq (R x y)) (m : BTreeMap T ℕ) (are : HaveNumbers m.entries) (ordered : IsOrdered R m) (q : T) where
    found_by : (j : ℕ) (z : T) → slice_get (by_number m.entries) j ≡ Some z → E q z ≡ true → get_by (R q) m ≡ Some j
    found_by j z there same =
        let entry = entry_at m.entries j z (sym (listed m.entries are j) ∙ there) in
        let equal : R q z ≡ Equal = (Equal-is (R q z)).0 (sym (ties q z) ∙ same) in
        let here : lookup (is_at (R z)) m.entries ≡ Some j = lookup_from_place (eq_by_cmp_equiv o) m.entries entry.0 z j (IsDistinct-from_sorted R (keys_of m.entries) ordered) entry.1 in
        ap (λ (test : T → Bool). lookup test m.entries) (λ i y. is_eq (o.congr q z y equal i)) ∙ here

    at_found : (k : ℕ) → get_by (R q) m ≡ Some k → (x : T) × IsFirstAt (E q) (by_number m.entries) k x
    at_found k is =
        let entry = place_from_lookup (is_at (R q)) m.entries k is in
        let at : slice_get (by_number m.entries) k ≡ Some entry.1 = listed m.entries are k ∙ at_entry m.entries entry.0 k entry.1 (once m.entries are k) entry.2 in (
          entry.1,
          (
            at,
            ties q entry.1 ∙ entry.3,
            λ j y less there. elim (cases_Bool (E q y)) [
              | inl t ↦ absurd (let same : k ≡ j = same_some k j (sym is ∙ found_by j y there t) in omega (arith, less, same))
              | inr f ↦ f
            ],
          ),
        )

    by_answer : (r : Option ℕ) → get_by (R q) m ≡ r → r ≡ position (E q) (by_number m.entries)
    by_answer None is = sym (position_none (E q) (by_number m.entries) (λ j y there. elim (cases_Bool (E q y)) [
      | inl t ↦ absurd (let some : None ≡ Some j = sym is ∙ found_by j y there t in let z : ⊥ = cc in z)
      | inr f ↦ f
    ]))
    by_answer (Some k) is = let first = at_found k is in sym (position_is (E q) (by_number m.entries) k first.0 first.1)

    -- the map has a value's place
    pub place_by : get_by (R q) m ≡ position (E q) (by_number m.entries)
    place_by = by_answer (get_by (R q) m) refl

  -- ---- one entry more
  inserted : (R : T → T → Ordering) (es : List (T × ℕ)) (v : T) (n : ℕ) → lookup (is_at (R v)) es ≡ None → value_at es n ≡ None → (k : ℕ) → value_at (insert_entry R es v n) k ≡ cond (nat_eq k n) (Some v) (value_at es k)
  inserted R [] v n new free k = refl
  inserted R (e ∷ es) v n new free k = by (R v e.0) new (inserted R es v n)
    where
      by : (r : Ordering) → cond (is_eq r) (Some e.1) (lookup (is_at (R v)) es) ≡ None → (lookup (is_at (R v)) es ≡ None → value_at es n ≡ None → (j : ℕ) → value_at (insert_entry R es v n) j ≡ cond (nat_eq j n) (Some v) (value_at es j))
          → value_at (match_ordering r ((v, n) ∷ e ∷ es) ((e.0, n) ∷ es) (e ∷ insert_entry R es v n)) k ≡ cond (nat_eq k n) (Some v) (value_at (e ∷ es) k)
      by Less none later = refl
      by Equal none later = absurd (let z : ⊥ = cc in z)
      by Greater none later = elim (cases_Bool (nat_eq n e.1)) [
        | inl t ↦ absurd (let taken : Some e.0 ≡ None = subst (λ b. cond b (Some e.0) (value_at es n) ≡ None) t free in let z : ⊥ = cc in z)
        | inr f ↦ (let rest = later none (subst (λ b. cond b (Some e.0) (value_at es n) ≡ None) f free) k in grind (arith, tests, f, rest))
      ]

  module _ (E : T → T → Bool) (R : T → T → Ordering) (o : IsTotalOrder R) (ties : (x y : T) → E x y ≡ is_eq (R x y)) (m m' : BTreeMap T ℕ) (are : HaveNumbers m.entries) (ordered : IsOrdered R m) (v : T)
      (new : position (E v) (by_number m.entries) ≡ None)
      (number : ℕ)
      (end : number ≡ length m.entries)
      (is : m'.entries ≡ insert_entry R m.entries v number)
      (longer : length m'.entries ≡ length m.entries + cond (is_some (get_by (R v) m)) 0 1)
    where
      absent : get_by (R v) m ≡ None
      absent = place_by E R o ties m are ordered v ∙ new

      put : m'.entries ≡ insert_entry R m.entries v (length m.entries)
      put = is ∙ ap (insert_entry R m.entries v) end

      by_one : length m'.entries ≡ length m.entries + 1
      by_one = longer ∙ ap (λ w. length m.entries + cond (is_some w) 0 1) absent

      count_more : (k : ℕ) → count m'.entries k ≡ count m.entries k + cond (nat_eq k (length m.entries)) 1 0
      count_more k =
          let weight : ℕ → ℕ = λ n. cond (nat_eq k n) 1 0 in
          let sum = sum_by-insert_entry weight o m.entries v (length m.entries) ordered in
          let none : unwrap_or (option_map weight (get_by (R v) m)) 0 ≡ 0 = ap (λ w. unwrap_or (option_map weight w) 0) absent in
          ap (λ es. count es k) put ∙ omega (arith, sum, none)

      pub more_numbered : HaveNumbers m'.entries
      more_numbered k = let sum = count_more k in let old = are k in grind (arith, tests, sum, old, by_one)

      pub one_more : by_number m'.entries ≡ by_number m.entries ++ v ∷ []
      one_more = same_places (by_number m'.entries) (by_number m.entries ++ v ∷ []) (λ k.
          listed m'.entries more_numbered k
          ∙ ap (λ es. value_at es k) put
          ∙ inserted R m.entries v (length m.entries) absent (none_at m.entries (length m.entries) (not_past m.entries are (length m.entries) (omega arith))) k
          ∙ (λ i. cond (nat_eq k (sym (length-by_number m.entries are) i)) (Some v) (sym (listed m.entries are k) i))
          ∙ sym (at_pushed (by_number m.entries) v k))

  -- ---- the last entry less
  removed : (test : T → Bool) (es : List (T × ℕ)) (n : ℕ) → lookup test es ≡ Some n → count es n ≤ 1 → (k : ℕ) → value_at (remove_entry test es) k ≡ cond (nat_eq k n) None (value_at es k)
  removed test [] n is single k = absurd (let z : ⊥ = cc in z)
  removed test (e ∷ es) n is single k = by (test e.0) is (removed test es n)
    where
      c : count (e ∷ es) n ≡ cond (nat_eq n e.1) 1 0 + count es n
      c = count-cons e es n

      by : (b : Bool) → cond b (Some e.1) (lookup test es) ≡ Some n → (lookup test es ≡ Some n → count es n ≤ 1 → (j : ℕ) → value_at (remove_entry test es) j ≡ cond (nat_eq j n) None (value_at es j))
          → value_at (cond b es (e ∷ remove_entry test es)) k ≡ cond (nat_eq k n) None (value_at (e ∷ es) k)
      by true found later =
          let number : e.1 ≡ n = same_some e.1 n found in
          let gone : value_at es n ≡ None = none_at es n (grind (arith, tests, c, number, single)) in
          elim (cases_Bool (nat_eq k n)) [
            | inl t ↦ (let same : k ≡ n = eqb-true k n t in rw (t, same) gone)
            | inr f ↦ grind (arith, tests, f, number)
          ]
      by false found later =
          let entry = place_from_lookup test es n found in
          let there : 1 ≤ count es n = counted es entry.0 n entry.1 entry.2 in
          let other : nat_eq n e.1 ≡ false = grind (arith, tests, c, there, single) in
          let rest = later found (omega (arith, c, single)) k in
          grind (arith, tests, other, rest)

  module _ (E : T → T → Bool) (R : T → T → Ordering) (o : IsTotalOrder R) (ties : (x y : T) → E x y ≡ is_eq (R x y)) (m m' : BTreeMap T ℕ) (are : HaveNumbers m.entries) (ordered : IsOrdered R m) (q : T)
      (last : IsLast (E q) (by_number m.entries))
      (is : m'.entries ≡ remove_entry (is_at (R q)) m.entries)
      (shorter : length m'.entries + cond (is_some (get_by (R q) m)) 1 0 ≡ length m.entries)
    where
      at_last : slice_get (by_number m.entries) (length last.0) ≡ Some last.1
      at_last = ap (λ xs. slice_get xs (length last.0)) last.2 ∙ at_pushed last.0 last.1 (length last.0) ∙ grind (arith, tests)

      last_found : get_by (R q) m ≡ Some (length last.0)
      last_found = found_by E R o ties m are ordered q (length last.0) last.1 at_last last.3

      one_longer : length m.entries ≡ length last.0 + 1
      one_longer = sym (length-by_number m.entries are) ∙ ap length last.2 ∙ length-append last.0 (last.1 ∷ [])

      as_long : length m'.entries ≡ length last.0
      as_long = let less : length m'.entries + 1 ≡ length m.entries = subst (λ w. length m'.entries + cond (is_some w) 1 0 ≡ length m.entries) last_found shorter in omega (arith, less, one_longer)

      count_less : (k : ℕ) → count m'.entries k + cond (nat_eq k (length last.0)) 1 0 ≡ count m.entries k
      count_less k =
          let weight : ℕ → ℕ = λ v. cond (nat_eq k v) 1 0 in
          let sum = sum_by-remove_entry weight (is_at (R q)) m.entries in
          let one : unwrap_or (option_map weight (get_by (R q) m)) 0 ≡ cond (nat_eq k (length last.0)) 1 0 = ap (λ w. unwrap_or (option_map weight w) 0) last_found in
          let less : count m'.entries k ≡ count (remove_entry (is_at (R q)) m.entries) k = ap (λ es. count es k) is in
          omega (arith, sum, one, less)

      pub less_numbered : HaveNumbers m'.entries
      less_numbered k = let sum = count_less k in let old = are k in grind (arith, tests, sum, old, as_long, one_longer)

      but_last : (k : ℕ) → slice_get (by_number m'.entries) k ≡ cond (nat_eq k (length last.0)) None (slice_get (by_number m.entries) k)
      but_last k =
          listed m'.entries less_numbered k
          ∙ ap (λ es. value_at es k) is
          ∙ removed (is_at (R q)) m.entries (length last.0) last_found (once m.entries are (length last.0)) k
          ∙ ap (λ w. cond (nat_eq k (length last.0)) None w) (sym (listed m.entries are k))

      one_less : by_number m'.entries ≡ last.0
      one_less = same_places (by_number m'.entries) last.0 (λ k. elim (cases_Bool (nat_eq k (length last.0))) [
        | inl t ↦ but_last k ∙ ap (λ b. cond b None (slice_get (by_number m.entries) k)) t ∙ sym (slice_get_past last.0 k (let same : k ≡ length last.0 = eqb-true k (length last.0) t in omega (arith, same)))
        | inr f ↦ (
            but_last k
            ∙ ap (λ b. cond b None (slice_get (by_number m.entries) k)) f
            ∙ ap (λ xs. slice_get xs k) last.2
            ∙ at_pushed last.0 last.1 k
            ∙ ap (λ b. cond b (Some last.1) (slice_get last.0 k)) f)
      ])

      pub last_taken : by_number m'.entries ≡ take (length (by_number m.entries) - 1) (by_number m.entries)
      last_taken = one_less ∙ rw (last.2) (grind (arith, common_steps))
