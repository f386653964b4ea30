-- The readings of a problem: how they are made, and how one more is put into its place.
use Rattle.std.proofs.Common.{◌≡◌, ◌<◌, ◌≤◌, ◌+◌, ◌-◌, ◌⊎◌, ℕ, suc, zero, List, [], ◌∷◌, length, map, get_or, Bool, true, ◌&&◌, nat_eq, Ordering, Less, Equal, Greater, AllPairs, Contains, inl, inr, refl, sym, ◌∙◌, ap, subst, arith}
use Rattle.std.specs.List.{insert, dedup}
use Rattle.std.specs.List.Sorted.{IsSorted, IsPermutation, IsPartitionPoint, IsNonDecreasingBy}
use Rattle.std.specs.List.Retain.{IsFiltered, DiffersFromLast}
use Rattle.std.specs.Ordering.{nat_cmp, ordering_then, ordering_index, eq_by_cmp, is_eq}
use Rattle.std.specs.Cmp.{IsTotalOrder, IsEquivalence, both_tied}
use Rattle.std.proofs.lemmas.Cmp.{ranked, then_total, on_total, nat_cmp_total, nat_eq_equiv, on_equiv, and_equiv}
use Rattle.std.proofs.lemmas.Bool.{cases_lt}
use Rattle.std.proofs.lemmas.Bool.Decides.{nat_tests}
use Rattle.std.proofs.lemmas.List.Sorted.{Contains-permutation, IsPermutation-sym}
use Rattle.std.proofs.lemmas.List.Edits.{length-insert, get_or-insert_below, get_or-insert_at, get_or-insert_above}
use Rattle.std.proofs.lemmas.List.Elements.{Contains-append_cases, Contains-append_left, Contains-append_right}
use Rattle.std.proofs.lemmas.List.Filters.{dedup_is}
use Rattle.std.proofs.lemmas.List.Kept.{Contains-dedup, Contains-from_dedup, IsStrictlySortedBy-dedup}
use Rattle.std.proofs.lemmas.Map.Keys.{Less-from_sorted}
use Rattle.problem_model.specs.declared.items.Clock.{Clock}
use Rattle.problem_model.specs.declared.items.Event.{Event}
use Rattle.problem_model.specs.declared.items.Follow.{Follow}
use Rattle.problem_model.specs.declared.items.Message.{Message}
use Rattle.problem_model.specs.Problem.{ProblemLists}
use Rattle.problem_model.specs.Bounds.{IsReading}
use Rattle.problem_model.specs.ChainNumbers.{with_follow}
use Rattle.problem_model.specs.Nodes.{Reading, IsEarlierReading, AreReadings}
use Rattle.problem.specs.Growing.{reading_of, AddsReading, with_clock, with_event, with_message}
use Rattle.problem.specs.Listing.{reading_order}
use Rattle.problem.proofs.Places.{pair_same}

abbrev pub reading_eq : Reading → Reading → Bool
reading_eq a b = nat_eq a.0 b.0 && nat_eq a.1 b.1

less_before : (a b c d : ℕ) → ordering_then (nat_cmp a c) (nat_cmp b d) ≡ Less → (a < c) ⊎ ((a ≡ c) × (b < d))
less_before a b c d e =
    elim (cases_lt a c) [
      | inl below ↦ inl below
      | inr above ↦
          elim (cases_lt c a) [
            | inl over ↦ absurd (let greater : nat_cmp a c ≡ Greater = grind (arith, nat_tests) in let h = rw greater at e in cc)
            | inr under ↦
                let same : a ≡ c = omega (arith, above, under) in
                let equal : nat_cmp a c ≡ Equal = grind (arith, nat_tests) in
                let less : nat_cmp b d ≡ Less = rw equal at e in
                inr (same, ranked b d Less (sym less))
          ]
    ]

pub before_of_less : (a b : Reading) → reading_order a b ≡ Less → IsEarlierReading a b
before_of_less a b e = less_before a.0 a.1 b.0 b.1 e

greater_after : (a b c d : ℕ) → ordering_then (nat_cmp a c) (nat_cmp b d) ≡ Greater → (c < a) ⊎ ((c ≡ a) × (d < b))
greater_after a b c d e =
    elim (cases_lt c a) [
      | inl above ↦ inl above
      | inr below ↦
          elim (cases_lt a c) [
            | inl under ↦ absurd (let less : nat_cmp a c ≡ Less = grind (arith, nat_tests) in let h = rw less at e in cc)
            | inr over ↦
                let same : a ≡ c = omega (arith, below, over) in
                let equal : nat_cmp a c ≡ Equal = grind (arith, nat_tests) in
                let greater : nat_cmp b d ≡ Greater = rw equal at e in
                inr (sym same, ranked b d Greater (sym greater))
          ]
    ]

pub before_of_greater : (a b : Reading) → reading_order a b ≡ Greater → IsEarlierReading b a
before_of_greater a b e = greater_after a.0 a.1 b.0 b.1 e

-- what cmp answers where one comes before the other
less_of_before : (a b : Reading) → IsEarlierReading a b → reading_order a b ≡ Less
less_of_before a b (inl below) = let less : nat_cmp a.0 b.0 ≡ Less = grind (arith, nat_tests) in rw less refl
less_of_before a b (inr same) =
    let here = same.0 in
    let below = same.1 in
    let equal : nat_cmp a.0 b.0 ≡ Equal = grind (arith, nat_tests) in
    let less : nat_cmp a.1 b.1 ≡ Less = grind (arith, nat_tests) in
    rw (equal, less) refl

pub before_trans : (a b c : Reading) → IsEarlierReading a b → IsEarlierReading b c → IsEarlierReading a c
before_trans a b c (inl x) (inl y) = inl (omega (arith, x, y))
before_trans a b c (inl x) (inr y) = inl (omega (arith, x, y.0))
before_trans a b c (inr x) (inl y) = inl (omega (arith, x.0, y))
before_trans a b c (inr x) (inr y) = inr (omega (arith, x.0, y.0), omega (arith, x.1, y.1))

equal_both : (a b c d : ℕ) → ordering_then (nat_cmp a c) (nat_cmp b d) ≡ Equal → (a ≡ c) × (b ≡ d)
equal_both a b c d e =
    elim (cases_lt a c) [
      | inl below ↦ absurd (let less : nat_cmp a c ≡ Less = grind (arith, nat_tests) in let h = rw less at e in cc)
      | inr above ↦
          elim (cases_lt c a) [
            | inl over ↦ absurd (let greater : nat_cmp a c ≡ Greater = grind (arith, nat_tests) in let h = rw greater at e in cc)
            | inr under ↦
                let same : a ≡ c = omega (arith, above, under) in
                let equal : nat_cmp a c ≡ Equal = grind (arith, nat_tests) in
                let tied : nat_cmp b d ≡ Equal = rw equal at e in
                (same, ranked b d Equal (sym tied))
          ]
    ]

pub before_of_equal : (a b : Reading) → reading_order a b ≡ Equal → a ≡ b
before_of_equal a b e = let both = equal_both a.0 a.1 b.0 b.1 e in rw (both.0, both.1) refl

-- the answers rise along readings in their order
rises : (a b r : Reading) → IsEarlierReading a b → (o : Ordering) → reading_order b r ≡ o → ordering_index (reading_order a r) ≤ ordering_index o
rises a b r before Less e = rw (less_of_before a r (before_trans a b r before (before_of_less b r e))) (omega arith)
rises a b r before Equal e = let same = before_of_equal b r e in rw (less_of_before a r (subst (IsEarlierReading a) same before)) (omega arith)
rises a b r before Greater e = most (reading_order a r)
  where
    most : (o : Ordering) → ordering_index o ≤ 2
    most Less = omega arith
    most Equal = omega arith
    most Greater = omega arith

pub answers_rise : (xs : List Reading) (r : Reading) → AllPairs IsEarlierReading xs → IsNonDecreasingBy (λ y. ordering_index (reading_order y r)) xs
answers_rise xs r rising = λ i j d le inside.
    elim (cases_lt i j) [
      | inl below ↦ rises (get_or xs i d) (get_or xs j d) r (rising i j d below inside) (reading_order (get_or xs j d) r) refl
      | inr above ↦ let same : i ≡ j = omega (arith, le, above) in rw same (omega arith)
    ]

-- ---- one more at its place
module _ (xs : List Reading) (at : ℕ) (r : Reading) (within : at ≤ length xs) where
  here : (d : Reading) → get_or (insert xs at r) at d ≡ r
  here d = get_or-insert_at xs at r d within

  below : (k : ℕ) (d : Reading) → k < at → get_or (insert xs at r) k d ≡ get_or xs k d
  below k d lt = get_or-insert_below xs at r d k lt within

  above : (k m : ℕ) (d : Reading) → k ≡ m + 1 → at ≤ m → get_or (insert xs at r) k d ≡ get_or xs m d
  above k m d e le = rw e (get_or-insert_above xs at r d m le within)

  pub inserted_rising : ((k : ℕ) (d : Reading) → k < at → IsEarlierReading (get_or xs k d) r) → ((k : ℕ) (d : Reading) → at ≤ k → k < length xs → IsEarlierReading r (get_or xs k d)) →
      AllPairs IsEarlierReading xs → AllPairs IsEarlierReading (insert xs at r)
  inserted_rising low high rising = λ i j d lt inside.
      let long = length-insert xs at r within in
      elim (cases_lt j at) [
        | inl j_low ↦ rw (below i d (omega (arith, lt, j_low)), below j d j_low) (rising i j d lt (omega (arith, j_low, within)))
        | inr j_not ↦
            elim (cases_lt at j) [
              | inl j_high ↦
                  let j_at = above j (j - 1) d (omega (arith, j_high)) (omega (arith, j_high)) in
                  elim (cases_lt i at) [
                    | inl i_low ↦ rw (below i d i_low, j_at) (rising i (j - 1) d (omega (arith, i_low, j_high)) (omega (arith, inside, long, j_high)))
                    | inr i_not ↦
                        elim (cases_lt at i) [
                          | inl i_high ↦ rw (above i (i - 1) d (omega (arith, i_high)) (omega (arith, i_high)), j_at) (rising (i - 1) (j - 1) d (omega (arith, lt, i_high)) (omega (arith, inside, long, j_high)))
                          | inr i_is ↦
                              let same : i ≡ at = omega (arith, i_not, i_is) in
                              rw (same, here d, j_at) (high (j - 1) d (omega (arith, j_high)) (omega (arith, inside, long, j_high)))
                        ]
                  ]
              | inr j_is ↦
                  let same : j ≡ at = omega (arith, j_not, j_is) in
                  rw (below i d (omega (arith, lt, same)), same, here d) (low i d (omega (arith, lt, same)))
            ]
      ]

  pub inserted_adds : AddsReading xs (insert xs at r) r
  inserted_adds = record {
    kept = λ x c.
        let lt = c.1 in
        let long = length-insert xs at r within in
        elim (cases_lt c.0 at) [
          | inl low ↦ (c.0, omega (arith, lt, long), below c.0 x low ∙ c.2)
          | inr not ↦ (c.0 + 1, omega (arith, lt, long), above (c.0 + 1) c.0 x refl not ∙ c.2)
        ];
    added = (at, (let long = length-insert xs at r within in omega (arith, long, within)), here r);
    only = λ x c.
        let lt = c.1 in
        let long = length-insert xs at r within in
        elim (cases_lt c.0 at) [
          | inl low ↦ inl (c.0, omega (arith, low, within), sym (below c.0 x low) ∙ c.2)
          | inr not ↦
              elim (cases_lt at c.0) [
                | inl high ↦ inl (c.0 - 1, omega (arith, lt, long, high), sym (above c.0 (c.0 - 1) x (omega (arith, high)) (omega (arith, high))) ∙ c.2)
                | inr is ↦ let same : c.0 ≡ at = omega (arith, not, is) in inr (sym c.2 ∙ ap (λ (k : ℕ). get_or (insert xs at r) k x) same ∙ here x)
              ]
        ];
  }

-- ---- an event more
stamp_in : (p : ProblemLists) (e : Event) (clock stamp : ℕ) → IsReading p clock stamp → IsReading (with_event p e) clock stamp
stamp_in p e clock stamp is = (is.0, Contains-append_left p.events (e ∷ []) is.0 is.1, is.2, is.3)

alone : (e x : Event) → Contains (e ∷ []) x → x ≡ e
alone e x (zero, inside, is) = sym is
alone e x (suc k, inside, is) = absurd (omega (arith, inside))

pub readings_more : (p : ProblemLists) (e : Event) (old new : List Reading) → AreReadings p old → AddsReading old new (reading_of e) → AllPairs IsEarlierReading new → AreReadings (with_event p e) new
readings_more p e old new are adds rising = record {
  each = λ clock stamp c.
      elim (adds.only (clock, stamp) c) [
        | inl kept ↦ stamp_in p e clock stamp (are.each clock stamp kept)
        | inr is ↦ (e, Contains-append_right p.events (e ∷ []) e (0, omega arith, refl), sym (ap (λ (r : Reading). r.0) is), sym (ap (λ (r : Reading). r.1) is))
      ];
  every = λ clock stamp is.
      elim (Contains-append_cases p.events (e ∷ []) is.0 is.1) [
        | inl kept ↦ adds.kept (clock, stamp) (are.every clock stamp (is.0, kept, is.2, is.3))
        | inr last ↦
            let same : is.0 ≡ e = alone e is.0 last in
            let reads : reading_of e ≡ (clock, stamp) = rw (← same, is.2, is.3) refl in
            subst (Contains new) reads adds.added
      ];
  rising = rising;
}

-- ---- all readings at once
from_map : (es : List Event) (r : Reading) → Contains (map reading_of es) r → (e : Event) × Contains es e × (reading_of e ≡ r)
from_map [] r c = absurd (let inside = c.1 in omega (arith, inside))
from_map (e ∷ es) r (zero, inside, is) = (e, (0, omega arith, refl), is)
from_map (e ∷ es) r (suc k, inside, is) = let s = from_map es r (k, omega (arith, inside), is) in (s.0, (suc s.1.0, (let lt = s.1.1 in omega (arith, lt)), s.1.2), s.2)

into_map : (es : List Event) (e : Event) → Contains es e → Contains (map reading_of es) (reading_of e)
into_map [] e c = absurd (let inside = c.1 in omega (arith, inside))
into_map (x ∷ es) e (zero, inside, is) = (0, omega arith, ap reading_of is)
into_map (x ∷ es) e (suc k, inside, is) = let s = into_map es e (k, omega (arith, inside), is) in (suc s.0, (let lt = s.1 in omega (arith, lt)), s.2)

cmp_total : IsTotalOrder reading_order
cmp_total = then_total (on_total (λ (t : Reading). t.0) nat_cmp_total) (on_total (λ (t : Reading). t.1) nat_cmp_total)

eq_equiv : IsEquivalence reading_eq
eq_equiv = and_equiv (on_equiv (λ (t : Reading). t.0) nat_eq_equiv) (on_equiv (λ (t : Reading). t.1) nat_eq_equiv)

eq_same : (x y : Reading) → reading_eq x y ≡ true → x ≡ y
eq_same x y e = pair_same x.0 x.1 y.0 y.1 e

eq_tied : (a b : ℕ) → nat_eq a b ≡ is_eq (nat_cmp a b)
eq_tied a b = grind (arith, nat_tests)

ties : (x y : Reading) → reading_eq x y ≡ eq_by_cmp reading_order x y
ties x y = both_tied (nat_eq x.0 y.0) (nat_eq x.1 y.1) (nat_cmp x.0 y.0) (nat_cmp x.1 y.1) (eq_tied x.0 y.0) (eq_tied x.1 y.1)

pub readings_made : (p : ProblemLists) (xs ys zs : List Reading) → xs ≡ map reading_of p.events → IsPermutation xs ys → IsSorted reading_order ys → IsFiltered (DiffersFromLast reading_eq) [] ys zs → AreReadings p zs
readings_made p xs ys zs all shuffled sorted filtered =
    let is : zs ≡ dedup reading_eq ys = dedup_is reading_eq ys zs filtered in
    rw is (record {
      each = λ clock stamp c.
          let in_ys = Contains-from_dedup reading_eq ys (clock, stamp) c in
          let in_xs = Contains-permutation ys xs (clock, stamp) (IsPermutation-sym xs ys shuffled) in_ys in
          let e = from_map p.events (clock, stamp) (subst (λ (rs : List Reading). Contains rs (clock, stamp)) all in_xs) in
          (e.0, e.1, ap (λ (r : Reading). r.0) e.2, ap (λ (r : Reading). r.1) e.2);
      every = λ clock stamp r.
          let reads : reading_of r.0 ≡ (clock, stamp) = rw (r.2, r.3) refl in
          let in_xs = subst (λ (rs : List Reading). Contains rs (clock, stamp)) (sym all) (subst (Contains (map reading_of p.events)) reads (into_map p.events r.0 r.1)) in
          Contains-dedup eq_equiv eq_same ys (clock, stamp) (Contains-permutation xs ys (clock, stamp) shuffled in_xs);
      rising = λ i j d lt inside. before_of_less _ _ (Less-from_sorted reading_order (dedup reading_eq ys) i j d (IsStrictlySortedBy-dedup cmp_total ties ys sorted) lt inside);
    })

-- ---- where a search ended
pub put_rising : (xs : List Reading) (at : ℕ) (r : Reading) → at ≤ length xs → AllPairs IsEarlierReading xs →
    (IsNonDecreasingBy (λ y. ordering_index (reading_order y r)) xs → IsPartitionPoint (λ y. reading_order y r ≡ Less) (λ y. reading_order y r ≡ Greater) xs at) → AllPairs IsEarlierReading (insert xs at r)
put_rising xs at r within rising parted =
    let point = parted (answers_rise xs r rising) in
    inserted_rising xs at r within (λ k d lt. before_of_less _ _ (point.0 k d (omega arith) lt)) (λ k d le lt. before_of_greater _ _ (point.1 k d le lt)) rising

pub put_adds : (xs : List Reading) (at : ℕ) (r : Reading) → at ≤ length xs → AddsReading xs (insert xs at r) r
put_adds xs at r within = inserted_adds xs at r within

-- ---- clocks, follows and messages have no readings
pub readings_clock : (p : ProblemLists) (c : Clock) (rs : List Reading) → AreReadings p rs → AreReadings (with_clock p c) rs
readings_clock p c rs are = record { each = are.each; every = are.every; rising = are.rising }

pub readings_follow : (p : ProblemLists) (f : Follow) (rs : List Reading) → AreReadings p rs → AreReadings (with_follow p f) rs
readings_follow p f rs are = record { each = are.each; every = are.every; rising = are.rising }

pub readings_message : (p : ProblemLists) (m : Message) (rs : List Reading) → AreReadings p rs → AreReadings (with_message p m) rs
readings_message p m rs are = record { each = are.each; every = are.every; rising = are.rising }
