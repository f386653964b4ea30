-- The readings of events are a list in their order.
use Rattle.std.proofs.Common.{◌≡◌, ◌⊎◌, ℕ, zero, suc, List, [], ◌∷◌, refl, sym, ◌∙◌, ap, subst, arith, inl, inr}
use Rattle.std.specs.Prelude.{AllPairs, Contains}
use Rattle.std.proofs.lemmas.Bool.{cases_eq, cases_lt}
use Rattle.std.proofs.lemmas.List.Elements.{All-contains_itself}
use Rattle.std.proofs.lemmas.List.Kept.{AllPairs-cons}
use Rattle.problem_model.specs.declared.items.Event.{Event}
use Rattle.problem_model.specs.Problem.{ProblemLists}
use Rattle.problem_model.specs.Nodes.{Reading, IsEarlierReading, AreReadings}

-- ---- elements of lists
-- the first stands in the list
here : (x : Reading) (xs : List Reading) → Contains (x ∷ xs) x
here x xs = (0, omega arith, refl)

-- and so do those behind it
there : {X : Type 0} (x y : X) (xs : List X) → Contains xs y → Contains (x ∷ xs) y
there x y xs (k, inside, is) = (suc k, omega (arith, inside), is)

-- nothing else does
head_or_tail : {X : Type 0} (x y : X) (xs : List X) → Contains (x ∷ xs) y → (x ≡ y) ⊎ Contains xs y
head_or_tail x y xs (zero, inside, is) = inl is
head_or_tail x y xs (suc k, inside, is) = inr (k, omega (arith, inside), is)

-- nothing stands in the empty list
none_in : {X : Type 0} (x : X) → Contains [] x → ⊥
none_in x (k, inside, is) = omega (arith, inside)

-- ---- the order of readings
-- a clock and a stamp as a reading
abbrev reading_at : ℕ → ℕ → Reading
reading_at clock stamp = (clock, stamp)

-- readings of one clock and one stamp are one
same_reading : (r x : Reading) → r.0 ≡ x.0 → r.1 ≡ x.1 → r ≡ x
same_reading r x clock stamp = ap (λ (c : ℕ). reading_at c r.1) clock ∙ ap (λ (s : ℕ). reading_at x.0 s) stamp

-- of two readings one comes before the other, or they are one
before_or_not : (r x : Reading) → IsEarlierReading r x ⊎ ((r ≡ x) ⊎ IsEarlierReading x r)
before_or_not r x = elim (cases_lt r.0 x.0) [
  | inl less ↦ inl (inl less)
  | inr more ↦ elim (cases_eq r.0 x.0) [
    | inr other ↦ inr (inr (inl (omega (arith, more, other))))
    | inl same ↦ elim (cases_lt r.1 x.1) [
      | inl less ↦ inl (inr (same, less))
      | inr more' ↦ elim (cases_eq r.1 x.1) [
        | inl same' ↦ inr (inl (same_reading r x same same'))
        | inr other ↦ inr (inr (inr (sym same, omega (arith, more', other))))
      ]
    ]
  ]
]

-- what comes before one comes before all that come after it
before_trans : (a b c : Reading) → IsEarlierReading a b → IsEarlierReading b c → IsEarlierReading a c
before_trans a b c (inl x) (inl y) = inl (omega (arith, x, y))
before_trans a b c (inl x) (inr y) = inl (omega (arith, x, y.0))
before_trans a b c (inr x) (inl y) = inl (omega (arith, x.0, y))
before_trans a b c (inr x) (inr y) = inr (omega (arith, x.0, y.0), omega (arith, x.1, y.1))

-- ---- one reading more
-- a list in order that has this reading and those of another list, and no other
record IsPut (r : Reading) (xs ys : List Reading) : Type 0 where
  rising : AllPairs IsEarlierReading ys
  only : (q : Reading) → Contains ys q → (r ≡ q) ⊎ Contains xs q
  new : Contains ys r
  kept : (q : Reading) → Contains xs q → Contains ys q

-- what is left of a list in order is in order
rising_tail : (x : Reading) (xs : List Reading) → AllPairs IsEarlierReading (x ∷ xs) → AllPairs IsEarlierReading xs
rising_tail x xs rising i j d less inside = rising (suc i) (suc j) d (omega (arith, less)) (omega (arith, inside))

-- the first of it comes before each other
rising_head : (x q : Reading) (xs : List Reading) → AllPairs IsEarlierReading (x ∷ xs) → Contains xs q → IsEarlierReading x q
rising_head x q xs rising (k, inside, is) = subst (IsEarlierReading x) is (rising 0 (suc k) q (omega arith) (omega (arith, inside)))

-- in front of a list that it comes before
put_first : (r x : Reading) (xs : List Reading) → AllPairs IsEarlierReading (x ∷ xs) → IsEarlierReading r x → IsPut r (x ∷ xs) (r ∷ x ∷ xs)
put_first r x xs rising before = record {
  rising = AllPairs-cons IsEarlierReading r (x ∷ xs) (λ k d inside. after _ (All-contains_itself (x ∷ xs) k d inside)) rising;
  only = λ q is. head_or_tail r q (x ∷ xs) is;
  new = here r (x ∷ xs);
  kept = λ q is. there r q (x ∷ xs) is;
}
  where
    after : (q : Reading) → Contains (x ∷ xs) q → IsEarlierReading r q
    after q is = elim (head_or_tail x q xs is) [
      | inl same ↦ subst (IsEarlierReading r) same before
      | inr more ↦ before_trans r x q before (rising_head x q xs rising more)
    ]

-- behind the first of a list
put_behind : (r x : Reading) (xs ys : List Reading) → AllPairs IsEarlierReading (x ∷ xs) → IsEarlierReading x r → IsPut r xs ys → IsPut r (x ∷ xs) (x ∷ ys)
put_behind r x xs ys rising before is = record {
  rising = AllPairs-cons IsEarlierReading x ys (λ k d inside. after _ (is.only _ (All-contains_itself ys k d inside))) is.rising;
  only = λ q among. elim (head_or_tail x q ys among) [
    | inl same ↦ inr (subst (Contains (x ∷ xs)) same (here x xs))
    | inr more ↦ elim (is.only q more) [ inl new ↦ inl new | inr old ↦ inr (there x q xs old) ]
  ];
  new = there x r ys is.new;
  kept = λ q among. elim (head_or_tail x q xs among) [
    | inl same ↦ subst (Contains (x ∷ ys)) same (here x ys)
    | inr more ↦ there x q ys (is.kept q more)
  ];
}
  where
    after : (q : Reading) → (r ≡ q) ⊎ Contains xs q → IsEarlierReading x q
    after q (inl same) = subst (IsEarlierReading x) same before
    after q (inr old) = rising_head x q xs rising old

-- a reading can be put into any list in order
put : (r : Reading) (xs : List Reading) → AllPairs IsEarlierReading xs → (ys : List Reading) × IsPut r xs ys
put r [] rising = (
  r ∷ [],
  record {
    rising = λ i j d less inside. absurd (omega (arith, less, inside));
    only = λ q is. head_or_tail r q [] is;
    new = here r [];
    kept = λ q is. absurd (none_in q is);
  },
)
put r (x ∷ xs) rising = elim (before_or_not r x) [
  | inl before ↦ (r ∷ x ∷ xs, put_first r x xs rising before)
  | inr (inl same) ↦ (x ∷ xs, record { rising = rising; only = λ q is. inr is; new = subst (Contains (x ∷ xs)) (sym same) (here x xs); kept = λ q is. is })
  | inr (inr behind) ↦ (let more = put r xs (rising_tail x xs rising) in (x ∷ more.0, put_behind r x xs more.0 rising behind more.1))
]

-- ---- the readings of all events
-- some of the events reads it
abbrev IsReadBy : List Event → Reading → Type 0
IsReadBy es r = (e : Event) × Contains es e × (e.clock ≡ r.0) × (e.stamp ≡ r.1)

-- they are the readings of the events, in their order
record AreReadBy (es : List Event) (rs : List Reading) : Type 0 where
  each : (r : Reading) → Contains rs r → IsReadBy es r
  every : (r : Reading) → IsReadBy es r → Contains rs r
  rising : AllPairs IsEarlierReading rs

-- one event more, and its reading
readings_more : (e : Event) (es : List Event) (rs ss : List Reading) → AreReadBy es rs → IsPut (e.clock, e.stamp) rs ss → AreReadBy (e ∷ es) ss
readings_more e es rs ss are more = record {
  each = λ r is. elim (more.only r is) [
    | inl same ↦ (e, (0, omega arith, refl), ap (λ (q : Reading). q.0) same, ap (λ (q : Reading). q.1) same)
    | inr old ↦ (let by = are.each r old in (by.0, there e by.0 es by.1, by.2, by.3))
  ];
  every = λ r by. elim (head_or_tail e by.0 es by.1) [
    | inl same ↦ subst (Contains ss) (same_reading (e.clock, e.stamp) r (ap (λ (v : Event). v.clock) same ∙ by.2) (ap (λ (v : Event). v.stamp) same ∙ by.3)) more.new
    | inr old ↦ more.kept r (are.every r (by.0, old, by.2, by.3))
  ];
  rising = more.rising;
}

-- events have their readings
read_by : (es : List Event) → (rs : List Reading) × AreReadBy es rs
read_by [] = (
  [],
  record {
    each = λ r is. absurd (none_in r is);
    every = λ r by. absurd (none_in by.0 by.1);
    rising = λ i j d less inside. absurd (omega (arith, less, inside));
  },
)
read_by (e ∷ es) =
    let (rs, are) = read_by es in
    let (ss, is) = put (e.clock, e.stamp) rs are.rising in
    (ss, readings_more e es rs ss are is)

-- a problem has its readings
pub readings_of : (p : ProblemLists) → (rs : List Reading) × AreReadings p rs
readings_of p =
    let (rs, are) = read_by p.events in
    (rs, record { each = λ clock stamp is. are.each (clock, stamp) is; every = λ clock stamp is. are.every (clock, stamp) is; rising = are.rising })
