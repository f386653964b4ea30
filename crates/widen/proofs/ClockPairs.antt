-- All pairs of clocks stand in rising order, each within.
use Rattle.std.proofs.Common.{◌≡◌, ◌<◌, ◌≤◌, ◌+◌, ℕ, zero, suc, List, [], ◌∷◌, ◌++◌, map, filter, get_or, Bool, true, false, cond, All, AllPairs, Contains, inl, inr, refl, sym, ◌∙◌, ap, subst, arith}
use Rattle.std.specs.List.{flat_map, range_with_len}
use Rattle.std.proofs.lemmas.Bool.{cases_lt}
use Rattle.std.proofs.lemmas.List.Elements.{All-nil, All-head, All-tail, All-append, All-map, All-weaker, Contains-append_left, Contains-append_right}
use Rattle.std.proofs.lemmas.List.FromFn.{get_or-range_with_len, length-range_with_len, length-map-range_with_len, get_or-map-range_with_len}
use Rattle.std.proofs.lemmas.List.Kept.{AllPairs-cons}
use Rattle.problem_model.specs.Nodes.{Reading, IsEarlierReading}
use Rattle.problem_model.proofs.Chains.{Among, among}
use Rattle.problem_model.proofs.OneList.{contained}
use Rattle.widen.specs.Blame.{pairs_of}

-- the pairs of one clock, and those of the clocks from a on
abbrev row : ℕ → ℕ → List Reading
row n from = map (λ (to : ℕ). (from, to)) (range_with_len 0 n)

abbrev rows : ℕ → ℕ → ℕ → List Reading
rows n a m = flat_map (row n) (range_with_len a m)

-- ---- each pair is within
below : (n : ℕ) → All (λ (to : ℕ). to < n) (range_with_len 0 n)
below n k d inside = let long = length-range_with_len 0 n in omega (arith, get_or-range_with_len 0 n k d (omega (arith, long, inside)), long, inside)

abbrev IsWithin : ℕ → ℕ → ℕ → Reading → Type 0
IsWithin n a m l = (a ≤ l.0) × (l.0 < a + m) × (l.1 < n)

rows_within : (n a m : ℕ) → All (IsWithin n a m) (rows n a m)
rows_within n a zero = All-nil (IsWithin n a zero)
rows_within n a (suc m) =
    All-append (IsWithin n a (suc m)) (row n a) (rows n (a + 1) m)
    (All-map (IsWithin n a (suc m)) (λ (to : ℕ). (a, to)) (range_with_len 0 n) (All-weaker (λ (to : ℕ). to < n) (λ to. IsWithin n a (suc m) (a, to)) (λ to lt. (omega arith, omega arith, lt)) (range_with_len 0 n) (below n)))
    (All-weaker (IsWithin n (a + 1) m) (IsWithin n a (suc m)) (λ l w. (omega (arith, w.0), omega (arith, w.1), w.2)) (rows n (a + 1) m) (rows_within n (a + 1) m))

pub pairs_within : (n : ℕ) → All (λ (l : ℕ × ℕ). (l.0 < n) × (l.1 < n)) (pairs_of n)
pairs_within n = All-weaker (IsWithin n 0 n) (λ (l : ℕ × ℕ). (l.0 < n) × (l.1 < n)) (λ l w. (omega (arith, w.1), w.2)) (pairs_of n) (rows_within n 0 n)

-- ---- each pair that is within is there
row_has : (n from to : ℕ) → to < n → Contains (row n from) (from, to)
row_has n from to lt = (
  to,
  (let long = length-map-range_with_len {X = Reading} (λ (t : ℕ). (from, t)) 0 n in omega (arith, long, lt)),
  get_or-map-range_with_len {X = Reading} (λ (t : ℕ). (from, t)) 0 n to to (from, to) lt (omega arith),
)

rows_have : (n a m from to : ℕ) → a ≤ from → from < a + m → to < n → Contains (rows n a m) (from, to)
rows_have n a zero from to low high lt = absurd (omega (arith, low, high))
rows_have n a (suc m) from to low high lt = elim (cases_lt a from) [
  | inl later ↦ Contains-append_right (row n a) (rows n (a + 1) m) (from, to) (rows_have n (a + 1) m from to (omega (arith, later)) (omega (arith, high)) lt)
  | inr not ↦
      let same : a ≡ from = omega (arith, low, not) in
      Contains-append_left (row n a) (rows n (a + 1) m) (from, to) (subst (λ (f : ℕ). Contains (row n f) (from, to)) (sym same) (row_has n from to lt))
]

pub pairs_have : (n from to : ℕ) → from < n → to < n → Contains (pairs_of n) (from, to)
pairs_have n from to lt lt' = rows_have n 0 n from to (omega arith) (omega (arith, lt)) lt'

-- ---- in rising order
joined : (xs ys : List Reading) → AllPairs IsEarlierReading xs → AllPairs IsEarlierReading ys → All (λ x. All (IsEarlierReading x) ys) xs → AllPairs IsEarlierReading (xs ++ ys)
joined [] ys first second across = second
joined (x ∷ xs) ys first second across =
    AllPairs-cons IsEarlierReading x (xs ++ ys)
    (All-append (IsEarlierReading x) xs ys (λ k d inside. first 0 (suc k) d (omega arith) (omega (arith, inside))) (All-head (λ y. All (IsEarlierReading y) ys) x xs across))
    (joined xs ys (λ i j d lt inside. first (suc i) (suc j) d (omega (arith, lt)) (omega (arith, inside))) second (All-tail (λ y. All (IsEarlierReading y) ys) x xs across))

row_rises : (n from : ℕ) → AllPairs IsEarlierReading (row n from)
row_rises n from i j d lt inside =
    let long = length-map-range_with_len {X = Reading} (λ (t : ℕ). (from, t)) 0 n in
    let first : get_or (row n from) i d ≡ (from, i) = get_or-map-range_with_len {X = Reading} (λ (t : ℕ). (from, t)) 0 n i i d (omega (arith, long, lt, inside)) (omega arith) in
    let second : get_or (row n from) j d ≡ (from, j) = get_or-map-range_with_len {X = Reading} (λ (t : ℕ). (from, t)) 0 n j j d (omega (arith, long, inside)) (omega arith) in
    rw (first, second) (inr (refl, lt))

rows_rise : (n a m : ℕ) → AllPairs IsEarlierReading (rows n a m)
rows_rise n a zero = λ i j d lt inside. absurd (omega (arith, inside))
rows_rise n a (suc m) =
    let behind = λ (to : ℕ). All-weaker (IsWithin n (a + 1) m) (IsEarlierReading (a, to)) (λ l w. inl (omega (arith, w.0))) (rows n (a + 1) m) (rows_within n (a + 1) m) in
    joined (row n a) (rows n (a + 1) m) (row_rises n a) (rows_rise n (a + 1) m)
    (All-map (λ (x : Reading). All (IsEarlierReading x) (rows n (a + 1) m)) (λ (to : ℕ). (a, to)) (range_with_len 0 n) (λ k d inside. behind (get_or (range_with_len 0 n) k d)))

pub pairs_rise : (n : ℕ) → AllPairs IsEarlierReading (pairs_of n)
pairs_rise n = rows_rise n 0 n

-- ---- what passes a test is kept
further : (b : Bool) (y : Reading) (zs : List Reading) (x : Reading) → Among zs x → Among (cond b (y ∷ zs) zs) x
further true y zs x at = inr at
further false y zs x at = at

kept_among : (test : Reading → Bool) (xs : List Reading) (x : Reading) → Among xs x → test x ≡ true → Among (filter test xs) x
kept_among test [] x at passes = absurd at
kept_among test (y ∷ ys) x (inl is) passes = subst (λ (b : Bool). Among (cond b (y ∷ filter test ys) (filter test ys)) x) (sym (ap test is ∙ passes)) (inl is)
kept_among test (y ∷ ys) x (inr at) passes = further (test y) y (filter test ys) x (kept_among test ys x at passes)

pub kept : (test : Reading → Bool) (xs : List Reading) (x : Reading) → Contains xs x → test x ≡ true → Contains (filter test xs) x
kept test xs x has passes = contained (filter test xs) x (kept_among test xs x (among xs x has) passes)
