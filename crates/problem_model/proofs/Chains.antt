-- From neighbouring readings to every two readings.
use Rattle.std.proofs.Common.{◌≡◌, ◌⊎◌, ◌<◌, ◌-◌, ◌+◌, ◌*◌, ℕ, zero, suc, List, [], ◌∷◌, ◌++◌, refl, sym, ◌∙◌, ap, subst, arith, inl, inr}
use Rattle.std.specs.Prelude.{AllPairs, Contains, ℤ, pos, neg_ℤ, ◌-ℤ◌, ◌≤ℤ◌}
use Rattle.std.specs.List.{AllByRecursion}
use Rattle.std.proofs.lemmas.List.Elements.{recursion_from_All}
use Rattle.std.proofs.lemmas.Int.{ints}
use Rattle.problem_model.specs.Nodes.{Reading, IsEarlierReading}

-- ---- membership and order by recursion
abbrev pub Among : {X : Type 0} → List X → X → Type 0
Among [] x = ⊥
Among (y ∷ ys) x = (y ≡ x) ⊎ Among ys x

pub among : {X : Type 0} (xs : List X) (x : X) → Contains xs x → Among xs x
among [] x (k, inside, is) = absurd (omega (arith, inside))
among (y ∷ ys) x (zero, inside, is) = inl is
among (y ∷ ys) x (suc k, inside, is) = inr (among ys x (k, omega (arith, inside), is))

pub each_among : {X : Type 0} (P : X → Type 0) (xs : List X) (x : X) → AllByRecursion P xs → Among xs x → P x
each_among P [] x all at = absurd at
each_among P (y ∷ ys) x all (inl is) = subst P is all.0
each_among P (y ∷ ys) x all (inr at) = each_among P ys x all.1 at

abbrev pub Rises : List Reading → Type 0
Rises [] = Unit {0}
Rises (a ∷ rest) = AllByRecursion (IsEarlierReading a) rest × Rises rest

pub rises : (readings : List Reading) → AllPairs IsEarlierReading readings → Rises readings
rises [] pairs = tt
rises (a ∷ rest) pairs = (
  recursion_from_All (IsEarlierReading a) rest (λ k d inside. pairs 0 (suc k) d (omega arith) (omega (arith, inside))),
  rises rest (λ i j d below inside. pairs (suc i) (suc j) d (omega (arith, below)) (omega (arith, inside))),
)

pub all_append_left : {X : Type 0} (P : X → Type 0) (xs ys : List X) → AllByRecursion P (xs ++ ys) → AllByRecursion P xs
all_append_left P [] ys all = tt
all_append_left P (x ∷ xs) ys all = (all.0, all_append_left P xs ys all.1)

pub all_append_right : {X : Type 0} (P : X → Type 0) (xs ys : List X) → AllByRecursion P (xs ++ ys) → AllByRecursion P ys
all_append_right P [] ys all = all
all_append_right P (x ∷ xs) ys all = all_append_right P xs ys all.1

-- ---- on one clock, by stamps
before_same : (a b : Reading) → IsEarlierReading a b → a.0 ≡ b.0 → a.1 < b.1
before_same a b (inl less) same = absurd (omega (arith, less, same))
before_same a b (inr later) same = later.1

between_same : (clock : ℕ) (a b c : Reading) → IsEarlierReading a b → IsEarlierReading b c → a.0 ≡ clock → c.0 ≡ clock → b.0 ≡ clock
between_same clock a b c (inl x) (inl y) p q = omega (arith, x, y, p, q)
between_same clock a b c (inl x) (inr y) p q = omega (arith, x, y.0, p, q)
between_same clock a b c (inr x) (inl y) p q = omega (arith, x.0, y, p, q)
between_same clock a b c (inr x) (inr y) p q = omega (arith, x.0, p)

module _ (clock : ℕ) (Spans : ℕ → ℕ → Type 0) (joined : (s u t : ℕ) → s < u → u < t → Spans s u → Spans u t → Spans s t) where
  -- neighbours on the clock are spanned
  abbrev pub SpansNeighbours : List Reading → Type 0
  SpansNeighbours [] = Unit {0}
  SpansNeighbours (a ∷ []) = Unit {0}
  SpansNeighbours (a ∷ b ∷ rest) = (a.0 ≡ clock → b.0 ≡ clock → Spans a.1 b.1) × SpansNeighbours (b ∷ rest)

  from_head : (a : Reading) (rest : List Reading) (t : ℕ) → Rises (a ∷ rest) → SpansNeighbours (a ∷ rest) → a.0 ≡ clock → Among rest (clock, t) → Spans a.1 t
  from_head a [] t rising spans on at = absurd at
  from_head a (b ∷ rest) t rising spans on (inl is) = subst (λ (u : ℕ). Spans a.1 u) (ap (λ (r : Reading). r.1) is) (spans.0 on (ap (λ (r : Reading). r.0) is))
  from_head a (b ∷ rest) t rising spans on (inr at) =
      let later : IsEarlierReading b (clock, t) = each_among (IsEarlierReading b) rest (clock, t) rising.1.0 at in
      let same : b.0 ≡ clock = between_same clock a b (clock, t) rising.0.0 later on refl in
      joined a.1 b.1 t (before_same a b rising.0.0 (on ∙ sym same)) (before_same b (clock, t) later same)
      (spans.0 on same) (from_head b rest t rising.1 spans.1 same at)

  -- so every two on the clock are
  pub all_spans : (readings : List Reading) (s t : ℕ) → Rises readings → SpansNeighbours readings → Among readings (clock, s) → Among readings (clock, t) → s < t → Spans s t
  all_spans [] s t rising spans at at' below = absurd at
  all_spans (a ∷ rest) s t rising spans (inl is) (inl is') below =
      let same : s ≡ t = sym (ap (λ (r : Reading). r.1) is) ∙ ap (λ (r : Reading). r.1) is' in absurd (omega (arith, same, below))
  all_spans (a ∷ rest) s t rising spans (inl is) (inr at') below =
      subst (λ (u : ℕ). Spans u t) (ap (λ (r : Reading). r.1) is) (from_head a rest t rising spans (ap (λ (r : Reading). r.0) is) at')
  all_spans (a ∷ rest) s t rising spans (inr at) (inl is') below =
      let later : IsEarlierReading a (clock, s) = each_among (IsEarlierReading a) rest (clock, s) rising.0 at in
      let less : a.1 < s = before_same a (clock, s) later (ap (λ (r : Reading). r.0) is') in
      let same : a.1 ≡ t = ap (λ (r : Reading). r.1) is' in absurd (omega (arith, less, same, below))
  all_spans (a ∷ []) s t rising spans (inr at) (inr at') below = absurd at
  all_spans (a ∷ b ∷ rest) s t rising spans (inr at) (inr at') below = all_spans (b ∷ rest) s t rising.1 spans.1 at at' below

-- ---- sums of spans
parts_add : (s u t k : ℕ) → s < u → u < t → (t - s) * k ≡ (u - s) * k + (t - u) * k
parts_add s u t k a b = let e : t - s ≡ (u - s) + (t - u) = omega (arith, a, b) in rw e (shared (u - s) (t - u) k)
  where
    shared : (x y k : ℕ) → (x + y) * k ≡ x * k + y * k
    shared x y k = omega arith

-- at most k units for each ns
abbrev pub AtMost : (ℕ → ℤ) → ℕ → ℕ → ℕ → Type 0
AtMost y k s t = (y t -ℤ y s) ≤ℤ pos ((t - s) * k)

-- at least k units for each ns
abbrev pub AtLeast : (ℕ → ℤ) → ℕ → ℕ → ℕ → Type 0
AtLeast y k s t = (y s -ℤ y t) ≤ℤ neg_ℤ (pos ((t - s) * k))

pub most_joined : (y : ℕ → ℤ) (k s u t : ℕ) → s < u → u < t → AtMost y k s u → AtMost y k u t → AtMost y k s t
most_joined y k s u t a b first second = let sum = parts_add s u t k a b in omega (arith, ints, sum, first, second)

pub least_joined : (y : ℕ → ℤ) (k s u t : ℕ) → s < u → u < t → AtLeast y k s u → AtLeast y k u t → AtLeast y k s t
least_joined y k s u t a b first second = let sum = parts_add s u t k a b in omega (arith, ints, sum, first, second)
