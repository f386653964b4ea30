-- The clocks of the readings on one side of a cut, as they are met one after another.
use Rattle.std.proofs.Common.{◌≡◌, ◌<◌, ◌≤◌, ◌+◌, ℕ, zero, suc, Bool, true, false, List, [], ◌∷◌, ◌++◌, length, drop, slice_get, slice_index_or, All, Option, Some, None, inl, inr, ◌⊎◌, refl, ap, sym, ◌∙◌, subst, arith}
use Rattle.std.specs.Prelude.{AllPairs, Contains, ◌==◌, not}
use Rattle.std.specs.List.{flat_map}
use Rattle.std.proofs.lemmas.List.Kept.{AllPairs-cons}
use Rattle.problem_model.proofs.Walking.{drop_more, drop_all}
use Rattle.problem_model.specs.Parents.{Cells}
use Rattle.problem.specs.Listing.{Listed}
use Rattle.attain.specs.Written.{written_inside, AreClocksOf}
use Rattle.attain.specs.Cuts.{is_another, is_first, clock_if, last_behind}

-- the clocks that these readings give behind a last one
abbrev pub clocks_behind : Bool → Cells → Option ℕ → List (ℕ × ℕ × ℕ) → List ℕ
clocks_behind known c last [] = []
clocks_behind known c last (r ∷ rs) = clock_if (is_first known (c.known r.2) last r.0) r.0 ++ clocks_behind known c (last_behind (is_first known (c.known r.2) last r.0) last r.0) rs

-- ---- the text
inside_joined : (l : Listed) (b : Bool) (clock : ℕ) (rest : List ℕ) → flat_map (written_inside l) (clock_if b clock ++ rest) ≡ flat_map (written_inside l) (clock_if b clock) ++ flat_map (written_inside l) rest
inside_joined l true clock rest = ap (λ (text : List ℕ). text ++ flat_map (written_inside l) rest) (sym (nothing_behind (written_inside l clock)))
  where
    nothing_behind : (xs : List ℕ) → xs ++ [] ≡ xs
    nothing_behind [] = refl
    nothing_behind (x ∷ xs) = ap (λ (ys : List ℕ). x ∷ ys) (nothing_behind xs)
inside_joined l false clock rest = refl

-- the lines of the clocks that the readings from place k on give
abbrev pub inside_from : Listed → Bool → Cells → Option ℕ → ℕ → List ℕ
inside_from l known c last k = flat_map (written_inside l) (clocks_behind known c last (drop k l.readings))

pub inside_more : (l : Listed) (known : Bool) (c : Cells) (last : Option ℕ) (k : ℕ) (r : ℕ × ℕ × ℕ) (first : Bool) → slice_get l.readings k ≡ Some r → first ≡ is_first known (c.known r.2) last r.0
    → inside_from l known c last k ≡ flat_map (written_inside l) (clock_if first r.0) ++ inside_from l known c (last_behind first last r.0) (k + 1)
inside_more l known c last k r first at is =
    ap (λ (rs : List (ℕ × ℕ × ℕ)). flat_map (written_inside l) (clocks_behind known c last rs)) (drop_more l.readings k r at)
    ∙ ap (λ (b : Bool). flat_map (written_inside l) (clock_if b r.0 ++ clocks_behind known c (last_behind b last r.0) (drop (k + 1) l.readings))) (sym is)
    ∙ inside_joined l first r.0 (clocks_behind known c (last_behind first last r.0) (drop (k + 1) l.readings))

pub inside_none : (l : Listed) (known : Bool) (c : Cells) (last : Option ℕ) (k : ℕ) → length l.readings ≤ k → inside_from l known c last k ≡ []
inside_none l known c last k past = ap (λ (rs : List (ℕ × ℕ × ℕ)). flat_map (written_inside l) (clocks_behind known c last rs)) (drop_all l.readings k past)

-- ---- lists
pairs_head : {X : Type 0} (R : X → X → Type 0) (x : X) (xs : List X) → AllPairs R (x ∷ xs) → All (R x) xs
pairs_head R x xs pairs = λ k d inside. pairs 0 (suc k) d (omega arith) (omega (arith, inside))

pairs_tail : {X : Type 0} (R : X → X → Type 0) (x : X) (xs : List X) → AllPairs R (x ∷ xs) → AllPairs R xs
pairs_tail R x xs pairs = λ i j d below inside. pairs (suc i) (suc j) d (omega (arith, below)) (omega (arith, inside))

pub all_tail : {X : Type 0} (P : X → Type 0) (x : X) (xs : List X) → All P (x ∷ xs) → All P xs
all_tail P x xs all = λ k d inside. all (suc k) d (omega (arith, inside))

pub all_cons : {X : Type 0} (P : X → Type 0) (x : X) (xs : List X) → P x → All P xs → All P (x ∷ xs)
all_cons {X = X} P x xs here all = λ k d inside. at k d inside
  where
    at : (k : ℕ) (d : X) → k < suc (length xs) → P (slice_index_or (x ∷ xs) k d)
    at zero d inside = here
    at (suc k) d inside = all k d (omega (arith, inside))

in_head : {X : Type 0} (x : X) (xs : List X) → Contains (x ∷ xs) x
in_head x xs = (0, omega arith, refl)

in_tail : {X : Type 0} (x y : X) (xs : List X) → Contains xs y → Contains (x ∷ xs) y
in_tail x y xs (k, inside, is) = (suc k, omega (arith, inside), is)

in_cons : {X : Type 0} (x y : X) (xs : List X) → Contains (x ∷ xs) y → (x ≡ y) ⊎ Contains xs y
in_cons x y xs (zero, inside, is) = inl is
in_cons x y xs (suc k, inside, is) = inr (k, omega (arith, inside), is)

-- ---- clocks
-- the clock is above the last one
abbrev IsAbove : Option ℕ → ℕ → Type 0
IsAbove None clock = Unit {0}
IsAbove (Some last) clock = last < clock

-- the clock is not below the last one
abbrev IsFrom : Option ℕ → ℕ → Type 0
IsFrom None clock = Unit {0}
IsFrom (Some last) clock = last ≤ clock

above_then : (last : Option ℕ) (j k : ℕ) → IsAbove last j → j < k → IsAbove last k
above_then None j k above below = tt
above_then (Some last) j k above below = omega (arith, above, below)

-- two numbers are tested for being the same
differ_yes : (j k : ℕ) → not (j == k) ≡ true → j ≡ k → ⊥
differ_yes j k is same = grind (arith, is, same)

differ_no : (j k : ℕ) → not (j == k) ≡ false → j ≡ k
differ_no j k is = grind (arith, is)

another_above : (last : Option ℕ) (clock : ℕ) → IsFrom last clock → is_another last clock ≡ true → IsAbove last clock
another_above None clock from is = tt
another_above (Some last) clock from is = let differ : last ≡ clock → ⊥ = differ_yes last clock is in omega (arith, from, differ)

same_last : (last : Option ℕ) (clock : ℕ) → is_another last clock ≡ false → last ≡ Some clock
same_last None clock is = absurd cc
same_last (Some last) clock is = ap Some (differ_no last clock is)

first_yes : (known here : Bool) (last : Option ℕ) (clock : ℕ) → is_first known here last clock ≡ true → (here ≡ known) × (is_another last clock ≡ true)
first_yes true true last clock is = (refl, is)
first_yes true false last clock is = absurd cc
first_yes false true last clock is = absurd cc
first_yes false false last clock is = (refl, is)

first_no : (known here : Bool) (last : Option ℕ) (clock : ℕ) → is_first known here last clock ≡ false → here ≡ known → is_another last clock ≡ false
first_no true true last clock is same = is
first_no true false last clock is same = absurd cc
first_no false true last clock is same = absurd cc
first_no false false last clock is same = is

-- what is met among readings, behind a last clock
record AreMet (known : Bool) (c : Cells) (last : Option ℕ) (rs : List (ℕ × ℕ × ℕ)) (inside : List ℕ) : Type 0 where
  pub above : All (IsAbove last) inside
  pub rising : AllPairs (λ j k. j < k) inside
  pub sound : (clock : ℕ) → Contains inside clock → (r : ℕ × ℕ × ℕ) × Contains rs r × (r.0 ≡ clock) × (c.known r.2 ≡ known)
  pub complete : (r : ℕ × ℕ × ℕ) → Contains rs r → c.known r.2 ≡ known → Contains inside r.0 ⊎ (last ≡ Some r.0)

abbrev NotFalling : List (ℕ × ℕ × ℕ) → Type 0
NotFalling rs = AllPairs (λ r s. r.0 ≤ s.0) rs

module _ (known : Bool) (c : Cells) (r : ℕ × ℕ × ℕ) (rs : List (ℕ × ℕ × ℕ)) (last : Option ℕ) (rising : NotFalling (r ∷ rs)) (from : All (λ (s : ℕ × ℕ × ℕ). IsFrom last s.0) (r ∷ rs)) where
  -- readings behind this one
  from_more : (first : Bool) → All (λ (s : ℕ × ℕ × ℕ). IsFrom (last_behind first last r.0) s.0) rs
  from_more true = pairs_head (λ (s t : ℕ × ℕ × ℕ). s.0 ≤ t.0) r rs rising
  from_more false = all_tail (λ (s : ℕ × ℕ × ℕ). IsFrom last s.0) r rs from

  met_more : (first : Bool) → is_first known (c.known r.2) last r.0 ≡ first → AreMet known c (last_behind first last r.0) rs (clocks_behind known c (last_behind first last r.0) rs)
      → AreMet known c last (r ∷ rs) (clock_if first r.0 ++ clocks_behind known c (last_behind first last r.0) rs)
  met_more true is m =
      let rest = clocks_behind known c (Some r.0) rs in
      let yes' = first_yes known (c.known r.2) last r.0 is in
      let above : IsAbove last r.0 = another_above last r.0 (from 0 r (omega arith)) yes'.1 in
      record {
        above = all_cons (IsAbove last) r.0 rest above (λ k d inside. above_then last r.0 (slice_index_or rest k d) above (m.above k d inside));
        rising = AllPairs-cons (λ (j k : ℕ). j < k) r.0 rest m.above m.rising;
        sound = λ clock has. elim (in_cons r.0 clock rest has) [
          | inl same ↦ (r, in_head r rs, same, yes'.0)
          | inr there ↦ let s = m.sound clock there in (s.0, in_tail r s.0 rs s.1, s.2, s.3)
        ];
        complete = λ s has is'. elim (in_cons r s rs has) [
          | inl same ↦ inl (subst (λ (t : ℕ × ℕ × ℕ). Contains (r.0 ∷ rest) t.0) same (in_head r.0 rest))
          | inr there ↦ elim (m.complete s there is') [
            | inl found ↦ inl (in_tail r.0 s.0 rest found)
            | inr last' ↦ inl (let same : r.0 ≡ s.0 = cc in subst (Contains (r.0 ∷ rest)) same (in_head r.0 rest))
          ]
        ];
      }
  met_more false is m = record {
    above = m.above;
    rising = m.rising;
    sound = λ clock has. let s = m.sound clock has in (s.0, in_tail r s.0 rs s.1, s.2, s.3);
    complete = λ s has is'. elim (in_cons r s rs has) [
      | inl same ↦ inr (subst (λ (t : ℕ × ℕ × ℕ). last ≡ Some t.0) same
          (same_last last r.0 (first_no known (c.known r.2) last r.0 is (subst (λ (t : ℕ × ℕ × ℕ). c.known t.2 ≡ known) (sym same) is'))))
      | inr there ↦ m.complete s there is'
    ];
  }

met : (known : Bool) (c : Cells) (rs : List (ℕ × ℕ × ℕ)) (last : Option ℕ) → NotFalling rs → All (λ (s : ℕ × ℕ × ℕ). IsFrom last s.0) rs → AreMet known c last rs (clocks_behind known c last rs)
met known c [] last rising from = record {
  above = λ k d inside. absurd (omega (arith, inside));
  rising = λ i j d below inside. absurd (omega (arith, inside));
  sound = λ clock has. absurd (let inside = has.1 in omega (arith, inside));
  complete = λ r has is. absurd (let inside = has.1 in omega (arith, inside));
}
met known c (r ∷ rs) last rising from =
    let first = is_first known (c.known r.2) last r.0 in
    met_more known c r rs last rising from first refl
    (met known c rs (last_behind first last r.0) (pairs_tail (λ (s t : ℕ × ℕ × ℕ). s.0 ≤ t.0) r rs rising) (from_more known c r rs last rising from first))

pub clocks_of : (l : Listed) (c : Cells) (known : Bool) → NotFalling l.readings → AreClocksOf l c known (clocks_behind known c None l.readings)
clocks_of l c known rising =
    let m = met known c l.readings None rising (λ k d inside. tt) in
    record {
      rising = m.rising;
      each = λ clock. (
        m.sound clock,
        (λ has. elim (m.complete has.0 has.1 has.3) [
          | inl found ↦ subst (Contains (clocks_behind known c None l.readings)) has.2 found
          | inr never ↦ absurd (let z : ⊥ = cc in z)
        ]),
      );
    }

-- the node of a reading is below so many
pub node_within : (rs : List (ℕ × ℕ × ℕ)) (k : ℕ) (r : ℕ × ℕ × ℕ) (n : ℕ) → All (λ (s : ℕ × ℕ × ℕ). s.2 < n) rs → slice_get rs k ≡ Some r → r.2 < n
node_within [] k r n all at = absurd cc
node_within (s ∷ rs) zero r n all at = let same : s ≡ r = cc in subst (λ (t : ℕ × ℕ × ℕ). t.2 < n) same (all 0 s (omega arith))
node_within (s ∷ rs) (suc k) r n all at = node_within rs k r n (all_tail (λ (t : ℕ × ℕ × ℕ). t.2 < n) s rs all) at
