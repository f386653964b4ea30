-- Sums of pairs, and the place that a sum falls into.
use Rattle.std.proofs.Common.{◌≡◌, ℕ, ◌+◌, ◌-◌, ◌*◌, ◌<◌, ◌≤◌, zero, suc, List, [], ◌∷◌, length, replicate, get_or, set, refl, ap, subst, arith}
use Rattle.roster.specs.Groups.{total, IsPlaceOf}
use Rattle.roster.specs.Sums.{pair_sums}

pub total_pairs : (l : List ℕ) → total (pair_sums l) ≡ total l
total_pairs [] = refl
total_pairs (a ∷ []) = refl
total_pairs (a ∷ b ∷ l) = let more = total_pairs l in omega (arith, more)

pub pairs_of_zeros : (n h : ℕ) → n ≤ h + h → h + h ≤ n + 1 → pair_sums (replicate n 0) ≡ replicate h 0
pairs_of_zeros zero zero le ge = refl
pairs_of_zeros zero (suc h) le ge = absurd (omega (arith, ge))
pairs_of_zeros (suc zero) zero le ge = absurd (omega (arith, le))
pairs_of_zeros (suc zero) (suc zero) le ge = refl
pairs_of_zeros (suc zero) (suc (suc h)) le ge = absurd (omega (arith, ge))
pairs_of_zeros (suc (suc n)) zero le ge = absurd (omega (arith, le))
pairs_of_zeros (suc (suc n)) (suc h) le ge = ap (λ (l : List ℕ). 0 ∷ l) (pairs_of_zeros n h (omega (arith, le)) (omega (arith, ge)))

-- ---- places
pub place_inside : (l : List ℕ) (sum k rest : ℕ) → IsPlaceOf l sum k rest → k < length l
place_inside [] sum k rest at = absurd at
place_inside (a ∷ l) sum zero rest at = omega arith
place_inside (a ∷ l) sum (suc k) rest at = let more = place_inside l (sum - a) k rest at.1 in omega (arith, more)

-- the pair at h begins at place k
pub left_inside : (l : List ℕ) (h k : ℕ) → k ≡ h + h → h < length (pair_sums l) → k < length l
left_inside [] h k is inside = absurd (omega (arith, inside))
left_inside (a ∷ []) zero k is inside = omega (arith, is)
left_inside (a ∷ []) (suc h) k is inside = absurd (omega (arith, inside))
left_inside (a ∷ b ∷ l) zero k is inside = omega (arith, is)
left_inside (a ∷ b ∷ l) (suc h) zero is inside = omega arith
left_inside (a ∷ b ∷ l) (suc h) (suc zero) is inside = omega arith
left_inside (a ∷ b ∷ l) (suc h) (suc (suc k)) is inside = let more = left_inside l h k (omega (arith, is)) (omega (arith, inside)) in omega (arith, more)

pub place_left : (l : List ℕ) (sum h k rest : ℕ) → k ≡ h + h → IsPlaceOf (pair_sums l) sum h rest → rest < get_or l k 0 → IsPlaceOf l sum k rest
place_left [] sum h k rest is at less = absurd at
place_left (a ∷ []) sum zero zero rest is at less = at
place_left (a ∷ []) sum zero (suc k) rest is at less = absurd (omega (arith, is))
place_left (a ∷ []) sum (suc h) k rest is at less = absurd at.1
place_left (a ∷ b ∷ l) sum zero zero rest is at less = (at.0, less)
place_left (a ∷ b ∷ l) sum zero (suc k) rest is at less = absurd (omega (arith, is))
place_left (a ∷ b ∷ l) sum (suc h) zero rest is at less = absurd (omega (arith, is))
place_left (a ∷ b ∷ l) sum (suc h) (suc zero) rest is at less = absurd (omega (arith, is))
place_left (a ∷ b ∷ l) sum (suc h) (suc (suc k)) rest is at less =
    let past : a + b ≤ sum = at.0 in
    let on : sum - (a + b) ≡ sum - a - b = omega (arith, past) in
    (omega (arith, past), (omega (arith, past), subst (λ (s : ℕ). IsPlaceOf l s k rest) on (place_left l (sum - (a + b)) h k rest (omega (arith, is)) at.1 less)))

pub place_right : (l : List ℕ) (sum h k rest : ℕ) → k ≡ h + h → IsPlaceOf (pair_sums l) sum h rest → get_or l k 0 ≤ rest → IsPlaceOf l sum (suc k) (rest - get_or l k 0)
place_right [] sum h k rest is at less = absurd at
place_right (a ∷ []) sum zero zero rest is at less = absurd (let inside : rest < a = at.1 in omega (arith, inside, less))
place_right (a ∷ []) sum zero (suc k) rest is at less = absurd (omega (arith, is))
place_right (a ∷ []) sum (suc h) k rest is at less = absurd at.1
place_right (a ∷ b ∷ l) sum zero zero rest is at less =
    let here : rest ≡ sum = at.0 in
    let inside : rest < a + b = at.1 in
    (omega (arith, here, less), (ap (λ (s : ℕ). s - a) here, omega (arith, inside, less)))
place_right (a ∷ b ∷ l) sum zero (suc k) rest is at less = absurd (omega (arith, is))
place_right (a ∷ b ∷ l) sum (suc h) zero rest is at less = absurd (omega (arith, is))
place_right (a ∷ b ∷ l) sum (suc h) (suc zero) rest is at less = absurd (omega (arith, is))
place_right (a ∷ b ∷ l) sum (suc h) (suc (suc k)) rest is at less =
    let past : a + b ≤ sum = at.0 in
    let on : sum - (a + b) ≡ sum - a - b = omega (arith, past) in
    (omega (arith, past), (omega (arith, past), subst (λ (s : ℕ). IsPlaceOf l s (suc k) (rest - get_or l k 0)) on (place_right l (sum - (a + b)) h k rest (omega (arith, is)) at.1 less)))

-- the same for a pair of the code
module _ (l : List ℕ) (h rest : ℕ) where
  two : 2 * h ≡ h + h
  two = omega arith

  pub pair_within : (sum : ℕ) × IsPlaceOf (pair_sums l) sum h rest → 2 * h < length l
  pair_within at = left_inside l h (2 * h) two (place_inside (pair_sums l) at.0 h rest at.1)

  pub in_left : rest < get_or l (2 * h) 0 → (sum : ℕ) → IsPlaceOf (pair_sums l) sum h rest → IsPlaceOf l sum (2 * h) rest
  in_left less sum at = place_left l sum h (2 * h) rest two at less

  pub in_right : get_or l (2 * h) 0 ≤ rest → (sum : ℕ) → IsPlaceOf (pair_sums l) sum h rest → IsPlaceOf l sum (2 * h + 1) (rest - get_or l (2 * h) 0)
  in_right less sum at =
      let on : suc (2 * h) ≡ 2 * h + 1 = omega arith in
      subst (λ (k : ℕ). IsPlaceOf l sum k (rest - get_or l (2 * h) 0)) on (place_right l sum h (2 * h) rest two at less)

-- a sum in a level of at most one number
pub place_alone : (l : List ℕ) (sum : ℕ) → length l ≤ 1 → sum < total l → IsPlaceOf l sum 0 sum
place_alone [] sum few less = absurd (omega (arith, less))
place_alone (a ∷ []) sum few less = (refl, omega (arith, less))
place_alone (a ∷ b ∷ l) sum few less = absurd (omega (arith, few))

-- ---- a number with another part
abbrev pub exchanged : List ℕ → ℕ → ℕ → ℕ → List ℕ
exchanged l k old new = set l k (get_or l k 0 - old + new)

pub pairs_exchanged : (l : List ℕ) (k h old new : ℕ) → h + h ≤ k → k ≤ h + h + 1 → k < length l → old ≤ get_or l k 0 → pair_sums (exchanged l k old new) ≡ exchanged (pair_sums l) h old new
pairs_exchanged [] k h old new le ge inside part = absurd (omega (arith, inside))
pairs_exchanged (a ∷ []) zero zero old new le ge inside part = refl
pairs_exchanged (a ∷ []) zero (suc h) old new le ge inside part = absurd (omega (arith, le))
pairs_exchanged (a ∷ []) (suc k) h old new le ge inside part = absurd (omega (arith, inside))
pairs_exchanged (a ∷ b ∷ l) zero zero old new le ge inside part =
    let on : a - old + new + b ≡ a + b - old + new = omega (arith, part) in
    ap (λ (n : ℕ). n ∷ pair_sums l) on
pairs_exchanged (a ∷ b ∷ l) (suc zero) zero old new le ge inside part =
    let on : a + (b - old + new) ≡ a + b - old + new = omega (arith, part) in
    ap (λ (n : ℕ). n ∷ pair_sums l) on
pairs_exchanged (a ∷ b ∷ l) (suc (suc k)) zero old new le ge inside part = absurd (omega (arith, ge))
pairs_exchanged (a ∷ b ∷ l) zero (suc h) old new le ge inside part = absurd (omega (arith, le))
pairs_exchanged (a ∷ b ∷ l) (suc zero) (suc h) old new le ge inside part = absurd (omega (arith, le))
pairs_exchanged (a ∷ b ∷ l) (suc (suc k)) (suc h) old new le ge inside part =
    ap (λ (ns : List ℕ). (a + b) ∷ ns) (pairs_exchanged l k h old new (omega (arith, le)) (omega (arith, ge)) (omega (arith, inside)) part)

-- the pair that a number is in
pub pair_inside : (l : List ℕ) (k h : ℕ) → h + h ≤ k → k < length l → h < length (pair_sums l)
pair_inside [] k h le inside = absurd (omega (arith, inside))
pair_inside (a ∷ []) k zero le inside = omega arith
pair_inside (a ∷ []) k (suc h) le inside = absurd (omega (arith, le, inside))
pair_inside (a ∷ b ∷ l) k zero le inside = omega arith
pair_inside (a ∷ b ∷ l) zero (suc h) le inside = absurd (omega (arith, le))
pair_inside (a ∷ b ∷ l) (suc zero) (suc h) le inside = absurd (omega (arith, le))
pair_inside (a ∷ b ∷ l) (suc (suc k)) (suc h) le inside = let more = pair_inside l k h (omega (arith, le)) (omega (arith, inside)) in omega (arith, more)

pub part_of_pair : (l : List ℕ) (k h : ℕ) → h + h ≤ k → k ≤ h + h + 1 → get_or l k 0 ≤ get_or (pair_sums l) h 0
part_of_pair [] k h le ge = omega arith
part_of_pair (a ∷ []) zero zero le ge = omega arith
part_of_pair (a ∷ []) zero (suc h) le ge = absurd (omega (arith, le))
part_of_pair (a ∷ []) (suc k) h le ge = omega arith
part_of_pair (a ∷ b ∷ l) zero zero le ge = omega arith
part_of_pair (a ∷ b ∷ l) (suc zero) zero le ge = omega arith
part_of_pair (a ∷ b ∷ l) (suc (suc k)) zero le ge = absurd (omega (arith, ge))
part_of_pair (a ∷ b ∷ l) zero (suc h) le ge = absurd (omega (arith, le))
part_of_pair (a ∷ b ∷ l) (suc zero) (suc h) le ge = absurd (omega (arith, le))
part_of_pair (a ∷ b ∷ l) (suc (suc k)) (suc h) le ge = part_of_pair l k h (omega (arith, le)) (omega (arith, ge))

pub part_of_total : (l : List ℕ) (k : ℕ) → get_or l k 0 ≤ total l
part_of_total [] k = omega arith
part_of_total (a ∷ l) zero = omega arith
part_of_total (a ∷ l) (suc k) = let more = part_of_total l k in omega (arith, more)

-- a number in the place of another
pub total_set : (l : List ℕ) (k new : ℕ) → k < length l → total (set l k new) + get_or l k 0 ≡ total l + new
total_set [] k new inside = absurd (omega (arith, inside))
total_set (a ∷ l) zero new inside = omega arith
total_set (a ∷ l) (suc k) new inside = let more = total_set l k new (omega (arith, inside)) in omega (arith, more)
