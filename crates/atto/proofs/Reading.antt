-- How a decimal is read from its first digit on.
use Rattle.std.proofs.Common.{◌≡◌, ◌≢◌, ℕ, zero, suc, ◌+◌, ◌-◌, ◌*◌, ◌/◌, ◌%◌, ◌<◌, List, [], ◌∷◌, ◌++◌, map, length, get_or, take, refl, sym, ◌∙◌, ap, arith, Option, add-one}
use Rattle.std.specs.Int.{IsInRange}
use Rattle.std.specs.List.{AllByRecursion}
use Rattle.std.specs.Int.Digits.{digits_of}
use Rattle.std.proofs.lemmas.Int.Digits.{all_below_base_digits_of, first_digits_of, length-digits_of_step}
use Rattle.std.proofs.lemmas.List.{length-map, length-take-le, get_or-map}
use Rattle.std.proofs.lemmas.Nat.{div-mul-add, div-add-mod'}
use Rattle.std.proofs.Math.Seq.{take-suc}
use Rattle.atto.specs.Decimal.{decimal_of}
use Rattle.atto.specs.Number.{Counts}
use Rattle.atto.proofs.DecimalLemmas.{digits_text, digits_text-step}

digit_at : (ds : List ℕ) (k : ℕ) → AllByRecursion (λ d. d < 10) ds → k < length ds → IsInRange 48 57 (get_or (map (λ d. 48 + d) ds) k 0)
digit_at [] k all h = absurd (omega (arith, h))
digit_at (d ∷ ds) zero all h = (omega arith, omega (arith, all.0))
digit_at (d ∷ ds) (suc k) all h = digit_at ds k all.1 (omega (arith, h))

-- each byte of a decimal is a digit
pub decimal_of-digits : (n k : ℕ) → k < length (decimal_of n) → IsInRange 48 57 (get_or (decimal_of n) k 0)
decimal_of-digits zero zero h = (omega arith, omega arith)
decimal_of-digits zero (suc k) h = absurd (omega (arith, h))
decimal_of-digits (suc n) k h =
    digit_at (digits_of 10 (suc n)) k (all_below_base_digits_of 10 (suc n) (omega arith)) (rw length-map at h)

pub length-digits_text : (n : ℕ) → 0 < n → 0 < length (digits_text n)
length-digits_text n h = rw (length-map, length-digits_of_step 10 n (omega arith) h) (omega arith)

pub decimal_of-nonempty : (n : ℕ) → 0 < length (decimal_of n)
decimal_of-nonempty zero = omega arith
decimal_of-nonempty (suc n) = length-digits_text (suc n) (omega arith)

-- only 0 begins with the digit 0
pub decimal_of-zero_first : (n : ℕ) → get_or (decimal_of n) 0 0 ≡ 48 → length (decimal_of n) ≡ 1
decimal_of-zero_first zero h = refl
decimal_of-zero_first (suc n) h =
    let first : 0 < get_or (digits_of 10 (suc n)) 0 0 = first_digits_of 10 (suc n) (omega arith) (omega arith) in
    let some : 0 < length (digits_of 10 (suc n)) = rw length-map at (length-digits_text (suc n) (omega arith)) in
    let is : get_or (digits_text (suc n)) 0 0 ≡ 48 + get_or (digits_of 10 (suc n)) 0 0 = get_or-map (λ d. 48 + d) (digits_of 10 (suc n)) 0 0 0 some in
    absurd (omega (arith, first, is, h))

-- one more digit
pub digits_text-more : (m c : ℕ) → IsInRange 48 57 c → 0 < m * 10 + (c - 48) → digits_text m ++ c ∷ [] ≡ digits_text (m * 10 + (c - 48))
digits_text-more m c digit some =
    let n : ℕ = m * 10 + (c - 48) in
    let front : (m * 10 + (c - 48)) / 10 ≡ m = div-mul-add m 10 (c - 48) (omega (arith, digit.0, digit.1)) in
    let last : 48 + (m * 10 + (c - 48)) % 10 ≡ c = omega (arith, front, div-add-mod' (m * 10 + (c - 48)) 10, digit.0, digit.1) in
    sym (digits_text-step (m * 10 + (c - 48)) some ∙ rw (front, last) refl)

-- the first i bytes are the digits of a number, which n counts
pub record SoFar (text : List ℕ) (limit i : ℕ) (n : Option ℕ) : Type 0 where
  pub m : ℕ
  pub seen : take i text ≡ digits_text m
  pub counts : Counts limit m n

pub sofar_some : (text : List ℕ) (i m : ℕ) → i < length text → get_or text 0 0 ≢ 48 → IsInRange 48 57 (get_or text i 0) → take i text ≡ digits_text m → 0 < m * 10 + (get_or text i 0 - 48)
sofar_some text zero m inside first digit seen = omega (arith, digit.0, first)
sofar_some text (suc i) zero inside first digit seen =
    absurd (let e : length (take (suc i) text) ≡ 0 = ap length seen in omega (arith, e, length-take-le (suc i) text (omega (arith, inside))))
sofar_some text (suc i) (suc m) inside first digit seen = omega arith

pub sofar_more : (text : List ℕ) (limit i : ℕ) (n n' : Option ℕ) → i < length text → get_or text 0 0 ≢ 48 → IsInRange 48 57 (get_or text i 0) →
    SoFar text limit i n → ((m : ℕ) → Counts limit m n → Counts limit (m * 10 + (get_or text i 0 - 48)) n') → SoFar text limit (i + 1) n'
sofar_more text limit i n n' inside first digit so next = record {
  m = so.m * 10 + (get_or text i 0 - 48);
  seen = rw (add-one, take-suc text i 0 inside, so.seen) (digits_text-more so.m (get_or text i 0) digit (sofar_some text i so.m inside first digit so.seen));
  counts = next so.m so.counts;
}
