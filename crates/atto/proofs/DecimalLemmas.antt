-- What the decimal of a number begins and ends with, and how long it is.
use Rattle.std.proofs.Common.{◌≡◌, ℕ, zero, suc, ◌+◌, ◌/◌, ◌%◌, ◌<◌, ◌≤◌, ◌^◌, List, [], ◌∷◌, ◌++◌, map, length, refl, ◌∙◌, ap, arith, length-append}
use Rattle.std.specs.Int.Digits.{digits_of}
use Rattle.std.proofs.lemmas.Int.Digits.{digits_of_step, length-digits_of-le}
use Rattle.std.proofs.lemmas.List.{map-append, length-map}
use Rattle.std.proofs.lemmas.Nat.{div-add-mod', div_below, le-div}
use Rattle.atto.specs.Decimal.{decimal_of}
use Rattle.atto.specs.NsText.{last_digits}

abbrev pub digits_text : ℕ → List ℕ
digits_text n = map (λ d. 48 + d) (digits_of 10 n)

pub decimal_of-positive : (n : ℕ) → 0 < n → decimal_of n ≡ digits_text n
decimal_of-positive zero h = absurd (omega (arith, h))
decimal_of-positive (suc n) h = refl

pub digits_text-step : (n : ℕ) → 0 < n → digits_text n ≡ digits_text (n / 10) ++ (48 + n % 10) ∷ []
digits_text-step n h =
    ap (map (λ d. 48 + d)) (digits_of_step 10 n (omega arith) h) ∙ map-append (λ d. 48 + d) (digits_of 10 (n / 10)) (n % 10 ∷ [])

pub decimal_of-small : (n : ℕ) → n < 10 → decimal_of n ≡ (48 + n) ∷ []
decimal_of-small zero h = refl
decimal_of-small (suc n) h =
    let none : suc n / 10 ≡ 0 = omega (arith, div_below (suc n) 10 1 (omega arith) h) in
    let all : suc n % 10 ≡ suc n = omega (arith, none, div-add-mod' (suc n) 10) in
    digits_text-step (suc n) (omega arith) ∙ rw (none, all) refl

pub decimal_of-step : (n : ℕ) → 10 ≤ n → decimal_of n ≡ decimal_of (n / 10) ++ (48 + n % 10) ∷ []
decimal_of-step n h =
    let some : 0 < n / 10 = omega (arith, le-div 1 n 10 (omega arith) h) in
    rw (decimal_of-positive n (omega arith), decimal_of-positive (n / 10) some) (digits_text-step n (omega arith))

pub length-decimal_of-le : (k n : ℕ) → 0 < k → n < 10 ^ k → length (decimal_of n) ≤ k
length-decimal_of-le k zero h small = omega arith
length-decimal_of-le k (suc n) h small = rw length-map (length-digits_of-le 10 k (suc n) (omega arith) small)

pub length-decimal_of-step : (n : ℕ) → 10 ≤ n → length (decimal_of n) ≡ length (decimal_of (n / 10)) + 1
length-decimal_of-step n h = rw (decimal_of-step n h, length-append) refl

pub length-last_digits : (k n : ℕ) → length (last_digits k n) ≡ k
length-last_digits zero n = refl
length-last_digits (suc k) n = rw (length-append, length-last_digits k (n / 10)) (omega arith)
