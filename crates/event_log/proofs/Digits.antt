-- The number that digits write, digit by digit.
use Rattle.std.proofs.Common.{◌≡◌, ◌<◌, ◌≤◌, ◌^◌, ◌*◌, ◌+◌, ◌-◌, ℕ, suc, List, length, take, get_or, ◌∙◌, ap, arith}
use Rattle.std.proofs.Math.Nat.{pow-le-pow_right, pow-succ'}
use Rattle.std.proofs.lemmas.Int.Digits.{digits_value_more}
use Rattle.std.proofs.lemmas.List.Elements.{All-get_or}
use Rattle.std.specs.Prelude.{All}
use Rattle.std.specs.Int.{IsInRange}
use Rattle.std.specs.Str.Parse.{digits_value}
use Rattle.std.specs.Char.{digit_value}

-- what a digit counts
digit_counts : (c : ℕ) → 48 ≤ c → c ≤ 57 → digit_value c ≡ c - 48
digit_counts c lo hi = grind (arith, lo, hi)

-- one digit more
pub digit_more : (text : List ℕ) (i n : ℕ) → i < length text → All (λ c. IsInRange 48 57 c) text → n ≡ digits_value 10 (take i text) → n < 10 ^ i
    → (n * 10 + (get_or text i 0 - 48) ≡ digits_value 10 (take (i + 1) text)) × (n * 10 + (get_or text i 0 - 48) < 10 ^ (i + 1))
digit_more text i n within digits is below =
    let digit : IsInRange 48 57 (get_or text i 0) = All-get_or (λ c. IsInRange 48 57 c) text i 0 within digits in
    let counts : digit_value (get_or text i 0) ≡ get_or text i 0 - 48 = digit_counts (get_or text i 0) digit.0 digit.1 in
    let more : digits_value 10 (take (i + 1) text) ≡ digits_value 10 (take i text) * 10 + digit_value (get_or text i 0) = digits_value_more 10 text i within in
    let next : i + 1 ≡ suc i = omega arith in
    let power : 10 ^ (i + 1) ≡ 10 * 10 ^ i = ap (λ (k : ℕ). 10 ^ k) next ∙ pow-succ' 10 i in (
      omega (arith, is, counts, more),
      omega (arith, below, power, digit.0, digit.1),
    )

-- the number fits
pub digit_fits : (text : List ℕ) (i n : ℕ) → i < length text → length text ≤ 19 → All (λ c. IsInRange 48 57 c) text → n < 10 ^ i → n * 10 + (get_or text i 0 - 48) < 2 ^ 64
digit_fits text i n within short digits below =
    let digit : IsInRange 48 57 (get_or text i 0) = All-get_or (λ c. IsInRange 48 57 c) text i 0 within digits in
    let bound : 10 ^ i ≤ 10 ^ 18 = pow-le-pow_right (omega arith) {j = 18} (omega (arith, within, short)) in
    omega (arith, below, bound, digit.0, digit.1)
