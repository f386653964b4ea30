-- Texts of units with and without a sign.
use Rattle.std.proofs.Common.{◌≡◌, ℕ, zero, suc, ◌+◌, ◌-◌, ◌/◌, ◌%◌, ◌<◌, ◌≤◌, ◌^◌, List, ◌∷◌, get_or, drop, ℤ, pos, negsuc, refl, sym, ◌∙◌, ap, arith, rules}
use Rattle.std.proofs.Math.ListN.{get_or-append}
use Rattle.std.proofs.lemmas.List.{map-append}
use Rattle.std.proofs.lemmas.Int.Digits.{number_push}
use Rattle.std.proofs.lemmas.Nat.{div-add-mod', div_below}
use Rattle.atto.specs.Decimal.{decimal_of}
use Rattle.atto.specs.NsText.{last_digits, unsigned_ns_text, ns_text}
use Rattle.atto.specs.Number.{IsFault, FitsUnits}
use Rattle.atto.specs.declared.text.NumFault.{NumFault}
use Rattle.atto.specs.declared.text.NumFault.TheVariants.{Spelling, Range}
use Rattle.atto.proofs.OneSpelling.{spelled, decimal_of_injective}
use Rattle.atto.proofs.Reading.{decimal_of-digits, decimal_of-nonempty}
use Rattle.atto.proofs.NsReading.{ns_parts}

same_rest : (a b : ℕ) (xs ys : List ℕ) → a ∷ xs ≡ b ∷ ys → xs ≡ ys
same_rest a b xs ys e = ap (drop 1) e

pub no_sign : (n : ℕ) (more : List ℕ) → 45 ∷ more ≡ unsigned_ns_text n → ⊥
no_sign n more e =
    let first : get_or (unsigned_ns_text n) 0 0 ≡ get_or (decimal_of (n / 1000000000)) 0 0 = get_or-append (decimal_of (n / 1000000000)) _ 0 0 (decimal_of-nonempty (n / 1000000000)) in
    let sign : 45 ≡ get_or (unsigned_ns_text n) 0 0 = ap (λ xs. get_or xs 0 0) e in
    let digit : 48 ≤ get_or (decimal_of (n / 1000000000)) 0 0 = (decimal_of-digits (n / 1000000000) 0 (decimal_of-nonempty (n / 1000000000))).0 in
    omega (arith, first, sign, digit)

spelled-last_digits : (k n : ℕ) → n < 10 ^ k → spelled (last_digits k n) ≡ n
spelled-last_digits zero n below = omega (arith, below)
spelled-last_digits (suc k) n below =
    let front : spelled (last_digits k (n / 10)) ≡ n / 10 = spelled-last_digits k (n / 10) (search (rules, div_below)) in
    let one : (48 + n % 10) - 48 ≡ n % 10 = omega arith in
    rw (map-append, one, number_push) (omega (arith, front, div-add-mod' n 10))

rest_below : (n : ℕ) → n % 1000000000 < 1000000000
rest_below n = search rules

pub unsigned_ns_text_injective : (m n : ℕ) → unsigned_ns_text m ≡ unsigned_ns_text n → m ≡ n
unsigned_ns_text_injective m n e =
    let a = ns_parts (unsigned_ns_text n) (decimal_of (m / 1000000000)) (m % 1000000000) (sym e) in
    let b = ns_parts (unsigned_ns_text n) (decimal_of (n / 1000000000)) (n % 1000000000) refl in
    let front : m / 1000000000 ≡ n / 1000000000 = decimal_of_injective _ _ (sym a.1 ∙ b.1) in
    let digits : last_digits 9 (m % 1000000000) ≡ last_digits 9 (n % 1000000000) = ap (drop 1) (sym a.2 ∙ b.2) in
    let back : m % 1000000000 ≡ n % 1000000000 =
    sym (spelled-last_digits 9 (m % 1000000000) (rest_below m)) ∙ ap spelled digits ∙ spelled-last_digits 9 (n % 1000000000) (rest_below n) in
    omega (arith, front, back, div-add-mod' m 1000000000, div-add-mod' n 1000000000)

pub ns_text_injective : (y z : ℤ) → ns_text y ≡ ns_text z → y ≡ z
ns_text_injective (pos m) (pos n) e = ap pos (unsigned_ns_text_injective m n e)
ns_text_injective (pos m) (negsuc n) e = absurd (no_sign m (unsigned_ns_text (suc n)) (sym e))
ns_text_injective (negsuc m) (pos n) e = absurd (no_sign n (unsigned_ns_text (suc m)) e)
ns_text_injective (negsuc m) (negsuc n) e = let same : suc m ≡ suc n = unsigned_ns_text_injective (suc m) (suc n) (same_rest 45 45 _ _ e) in cc

pub no_minus_zero : (rest : List ℕ) (m : ℕ) (v : ℤ) → m ≡ 0 → rest ≡ unsigned_ns_text m → 45 ∷ rest ≡ ns_text v → ⊥
no_minus_zero rest m (pos n) zero_is is e = no_sign n rest e
no_minus_zero rest m (negsuc n) zero_is is e =
    let same : m ≡ suc n = unsigned_ns_text_injective m (suc n) (sym is ∙ same_rest 45 45 _ _ e) in omega (arith, same, zero_is)

pub negative_fault : (rest : List ℕ) (e : NumFault) → IsFault unsigned_ns_text (λ n. n ≤ 2 ^ 120) rest e → IsFault ns_text FitsUnits (45 ∷ rest) e
negative_fault rest Spelling fault = none
  where
    none : (v : ℤ) → 45 ∷ rest ≡ ns_text v → ⊥
    none (pos n) e = no_sign n rest e
    none (negsuc n) e = fault (suc n) (same_rest 45 45 _ _ e)
negative_fault rest Range fault = range fault.0 fault.1 fault.2
  where
    range : (n : ℕ) → rest ≡ unsigned_ns_text n → (n ≤ 2 ^ 120 → ⊥) → (v : ℤ) × (45 ∷ rest ≡ ns_text v) × (FitsUnits v → ⊥)
    range zero is big = absurd (big (omega arith))
    range (suc n) is big = (negsuc n, ap (λ xs. 45 ∷ xs) is, λ fits. big (omega (arith, fits)))

pub positive_fault : (text : List ℕ) (e : NumFault) → ((more : List ℕ) → text ≡ 45 ∷ more → ⊥) → IsFault unsigned_ns_text (λ n. n ≤ 2 ^ 120) text e → IsFault ns_text FitsUnits text e
positive_fault text Spelling unsigned fault = none
  where
    none : (v : ℤ) → text ≡ ns_text v → ⊥
    none (pos n) e = fault n e
    none (negsuc n) e = unsigned (unsigned_ns_text (suc n)) e
positive_fault text Range unsigned fault = (pos fault.0, fault.1, fault.2)
