-- A text of units in its parts.
use Rattle.std.proofs.Common.{◌≡◌, ℕ, zero, suc, ◌+◌, ◌-◌, ◌*◌, ◌/◌, ◌%◌, ◌<◌, ◌≤◌, ◌^◌, List, ◌∷◌, ◌++◌, length, take, drop, All, refl, sym, ◌∙◌, ap, arith, rules, length-append}
use Rattle.std.specs.Int.{IsInRange}
use Rattle.std.proofs.Math.Seq.{take-append_seam, drop-append_seam}
use Rattle.std.proofs.lemmas.Nat.{div-mul-add, div-add-mod'}
use Rattle.std.proofs.lemmas.List.Elements.{All-push}
use Rattle.atto.specs.Decimal.{decimal_of}
use Rattle.atto.specs.NsText.{last_digits, unsigned_ns_text}
use Rattle.atto.specs.Number.{IsFault}
use Rattle.atto.specs.declared.text.NumFault.{NumFault}
use Rattle.atto.specs.declared.text.NumFault.TheVariants.{Spelling, Range}
use Rattle.atto.proofs.DecimalLemmas.{length-last_digits}

digit_below : (n : ℕ) → n % 10 < 10
digit_below n = search rules

pub last_digits-digits : (k n : ℕ) → All (λ c. IsInRange 48 57 c) (last_digits k n)
last_digits-digits zero n = λ i d inside. absurd (omega (arith, inside))
last_digits-digits (suc k) n = All-push (λ c. IsInRange 48 57 c) (last_digits k (n / 10)) (48 + n % 10) (last_digits-digits k (n / 10)) (omega arith, omega (arith, digit_below n))

pub parts : (front back text : List ℕ) → length back ≡ 10 → text ≡ front ++ back → (10 ≤ length text) × (take (length text - 10) text ≡ front) × (drop (length text - 10) text ≡ back)
parts front back text ten is =
    let e : length text - 10 ≡ length front = omega (arith, ap length is, length-append front back, ten) in
    (omega (arith, ap length is, length-append front back, ten), rw (e, is) (take-append_seam front back), rw (e, is) (drop-append_seam front back))

pub ns_parts : (text whole : List ℕ) (n : ℕ) → text ≡ whole ++ 46 ∷ last_digits 9 n →
    (10 ≤ length text) × (take (length text - 10) text ≡ whole) × (drop (length text - 10) text ≡ 46 ∷ last_digits 9 n)
ns_parts text whole n is = parts whole (46 ∷ last_digits 9 n) text (let e : length (last_digits 9 n) ≡ 9 = length-last_digits 9 n in omega (arith, e)) is

pub ns_joined : (s n : ℕ) → n < 1000000000 → unsigned_ns_text (s * 1000000000 + n) ≡ decimal_of s ++ 46 ∷ last_digits 9 n
ns_joined s n below =
    let front : (s * 1000000000 + n) / 1000000000 ≡ s = div-mul-add s 1000000000 n below in
    let back : (s * 1000000000 + n) % 1000000000 ≡ n = omega (arith, front, div-add-mod' (s * 1000000000 + n) 1000000000) in
    rw (front, back) refl

pub ns_spelled : (text whole : List ℕ) (s n : ℕ) → text ≡ whole ++ 46 ∷ last_digits 9 n → n < 1000000000 → whole ≡ decimal_of s → text ≡ unsigned_ns_text (s * 1000000000 + n)
ns_spelled text whole s n is below spelled = is ∙ (rw spelled (sym (ns_joined s n below)))

pub ns_fault : (text whole : List ℕ) (n : ℕ) (e : NumFault) → text ≡ whole ++ 46 ∷ last_digits 9 n → n < 1000000000 →
    IsFault decimal_of (λ n. n < 2 ^ 92) whole e → IsFault unsigned_ns_text (λ n. n ≤ 2 ^ 120) text e
ns_fault text whole n Spelling is below fault = λ v e.
    fault (v / 1000000000) (sym (ns_parts text whole n is).1 ∙ (ns_parts text (decimal_of (v / 1000000000)) (v % 1000000000) e).1)
ns_fault text whole n Range is below fault =
    (fault.0 * 1000000000 + n, ns_spelled text whole fault.0 n is below fault.1, λ fits. fault.2 (omega (arith, fits)))
