-- The bits of the field with the flags of a datagram.
use Rattle.std.proofs.Common.{◌≡◌, ℕ, ◌*◌, ◌/◌, ◌%◌, Bool, true, false, not, ◌||◌, nat_eq, bit_and, refl, sym, ap, ◌∙◌, subst, arith}
use Rattle.std.specs.Int.Bits.{and_zero_r}
use Rattle.std.proofs.lemmas.Bool.Decides.{nat_tests}
use Rattle.std.proofs.lemmas.Nat.{and_mask, and_mod, and_shr}

by_parts : (m q : ℕ) → m / 8192 ≡ q → m % 8192 ≡ 0 → m ≡ 8192 * q
by_parts m q e r = omega arith

same_zero : (m q : ℕ) → m ≡ 8192 * q → nat_eq m 0 ≡ nat_eq q 0
same_zero m q e = grind (arith, nat_tests)

-- the bit by itself, and the number that it is the lowest of
flag_is : (n : ℕ) → nat_eq (bit_and n 8192) 0 ≡ nat_eq (n / 8192 % 2) 0
flag_is n =
    let high : bit_and n 8192 / 8192 ≡ n / 8192 % 2 = and_shr n 8192 13 ∙ and_mask (n / 8192) 1 in
    let low : bit_and n 8192 % 8192 ≡ 0 = and_mod n 8192 13 ∙ and_zero_r (n % 8192) in
    same_zero (bit_and n 8192) (n / 8192 % 2) (by_parts (bit_and n 8192) (n / 8192 % 2) high low)

offset_is : (n : ℕ) → nat_eq (bit_and n 8191) 0 ≡ nat_eq (n % 8192) 0
offset_is n = ap (λ (m : ℕ). nat_eq m 0) (and_mask n 13)

not_zero : (m : ℕ) → (m ≡ 0 → ⊥) → not (nat_eq m 0) ≡ true
not_zero m h = grind (arith, nat_tests)

either : (x y : Bool) → x ≡ true → x ≡ (x || y)
either true y h = refl
either false y h = cc

-- the bit is set, or else the bits below it say
pub flag_set : (n field : ℕ) → n ≡ field → (bit_and n 8192 ≡ 0 → ⊥) → not (nat_eq (bit_and n 8192) 0) ≡ (not (nat_eq (field / 8192 % 2) 0) || not (nat_eq (field % 8192) 0))
flag_set n field e h =
    subst (λ (f : ℕ). not (nat_eq (bit_and n 8192) 0) ≡ (not (nat_eq (f / 8192 % 2) 0) || not (nat_eq (f % 8192) 0))) e
    (either (not (nat_eq (bit_and n 8192) 0)) (not (nat_eq (n % 8192) 0)) (not_zero (bit_and n 8192) h) ∙ ap (λ (b : Bool). not b || not (nat_eq (n % 8192) 0)) (flag_is n))

pub flag_clear : (n field : ℕ) → n ≡ field → bit_and n 8192 ≡ 0 → not (nat_eq (bit_and n 8191) 0) ≡ (not (nat_eq (field / 8192 % 2) 0) || not (nat_eq (field % 8192) 0))
flag_clear n field e h =
    let clear : nat_eq (n / 8192 % 2) 0 ≡ true = sym (flag_is n) ∙ ap (λ (m : ℕ). nat_eq m 0) h in
    subst (λ (f : ℕ). not (nat_eq (bit_and n 8191) 0) ≡ (not (nat_eq (f / 8192 % 2) 0) || not (nat_eq (f % 8192) 0))) e
    (ap not (offset_is n) ∙ sym (ap (λ (b : Bool). not b || not (nat_eq (n % 8192) 0)) clear))
