-- Where a line feed is.
use Rattle.std.proofs.Common.{◌≡◌, ◌≢◌, ℕ, zero, suc, ◌+◌, ◌<◌, ◌≤◌, List, [], ◌∷◌, ◌++◌, length, take, drop, position, ◌==◌, not, cond, nat_eq, nat_lt, Bool, true, false, Some, None, refl, ap, arith, get_or, Contains}
use Rattle.std.specs.List.{position_or_len}
use Rattle.std.proofs.lemmas.List.{take_all}
use Rattle.ports.specs.Lines.{NoFeed}

pub none_append : (xs ys : List ℕ) → NoFeed xs → NoFeed ys → NoFeed (xs ++ ys)
none_append [] ys nx ny = ny
none_append (x ∷ xs) ys nx ny = (nx.0, none_append xs ys nx.1 ny)

pub none_front : (xs ys : List ℕ) → NoFeed (xs ++ ys) → NoFeed xs
none_front [] ys none = tt
none_front (x ∷ xs) ys none = (none.0, none_front xs ys none.1)

none_at : (xs : List ℕ) (k : ℕ) → NoFeed xs → k < length xs → get_or xs k 10 ≡ 10 → ⊥
none_at [] k none small is = absurd (omega (arith, small))
none_at (x ∷ xs) zero none small is = none.0 is
none_at (x ∷ xs) (suc k) none small is = none_at xs k none.1 (omega (arith, small)) is

-- bytes with no line feed do not contain one
pub none_contained : (xs : List ℕ) → NoFeed xs → Contains xs 10 → ⊥
none_contained xs none found = none_at xs found.0 none found.1 found.2

differs : (x : ℕ) → nat_eq x 10 ≡ false → x ≢ 10
differs x is = λ same. absurd (let e : nat_eq 10 10 ≡ false = rw same at is in cc)

none_step : (b : Bool) (x n : ℕ) (xs : List ℕ) → nat_eq x 10 ≡ b → NoFeed (take n xs) → NoFeed (take (cond (not b) (1 + n) 0) (x ∷ xs))
none_step true x n xs is none = tt
none_step false x n xs is none = let e : 1 + n ≡ suc n = omega arith in rw e (differs x is, none)

none_before : (xs : List ℕ) → NoFeed (take (position_or_len (λ b. b == 10) xs) xs)
none_before [] = tt
none_before (x ∷ xs) = none_step (nat_eq x 10) x _ xs refl (none_before xs)

cut_step : (b : Bool) (x n : ℕ) (xs : List ℕ) → nat_eq x 10 ≡ b → (n < length xs → xs ≡ take n xs ++ 10 ∷ drop (n + 1) xs) →
    cond (not b) (1 + n) 0 < length (x ∷ xs) → x ∷ xs ≡ take (cond (not b) (1 + n) 0) (x ∷ xs) ++ 10 ∷ drop (cond (not b) (1 + n) 0 + 1) (x ∷ xs)
cut_step true x n xs is cut small = let same : x ≡ 10 = grind (arith, is) in ap (λ y. y ∷ xs) same
cut_step false x n xs is cut small =
    let one : 1 + n ≡ suc n = omega arith in
    let two : suc n + 1 ≡ suc (n + 1) = omega arith in
    rw (one, two) (ap (λ l. x ∷ l) (cut (omega (arith, small))))

cut_at : (xs : List ℕ) → position_or_len (λ b. b == 10) xs < length xs →
    xs ≡ take (position_or_len (λ b. b == 10) xs) xs ++ 10 ∷ drop (position_or_len (λ b. b == 10) xs + 1) xs
cut_at [] small = absurd (omega (arith, small))
cut_at (x ∷ xs) small = cut_step (nat_eq x 10) x _ xs refl (cut_at xs) small

some_place : (b : Bool) (n k : ℕ) → cond b (Some n) None ≡ Some k → (b ≡ true) × (n ≡ k)
some_place true n k is = (refl, cc)
some_place false n k is = absurd cc

no_place : (b : Bool) (n : ℕ) → cond b (Some n) None ≡ None → b ≡ false
no_place true n is = absurd cc
no_place false n is = refl

-- the bytes up to the first line feed, and those behind it
pub feed_found : (xs : List ℕ) (k : ℕ) → position (λ b. b == 10) xs ≡ Some k → (k < length xs) × NoFeed (take k xs) × (xs ≡ take k xs ++ 10 ∷ drop (k + 1) xs)
feed_found xs k is =
    let at = some_place (nat_lt (position_or_len (λ b. b == 10) xs) (length xs)) _ k is in
    let small : position_or_len (λ b. b == 10) xs < length xs = grind (arith, at.0) in
    (rw (← at.1) small, rw (← at.1) (none_before xs), rw (← at.1) (cut_at xs small))

pub feed_missing : (xs : List ℕ) → position (λ b. b == 10) xs ≡ None → NoFeed xs
feed_missing xs is =
    let none = no_place (nat_lt (position_or_len (λ b. b == 10) xs) (length xs)) _ is in
    let long : length xs ≤ position_or_len (λ b. b == 10) xs = grind (arith, none) in
    let e = take_all _ xs long in rw e at (none_before xs)
