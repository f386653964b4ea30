-- Fronts of lists, and lists that are filled up.
use Rattle.std.proofs.Common.{◌≡◌, ◌≤◌, ℕ, zero, suc, List, [], ◌∷◌, ◌++◌, length, take, drop, refl, sym, ap, subst, ◌∙◌, arith}
use Rattle.std.proofs.lemmas.List.{take_at, drop_at}
use Rattle.packets.specs.Streams.{IsFrontOf}

-- lists that are joined alike, the first two of one length, have the same front and the same rest
pub same_front : (a b x y : List ℕ) → length a ≡ length b → a ++ x ≡ b ++ y → a ≡ b
same_front a b x y long same = sym (take_at a x (length b) long) ∙ ap (λ (l : List ℕ). take (length b) l) same ∙ take_at b y (length b) refl

pub same_rest : (a b x y : List ℕ) → length a ≡ length b → a ++ x ≡ b ++ y → x ≡ y
same_rest a b x y long same = sym (drop_at a x (length b) long) ∙ ap (λ (l : List ℕ). drop (length b) l) same ∙ drop_at b y (length b) refl

take_front : (n : ℕ) (front after : List ℕ) → IsFrontOf (take n front) (take n (front ++ after))
take_front zero front after = ([], refl)
take_front (suc n) [] after = (take (suc n) after, refl)
take_front (suc n) (x ∷ front) after =
    let rest = take_front n front after in
    (rest.0, ap (λ (l : List ℕ). x ∷ l) rest.1)

drop_front : (n : ℕ) (front after : List ℕ) → IsFrontOf (drop n front) (drop n (front ++ after))
drop_front zero front after = (after, refl)
drop_front (suc n) [] after = (drop (suc n) after, refl)
drop_front (suc n) (x ∷ front) after = drop_front n front after

-- what is a front stays one without the same number of first bytes, or of last ones
pub front_take : (n : ℕ) (front whole : List ℕ) → IsFrontOf front whole → IsFrontOf (take n front) (take n whole)
front_take n front whole is = subst (λ (l : List ℕ). IsFrontOf (take n front) (take n l)) is.1 (take_front n front is.0)

pub front_drop : (n : ℕ) (front whole : List ℕ) → IsFrontOf front whole → IsFrontOf (drop n front) (drop n whole)
front_drop n front whole is = subst (λ (l : List ℕ). IsFrontOf (drop n front) (drop n l)) is.1 (drop_front n front is.0)

-- the bytes, and behind them what the other list has there
abbrev pub fill : List ℕ → List ℕ → List ℕ
fill bytes full = bytes ++ drop (length bytes) full

pub take_fill : (k : ℕ) (bytes full : List ℕ) → IsFrontOf (take k bytes) (take k full) → take k (fill bytes full) ≡ take k full
take_fill zero bytes full front = refl
take_fill (suc k) [] full front = refl
take_fill (suc k) (x ∷ xs) [] front = absurd (cc (front.1))
take_fill (suc k) (x ∷ xs) (y ∷ ys) front =
    let head : x ≡ y = cc (front.1) in
    let tail : take k xs ++ front.0 ≡ take k ys = cc (front.1) in
    let rest = take_fill k xs ys (front.0, tail) in
    cc

pub drop_fill : (k : ℕ) (bytes full : List ℕ) → length bytes ≤ length full → drop k (fill bytes full) ≡ fill (drop k bytes) (drop k full)
drop_fill zero bytes full short = refl
drop_fill (suc k) [] full short = refl
drop_fill (suc k) (x ∷ xs) [] short = absurd (omega (arith, short))
drop_fill (suc k) (x ∷ xs) (y ∷ ys) short = drop_fill k xs ys (omega (arith, short))
