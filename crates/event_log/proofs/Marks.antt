-- A byte order mark in front of a text.
use Rattle.std.proofs.Common.{◌≡◌, ◌≤◌, ◌+◌, ℕ, suc, zero, List, [], ◌∷◌, length, take, drop, get_or, true, false, refl, sym, ap, subst, ◌∙◌, arith}
use Rattle.std.specs.Prelude.{All}
use Rattle.csv.specs.Reading.{default_config, is_bom, records, strip_bom}
use Rattle.event_log.specs.Front.{IsFrontOfRecords}
use Rattle.event_log.specs.Log.{records_of}

pub marked : (xs : List ℕ) → 3 ≤ length xs → is_bom (get_or xs 0 0) (get_or xs 1 0) (get_or xs 2 0) ≡ true → drop 3 xs ≡ strip_bom xs
unfolding strip_bom
marked [] long is = absurd (omega (arith, long))
marked (a ∷ []) long is = absurd (omega (arith, long))
marked (a ∷ b ∷ []) long is = absurd (omega (arith, long))
marked (a ∷ b ∷ c ∷ rest) long is = rw is refl

marked_three : (xs : List ℕ) (n : ℕ) → 3 ≤ length xs → is_bom (get_or xs 0 0) (get_or xs 1 0) (get_or xs 2 0) ≡ true → strip_bom (take (suc (suc (suc n))) xs) ≡ take n (strip_bom xs)
unfolding strip_bom
marked_three [] n long is = absurd (omega (arith, long))
marked_three (a ∷ []) n long is = absurd (omega (arith, long))
marked_three (a ∷ b ∷ []) n long is = absurd (omega (arith, long))
marked_three (a ∷ b ∷ c ∷ rest) n long is = rw is refl

pub marked_front : (xs : List ℕ) (n : ℕ) → 3 ≤ length xs → is_bom (get_or xs 0 0) (get_or xs 1 0) (get_or xs 2 0) ≡ true → strip_bom (take (3 + n) xs) ≡ take n (strip_bom xs)
marked_front xs n long is = let e : 3 + n ≡ suc (suc (suc n)) = omega arith in rw e (marked_three xs n long is)

-- a text that has none
pub plain : (xs : List ℕ) → (3 ≤ length xs → is_bom (get_or xs 0 0) (get_or xs 1 0) (get_or xs 2 0) ≡ false) → xs ≡ strip_bom xs
unfolding strip_bom
plain [] none = refl
plain (a ∷ []) none = refl
plain (a ∷ b ∷ []) none = refl
plain (a ∷ b ∷ c ∷ rest) none = let e : is_bom a b c ≡ false = none (omega arith) in rw e refl

plain_take : (xs : List ℕ) (n : ℕ) → (3 ≤ length xs → is_bom (get_or xs 0 0) (get_or xs 1 0) (get_or xs 2 0) ≡ false) → strip_bom (take n xs) ≡ take n xs
unfolding strip_bom
plain_take [] zero none = refl
plain_take [] (suc n) none = refl
plain_take (a ∷ []) zero none = refl
plain_take (a ∷ []) (suc zero) none = refl
plain_take (a ∷ []) (suc (suc n)) none = refl
plain_take (a ∷ b ∷ []) zero none = refl
plain_take (a ∷ b ∷ []) (suc zero) none = refl
plain_take (a ∷ b ∷ []) (suc (suc zero)) none = refl
plain_take (a ∷ b ∷ []) (suc (suc (suc n))) none = refl
plain_take (a ∷ b ∷ c ∷ rest) zero none = refl
plain_take (a ∷ b ∷ c ∷ rest) (suc zero) none = refl
plain_take (a ∷ b ∷ c ∷ rest) (suc (suc zero)) none = refl
plain_take (a ∷ b ∷ c ∷ rest) (suc (suc (suc n))) none = let e : is_bom a b c ≡ false = none (omega arith) in rw e refl

pub plain_front : (xs : List ℕ) (n : ℕ) → (3 ≤ length xs → is_bom (get_or xs 0 0) (get_or xs 1 0) (get_or xs 2 0) ≡ false) → strip_bom (take (0 + n) xs) ≡ take n (strip_bom xs)
plain_front xs n none = let e : 0 + n ≡ n = omega arith in rw e (plain_take xs n none ∙ ap (λ (l : List ℕ). take n l) (plain xs none))

-- a front of what stands behind the mark is one of the piece
module _ (piece front rest : List ℕ) (n : ℕ) (behind : rest ≡ strip_bom piece) (cut : strip_bom front ≡ take n (strip_bom piece)) where
  front_is : strip_bom front ≡ take n rest
  front_is = cut ∙ ap (λ (t : List ℕ). take n t) (sym behind)

  pub front_behind : IsFrontOfRecords (records default_config rest) (records default_config (take n rest)) → IsFrontOfRecords (records_of piece) (records_of front)
  front_behind is =
      subst (λ (t : List ℕ). IsFrontOfRecords (records default_config t) (records_of front)) behind
      (subst (λ (t : List ℕ). IsFrontOfRecords (records default_config rest) (records default_config t)) (sym front_is) is)

  pub few_behind : All (λ r. length r ≤ 5) (records default_config (take n rest)) → All (λ r. length r ≤ 5) (records_of front)
  few_behind few = subst (λ (t : List ℕ). All (λ r. length r ≤ 5) (records default_config t)) (sym front_is) few
