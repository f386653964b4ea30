-- Lists in which nothing stands twice.
use Rattle.std.proofs.Common.{◌≡◌, Bool, true, false, ◌||◌, List, [], ◌∷◌, ◌++◌, refl, sym, ◌∙◌, subst, arith, append_assoc, append-nil}
use Rattle.std.specs.Prelude.{All, AllPairs, ⊤}
use Rattle.std.specs.List.{list_any}
use Rattle.std.proofs.lemmas.Bool.{false≢true}
use Rattle.std.proofs.lemmas.List.Elements.{All-cons, All-nil}
use Rattle.std.proofs.lemmas.List.Folds.{list_any-append}
use Rattle.std.proofs.lemmas.List.Kept.{AllPairs-cons}

module _ {A : Type 0} (same : A → A → Bool) where
  -- none of these is the same as one before it
  abbrev pub IsFresh : List A → List A → Type 0
  IsFresh before [] = ⊤
  IsFresh before (x ∷ xs) = (list_any (λ b. same b x) before ≡ false) × IsFresh (before ++ x ∷ []) xs

  pub fresh_append : (before xs ys : List A) → IsFresh before xs → IsFresh (before ++ xs) ys → IsFresh before (xs ++ ys)
  fresh_append before [] ys fresh more = subst (λ (b : List A). IsFresh b ys) (append-nil before) more
  fresh_append before (x ∷ xs) ys fresh more = (fresh.0, fresh_append (before ++ x ∷ []) xs ys fresh.1 (subst (λ (b : List A). IsFresh b ys) (sym (append_assoc before (x ∷ []) xs)) more))

  or_right : (a b : Bool) → b ≡ true → (a || (b || false)) ≡ true
  or_right true b e = refl
  or_right false true e = refl
  or_right false false e = cc

  or_left : (a b : Bool) → a ≡ true → (a || b) ≡ true
  or_left true b e = refl
  or_left false b e = cc

  -- what stands before is the same as none of them
  apart : (x : A) (before xs : List A) → IsFresh before xs → ((y : A) → same x y ≡ true → list_any (λ b. same b y) before ≡ true) → All (λ (y : A). same x y ≡ false) xs
  apart x before [] fresh stands = All-nil (λ (y : A). same x y ≡ false)
  apart x before (y ∷ xs) fresh stands =
      All-cons (λ (z : A). same x z ≡ false) y xs (other (same x y) refl)
      (apart x (before ++ y ∷ []) xs fresh.1 (λ z e. list_any-append (λ (b : A). same b z) before (y ∷ []) ∙ or_left _ _ (stands z e)))
    where
      other : (b : Bool) → same x y ≡ b → same x y ≡ false
      other true e = absurd (false≢true (sym fresh.0 ∙ stands y e))
      other false e = e

  pub all_apart : (before xs : List A) → IsFresh before xs → AllPairs (λ (x y : A). same x y ≡ false) xs
  all_apart before [] fresh = λ i j d below inside. absurd (omega (arith, inside))
  all_apart before (x ∷ xs) fresh =
      AllPairs-cons (λ (a b : A). same a b ≡ false) x xs
      (apart x (before ++ x ∷ []) xs fresh.1 (λ y e. list_any-append (λ (b : A). same b y) before (x ∷ []) ∙ or_right (list_any (λ (b : A). same b y) before) _ e))
      (all_apart (before ++ x ∷ []) xs fresh.1)
