-- Cutting a list of bytes at a byte.
use Rattle.std.specs.Prelude.{◌≢◌, ℕ, zero, suc, ◌==◌, List, [], ◌∷◌, Option, Some, None, cond}
use Rattle.std.specs.List.{AllByRecursion}
use Rattle.std.specs.Borrow.{Bor}

-- one more byte in front
abbrev pub onto_cut : ℕ → Option (List ℕ × List ℕ) → Option (List ℕ × List ℕ)
onto_cut x None = None
onto_cut x (Some p) = Some (x ∷ p.0, p.1)

-- what stands before and after the first byte d, and `None` where there is none
abbrev pub cut : ℕ → List ℕ → Option (List ℕ × List ℕ)
cut d [] = None
cut d (x ∷ xs) = cond (x == d) (Some ([], xs)) (onto_cut x (cut d xs))

-- no byte is d
abbrev pub Lacks : ℕ → List ℕ → Type 0
Lacks d bytes = AllByRecursion (λ b. b ≢ d) bytes

-- the bytes behind the slices of an answer
abbrev pub seen_cut : Option (Bor (List ℕ) × Bor (List ℕ)) → Option (List ℕ × List ℕ)
seen_cut None = None
seen_cut (Some p) = Some (p.0.now, p.1.now)

-- goes on where there is a value
infixl 10 ◌>>=◌
abbrev pub ◌>>=◌ : {A B : Type 0} → Option A → (A → Option B) → Option B
None >>= f = None
(Some x) >>= f = f x

-- the words of a line, of which there are n more than one; the last one takes what is left
unfoldable pub fields : ℕ → List ℕ → Option (List (List ℕ))
fields zero line = Some (line ∷ [])
fields (suc n) line = do
  first ← cut 32 line
  more ← fields n first.1
  Some (first.0 ∷ more)

-- the words behind three slices
abbrev pub seen_three : Option (Bor (List ℕ) × Bor (List ℕ) × Bor (List ℕ)) → Option (List (List ℕ))
seen_three None = None
seen_three (Some p) = Some (p.0.now ∷ p.1.now ∷ p.2.now ∷ [])

-- the words behind four slices
abbrev pub seen_four : Option (Bor (List ℕ) × Bor (List ℕ) × Bor (List ℕ) × Bor (List ℕ)) → Option (List (List ℕ))
seen_four None = None
seen_four (Some p) = Some (p.0.now ∷ p.1.now ∷ p.2.now ∷ p.3.now ∷ [])

-- the words behind five slices
abbrev pub seen_five : Option (Bor (List ℕ) × Bor (List ℕ) × Bor (List ℕ) × Bor (List ℕ) × Bor (List ℕ)) → Option (List (List ℕ))
seen_five None = None
seen_five (Some p) = Some (p.0.now ∷ p.1.now ∷ p.2.now ∷ p.3.now ∷ p.4.now ∷ [])
