-- The order in which events are merged, and the line of each.
use Rattle.std.specs.Prelude.{◌≡◌, ◌<◌, ◌⊎◌, ℕ, List, [], ◌∷◌, length, slice_get, Some, AllPairs, ℤ, ◌<ℤ◌}
use Rattle.std.specs.List.{range_with_len}
use Rattle.std.specs.List.Sorted.{IsPermutation}
use Rattle.atto.specs.NsText.{ns_text}
use Rattle.line_format.specs.Words.{line_of}
use Rattle.report.specs.declared.merge.MergeKey.{MergeKey}

-- ---- the order
-- an earlier place, or the same one and a lower number
abbrev pub StandsBefore : MergeKey → MergeKey → Type 0
StandsBefore a b = (a.place < b.place) ⊎ ((a.place ≡ b.place) × (a.n < b.n))

-- a lower value, or the same one and what stands before
abbrev pub ComesFirst : MergeKey → MergeKey → Type 0
ComesFirst a b = (a.value <ℤ b.value) ⊎ ((a.value ≡ b.value) × StandsBefore a b)

-- what stands at the one position comes first
abbrev pub ComeInOrder : List MergeKey → ℕ → ℕ → Type 0
ComeInOrder keys i j = (a b : MergeKey) → slice_get keys i ≡ Some a → slice_get keys j ≡ Some b → ComesFirst a b

-- all positions, each once, and each comes before those behind it
pub record IsMergeOrder (keys : List MergeKey) (order : List ℕ) : Type 0 where
  pub all : IsPermutation (range_with_len 0 (length keys)) order
  pub sorted : AllPairs (ComeInOrder keys) order

-- no two have the same place and the same number
abbrev pub AreApart : List MergeKey → Type 0
AreApart keys = AllPairs (λ (a b : MergeKey). (a.place ≡ b.place) → (a.n ≡ b.n) → ⊥) keys

-- ---- lines
-- a text, unless it is empty
abbrev pub text_words : List ℕ → List (List ℕ)
text_words [] = []
text_words (b ∷ more) = (b ∷ more) ∷ []

-- a value in units of 1e-9 ns, as ns text; a name; and a text, unless it is empty
abbrev pub merge_line : ℤ → List ℕ → List ℕ → List ℕ
merge_line value name text = line_of (ns_text value ∷ name ∷ text_words text)
