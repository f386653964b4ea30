-- The line of an event with a text, behind its first two words.
use Rattle.std.proofs.Common.{◌≡◌, ◌<◌, ℕ, ℤ, List, [], ◌∷◌, ◌++◌, length, ap, arith}
use Rattle.atto.specs.NsText.{ns_text}
use Rattle.line_format.specs.Words.{words}
use Rattle.ports.proofs.Composing.{words_more}
use Rattle.report.specs.Merging.{merge_line}

pub with_text : (value : ℤ) (name head text : List ℕ) → head ≡ words (ns_text value ∷ name ∷ []) → 0 < length text → ((head ++ 32 ∷ []) ++ text) ++ 10 ∷ [] ≡ merge_line value name text
with_text value name head [] is some = absurd (omega (arith, some))
with_text value name head (b ∷ more) is some = ap (λ (l : List ℕ). l ++ 10 ∷ []) (words_more (ns_text value) (name ∷ []) (b ∷ more) head is)
