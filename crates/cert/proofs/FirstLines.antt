-- A text that begins with a line.
use Rattle.std.proofs.Common.{◌≡◌, ℕ, List, [], ◌∷◌, ◌++◌, Some, None, refl, sym, ◌∙◌, ap, append_assoc}
use Rattle.line_format.specs.Words.{line_of}
use Rattle.line_format.specs.Cut.{cut, Lacks}
use Rattle.line_format.proofs.Cutting.{cut_again, cut_word}
use Rattle.line_format.proofs.Reading.{same_first}

pub behind_line : (text first rest line : List ℕ) → cut 10 text ≡ Some (first, rest) → first ≡ line → text ≡ line_of (line ∷ []) ++ rest
behind_line text first rest line parts is = cut_word 10 text first rest line parts is ∙ sym (append_assoc line (10 ∷ []) rest)

line_cut : (text line more : List ℕ) → Lacks 10 line → text ≡ line_of (line ∷ []) ++ more → cut 10 text ≡ Some (line, more)
line_cut text line more lacks is = ap (cut 10) (is ∙ append_assoc line (10 ∷ []) more) ∙ cut_again 10 line more lacks

pub other_line : (text first rest line : List ℕ) → Lacks 10 line → cut 10 text ≡ Some (first, rest) → (first ≡ line → ⊥) → (more : List ℕ) → text ≡ line_of (line ∷ []) ++ more → ⊥
other_line text first rest line lacks parts other more is = other (same_first 10 text text first rest line more parts refl (line_cut text line more lacks is))

pub no_line : (text line : List ℕ) → Lacks 10 line → cut 10 text ≡ None → (more : List ℕ) → text ≡ line_of (line ∷ []) ++ more → ⊥
no_line text line lacks none more is = let again = line_cut text line more lacks is in cc
