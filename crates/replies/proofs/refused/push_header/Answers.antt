use Rattle.std.proofs.Common.{◌≡◌, ℕ, ◌∷◌, [], ◌++◌, subst}
use Rattle.std.specs.Prelude.{codes}
use Rattle.atto.specs.Decimal.{decimal_of}
use Rattle.line_format.specs.Words.{words}
use Rattle.ports.proofs.Composing.{two_more}
use Rattle.replies.proofs.refused.push_header.Goals as goal

pub returns : goal.returns
returns c = λ first ws is.
    let one = c.push_number.ensures.appended first ws is in
    let two = two_more first ws (decimal_of c.from.result) (codes "header") _ (c.push_word.ensures.appended first (ws ++ decimal_of c.from.result ∷ []) one) in
    subst (λ (n : ℕ). c.push_word.new.text.items ≡ words (first ∷ ws ++ decimal_of n ∷ codes "header" ∷ [])) c.from.ensures two
