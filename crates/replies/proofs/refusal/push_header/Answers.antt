use Rattle.std.proofs.Common.{◌≡◌, ℕ, ◌∷◌, [], ◌++◌, subst}
use Rattle.std.specs.Prelude.{codes}
use Rattle.atto.specs.Decimal.{decimal_of}
use Rattle.line_format.specs.Words.{words}
use Rattle.ports.proofs.Composing.{two_more}
use Rattle.replies.proofs.refusal.push_header.Goals as goal

pub returns-clause-appended : goal.returns-clause-appended
returns-clause-appended c = λ first ws is.
    let one = c.push_decimal.ensures.appended first ws is in
    let two = two_more first ws (decimal_of c.from.result) (codes "header") _ (c.push_word.ensures.appended first (ws ++ decimal_of c.from.result ∷ []) one) in
    subst (λ (n : ℕ). c.push_word.new.line.items ≡ words (first ∷ ws ++ decimal_of n ∷ codes "header" ∷ [])) c.from.ensures two
