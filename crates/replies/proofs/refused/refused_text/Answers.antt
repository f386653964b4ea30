use Rattle.std.proofs.Common.{◌≡◌, ◌≤◌, ◌+◌, ◌∷◌, [], ◌++◌, ◌∙◌, ap, subst, sym, ℕ, List, length, arith}
use Rattle.std.specs.Prelude.{codes}
use Rattle.atto.specs.Decimal.{decimal_of}
use Rattle.line_format.specs.Words.{words}
use Rattle.replies.specs.Refusals.{details}
use Rattle.replies.proofs.Numbers.{number_short}
use Rattle.replies.proofs.refused.refused_text.Goals as goal

-- 7 bytes, a space and two digits
pub push_number-requires : goal.push_number-requires
push_number-requires c =
    let long : length c.first_word-text.result.items ≡ 7 = ap length c.first_word-text.ensures in
    omega (arith, long)

pub push_details-requires : goal.push_details-requires
push_details-requires c =
    let long : length c.first_word-text.result.items ≡ 7 = ap length c.first_word-text.ensures in
    let more : length c.push_number.new.text.items ≡ length c.first_word-text.result.items + 1 + length (decimal_of c.number.result) = c.push_number.ensures.exact in
    let digits : length (decimal_of c.number.result) ≤ 2 = subst (λ (n : ℕ). length (decimal_of n) ≤ 2) (sym c.number.ensures) (number_short c.args.refusal) in
    omega (arith, long, more, digits)

pub returns : goal.returns
returns c =
    let number = c.push_number.ensures.appended (codes "refused") [] c.first_word-text.ensures in
    let all = c.push_details.ensures (codes "refused") (decimal_of c.number.result ∷ []) number in
    ap (λ (l : List ℕ). l ++ 10 ∷ []) (all ∙ ap (λ (n : ℕ). words (codes "refused" ∷ decimal_of n ∷ details c.args.refusal)) c.number.ensures)
