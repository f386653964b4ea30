use Rattle.std.proofs.Common.{◌∷◌, [], ◌++◌}
use Rattle.atto.specs.Decimal.{decimal_of}
use Rattle.ports.proofs.Composing.{two_more}
use Rattle.replies.proofs.refused.push_both.Goals as goal

pub returns : goal.returns
returns c = λ word ws is.
    let one = c.push_number.ensures.appended word ws is in
    two_more word ws (decimal_of c.args.first) (decimal_of c.args.second) _ (c.push_number-2.ensures.appended word (ws ++ decimal_of c.args.first ∷ []) one)
