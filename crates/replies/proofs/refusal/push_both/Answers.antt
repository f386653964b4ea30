use Rattle.std.proofs.Common.{◌∷◌, [], ◌++◌}
use Rattle.atto.specs.Decimal.{decimal_of}
use Rattle.ports.proofs.Composing.{two_more}
use Rattle.replies.proofs.refusal.push_both.Goals as goal

pub returns-clause-appended : goal.returns-clause-appended
returns-clause-appended c = λ word ws is.
    let one = c.push_decimal.ensures.appended word ws is in
    two_more word ws (decimal_of c.args.first) (decimal_of c.args.second) _ (c.push_decimal-2.ensures.appended word (ws ++ decimal_of c.args.first ∷ []) one)
