use Rattle.std.proofs.Common.{◌≤◌, ◌<◌, ◌^◌, ℕ, List, length, sym, subst, arith, rules}
use Rattle.atto.proofs.DecimalLemmas.{length-decimal_of-le}
use Rattle.replies.proofs.refused.digits_of.Goals as goal

pub returns-clause-few : goal.returns-clause-few
returns-clause-few c =
    let small : c.args.number < 2 ^ 64 = search rules in
    let below : c.args.number < 10 ^ 20 = omega (arith, small) in
    subst (λ (digits : List ℕ). length digits ≤ 20) (sym c.write_decimal.ensures) (length-decimal_of-le 20 c.args.number (omega arith) below)
