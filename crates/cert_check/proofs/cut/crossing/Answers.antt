use Rattle.std.proofs.Common.{rules}
use Rattle.std.specs.Prelude.{IsTrue}
use Rattle.cert_check.proofs.Cutting.{one_leaves, one_stays}
use Rattle.cert_check.proofs.cut.crossing.Goals as goal
use Rattle.cert_check.proofs.cut.crossing.Goals.{else-from-via-then-from+else-not-to, else-from-via-else-from}

pub returns-then-not-to : goal.returns-then-not-to
returns-then-not-to c = λ p inside a lawful declares from to.
    let outside : IsTrue c.args.to → ⊥ = search rules in
    one_leaves p inside c.args.bound a declares (from.0 c.if-from.true) (λ there. outside (to.1 there))

pub returns-else-from : goal.returns-else-from
returns-else-from c = λ p inside a lawful declares from to.
    one_stays p inside c.args.bound a lawful declares (λ here. (let yes : IsTrue c.args.from = from.1 here in
    elim c.else-from.branch [
      | else-from-via-then-from+else-not-to w ↦ to.0 (search rules)
      | else-from-via-else-from w ↦ absurd (search rules)
    ]))
