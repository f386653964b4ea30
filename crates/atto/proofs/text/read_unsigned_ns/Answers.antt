use Rattle.std.proofs.Common.{◌≡◌, ◌<◌, ◌++◌, ◌∷◌, ◌+◌, ◌*◌, arith, rules}
use Rattle.atto.specs.NsText.{last_digits}
use Rattle.atto.proofs.NsReading.{ns_fault, ns_spelled}
use Rattle.atto.proofs.text.read_unsigned_ns.Goals as goal

pub returns-else-units : goal.returns-else-units
returns-else-units c =
    let below : c.in-Some.rest < 1000000000 = search rules in
    let is : c.args.text.now ≡ c.in-Some.whole.now ++ 46 ∷ last_digits 9 c.in-Some.rest = search rules in
    (c.in-Ok.seconds * 1000000000 + c.from.result, rw c.from.ensures (ns_spelled _ _ _ _ is below c.in-Ok.ensures.0), λ fits. omega (arith, fits, c.if-units.false))

pub returns-in-Err : goal.returns-in-Err
returns-in-Err c =
    let below : c.in-Some.rest < 1000000000 = search rules in
    let is : c.args.text.now ≡ c.in-Some.whole.now ++ 46 ∷ last_digits 9 c.in-Some.rest = search rules in
    ns_fault _ _ _ c.in-Err.fault is below c.in-Err.ensures
