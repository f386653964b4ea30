use Rattle.std.proofs.Common.{◌≡◌, ◌∷◌, [], ◌++◌, Some, ℕ, List, rules}
use Rattle.std.specs.Prelude.{codes}
use Rattle.atto.specs.Decimal.{decimal_of}
use Rattle.report.proofs.Composing.{in_two}
use Rattle.report.proofs.fragments.push_ports.Goals as goal

pub returns-in_ok-push_field-in-Some-2 : goal.returns-in_ok-push_field-in-Some-2
returns-in_ok-push_field-in-Some-2 c = λ first ws is.
    let ports : c.args.ports ≡ Some c.in-Some.ports = search rules in
    let from : c.from.result ≡ c.in-Some.ports.source = search rules in
    let to : c.from-in-Some.result ≡ c.in-Some.ports.target = search rules in
    let source : List (List ℕ) = codes "from" ∷ decimal_of c.in-Some.ports.source ∷ [] in
    let target : List (List ℕ) = codes "to" ∷ decimal_of c.in-Some.ports.target ∷ [] in
    let one = rw from at (c.in_ok-push_field-in-Some.ensures first ws is) in
    let two = rw to at (c.in_ok-push_field-in-Some-2.ensures first (ws ++ source) one) in
    rw ports (in_two first ws source target _ two)
