use Rattle.std.proofs.Common.{◌≡◌, ◌∷◌, [], ◌++◌, ℕ, List, rules}
use Rattle.std.specs.Prelude.{codes}
use Rattle.atto.specs.Decimal.{decimal_of}
use Rattle.headers.specs.declared.key.Network.TheVariants.{V4, V6}
use Rattle.report.specs.KeyTexts.{endpoint, wide_endpoint}
use Rattle.report.proofs.Composing.{in_two, in_three}
use Rattle.report.proofs.texts.push_network.Goals as goal

pub returns-in_ok-push_field-in-V4 : goal.returns-in_ok-push_field-in-V4
returns-in_ok-push_field-in-V4 c = λ first ws is.
    let network : c.args.network ≡ V4 c.in-V4.source c.in-V4.target c.in-V4.id = search rules in
    let id : c.from.result ≡ c.in-V4.id = search rules in
    let source : List (List ℕ) = endpoint c.in-V4.source c.args.source_port ∷ [] in
    let target : List (List ℕ) = endpoint c.in-V4.target c.args.target_port ∷ [] in
    let number : List (List ℕ) = codes "id" ∷ decimal_of c.in-V4.id ∷ [] in
    let one = c.in_ok-push_end-in-V4.ensures first ws is in
    let two = c.in_ok-push_end-in-V4-2.ensures first (ws ++ source) one in
    let three = rw id at (c.in_ok-push_field-in-V4.ensures first (ws ++ source ++ target) two) in
    rw network (in_three first ws source target number _ three)

pub returns-in_ok-push_wide_end-in-V6-2 : goal.returns-in_ok-push_wide_end-in-V6-2
returns-in_ok-push_wide_end-in-V6-2 c = λ first ws is.
    let network : c.args.network ≡ V6 c.in-V6.source c.in-V6.target = search rules in
    let source : List (List ℕ) = wide_endpoint c.in-V6.source c.args.source_port ∷ [] in
    let target : List (List ℕ) = wide_endpoint c.in-V6.target c.args.target_port ∷ [] in
    let one = c.in_ok-push_wide_end-in-V6.ensures first ws is in
    let two = c.in_ok-push_wide_end-in-V6-2.ensures first (ws ++ source) one in
    rw network (in_two first ws source target _ two)
