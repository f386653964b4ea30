use Rattle.std.proofs.Common.{◌≡◌, ◌∷◌, [], ◌++◌, ℕ, List, rules}
use Rattle.headers.specs.declared.key.Network.TheVariants.{V4, V6}
use Rattle.report.specs.KeyTexts.{dotted, groups}
use Rattle.report.proofs.Composing.{in_two}
use Rattle.report.proofs.fragments.push_addresses.Goals as goal

pub returns-in_ok-push_address-in-V4-2 : goal.returns-in_ok-push_address-in-V4-2
returns-in_ok-push_address-in-V4-2 c = λ first ws is.
    let network : c.args.network ≡ V4 c.in-V4.source c.in-V4.target c.in-V4.id = search rules in
    let source : List (List ℕ) = dotted c.in-V4.source ∷ [] in
    let target : List (List ℕ) = dotted c.in-V4.target ∷ [] in
    let one = c.in_ok-push_address-in-V4.ensures first ws is in
    let two = c.in_ok-push_address-in-V4-2.ensures first (ws ++ source) one in
    rw network (in_two first ws source target _ two)

pub returns-in_ok-push_wide_address-in-V6-2 : goal.returns-in_ok-push_wide_address-in-V6-2
returns-in_ok-push_wide_address-in-V6-2 c = λ first ws is.
    let network : c.args.network ≡ V6 c.in-V6.source c.in-V6.target = search rules in
    let source : List (List ℕ) = groups c.in-V6.source ∷ [] in
    let target : List (List ℕ) = groups c.in-V6.target ∷ [] in
    let one = c.in_ok-push_wide_address-in-V6.ensures first ws is in
    let two = c.in_ok-push_wide_address-in-V6-2.ensures first (ws ++ source) one in
    rw network (in_two first ws source target _ two)
