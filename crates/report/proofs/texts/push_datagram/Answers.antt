use Rattle.std.proofs.Common.{◌≡◌, ◌∷◌, [], ◌++◌, subst, ℕ, List, rules}
use Rattle.std.specs.Prelude.{codes}
use Rattle.std.specs.Str.{IsAscii}
use Rattle.atto.specs.Decimal.{decimal_of}
use Rattle.report.specs.KeyTexts.{payload_word}
use Rattle.report.proofs.Composing.{in_two}
use Rattle.report.proofs.texts.push_datagram.Goals as goal

pub returns-clause-text : goal.returns-clause-text
returns-clause-text c = λ first ws is.
    let d = c.args.datagram.now in
    let size : c.from.result ≡ d.length = search rules in
    let payload : c.as_slice.result.now ≡ d.payload.items = search rules in
    let sizes : List (List ℕ) = codes "length" ∷ decimal_of d.length ∷ [] in
    let bytes : List (List ℕ) = codes "payload" ∷ payload_word d.payload.items ∷ [] in
    let one = rw size at (c.in_ok-push_field.ensures first ws is) in
    let two = rw payload at (c.in_ok-push_bytes.ensures.text first (ws ++ sizes) one) in
    in_two first ws sizes bytes _ two

pub returns-clause-ascii : goal.returns-clause-ascii
returns-clause-ascii c =
    let payload : c.as_slice.result.now ≡ c.args.datagram.now.payload.items = search rules in
    subst (λ (p : List ℕ). IsAscii (payload_word p)) payload c.in_ok-push_bytes.ensures.ascii
