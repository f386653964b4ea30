use Rattle.std.proofs.Common.{◌≡◌, ◌∷◌, [], ◌++◌, subst, ℕ, List, rules}
use Rattle.std.specs.Prelude.{codes}
use Rattle.std.specs.Str.{IsAscii}
use Rattle.atto.specs.Decimal.{decimal_of}
use Rattle.report.specs.KeyTexts.{payload_word, port_words}
use Rattle.report.proofs.Composing.{in_six}
use Rattle.report.proofs.fragments.push_piece.Goals as goal

pub returns-clause-text : goal.returns-clause-text
returns-clause-text c = λ first ws is.
    let p = c.args.piece.now in
    let protocol : c.from.result ≡ p.protocol = search rules in
    let offset : c.from-2.result ≡ p.offset = search rules in
    let size : c.from-3.result ≡ p.length = search rules in
    let payload : c.as_slice.result.now ≡ p.payload.items = search rules in
    let ids : List (List ℕ) = codes "id" ∷ decimal_of p.id ∷ [] in
    let protocols : List (List ℕ) = codes "protocol" ∷ decimal_of p.protocol ∷ [] in
    let offsets : List (List ℕ) = codes "offset" ∷ decimal_of p.offset ∷ [] in
    let sizes : List (List ℕ) = codes "length" ∷ decimal_of p.length ∷ [] in
    let bytes : List (List ℕ) = codes "payload" ∷ payload_word p.payload.items ∷ [] in
    let one = c.in_ok-push_field.ensures first ws is in
    let two = rw protocol at (c.in_ok-push_field-2.ensures first (ws ++ ids) one) in
    let three = rw offset at (c.in_ok-push_field-3.ensures first (ws ++ ids ++ protocols) two) in
    let four = rw size at (c.in_ok-push_field-4.ensures first (ws ++ ids ++ protocols ++ offsets) three) in
    let five = c.in_ok-push_ports.ensures first (ws ++ ids ++ protocols ++ offsets ++ sizes) four in
    let six = rw payload at (c.in_ok-push_bytes.ensures.text first (ws ++ ids ++ protocols ++ offsets ++ sizes ++ port_words p.ports) five) in
    in_six first ws ids protocols offsets sizes (port_words p.ports) bytes _ six

pub returns-clause-ascii : goal.returns-clause-ascii
returns-clause-ascii c =
    let payload : c.as_slice.result.now ≡ c.args.piece.now.payload.items = search rules in
    subst (λ (p : List ℕ). IsAscii (payload_word p)) payload c.in_ok-push_bytes.ensures.ascii
