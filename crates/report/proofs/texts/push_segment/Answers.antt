use Rattle.std.proofs.Common.{◌≡◌, ◌∷◌, [], ◌++◌, subst, ℕ, List, rules}
use Rattle.std.specs.Prelude.{codes}
use Rattle.std.specs.List.{AllByRecursion}
use Rattle.std.specs.Str.{IsAscii}
use Rattle.atto.specs.Decimal.{decimal_of}
use Rattle.report.specs.KeyTexts.{option_words, payload_word}
use Rattle.report.proofs.Composing.{in_six}
use Rattle.report.proofs.texts.push_segment.Goals as goal

pub returns-clause-text : goal.returns-clause-text
returns-clause-text c = λ first ws is.
    let s = c.args.segment.now in
    let flags : c.from.result ≡ s.flags = search rules in
    let size : c.from-2.result ≡ s.length = search rules in
    let payload : c.as_slice.result.now ≡ s.payload.items = search rules in
    let seqs : List (List ℕ) = codes "seq" ∷ decimal_of s.sequence ∷ [] in
    let acks : List (List ℕ) = codes "ack" ∷ decimal_of s.acknowledged ∷ [] in
    let bits : List (List ℕ) = codes "flags" ∷ decimal_of s.flags ∷ [] in
    let sizes : List (List ℕ) = codes "length" ∷ decimal_of s.length ∷ [] in
    let bytes : List (List ℕ) = codes "payload" ∷ payload_word s.payload.items ∷ [] in
    let one = c.in_ok-push_field.ensures first ws is in
    let two = c.in_ok-push_field-2.ensures first (ws ++ seqs) one in
    let three = rw flags at (c.in_ok-push_field-3.ensures first (ws ++ seqs ++ acks) two) in
    let four = rw size at (c.in_ok-push_field-4.ensures first (ws ++ seqs ++ acks ++ bits) three) in
    let five = rw payload at (c.in_ok-push_bytes.ensures.text first (ws ++ seqs ++ acks ++ bits ++ sizes) four) in
    let options : c.as_slice-2.result.now ≡ s.options.items = search rules in
    let six = rw options at (c.in_ok-push_options.ensures.text first (ws ++ seqs ++ acks ++ bits ++ sizes ++ bytes) five) in
    in_six first ws seqs acks bits sizes bytes (option_words s.options.items) _ six

pub returns-clause-ascii : goal.returns-clause-ascii
returns-clause-ascii c =
    let payload : c.as_slice.result.now ≡ c.args.segment.now.payload.items = search rules in
    subst (λ (p : List ℕ). IsAscii (payload_word p)) payload c.in_ok-push_bytes.ensures.ascii

pub returns-clause-ascii_options : goal.returns-clause-ascii_options
returns-clause-ascii_options c =
    let options : c.as_slice-2.result.now ≡ c.args.segment.now.options.items = search rules in
    subst (λ (o : List ℕ). AllByRecursion IsAscii (option_words o)) options c.in_ok-push_options.ensures.ascii
