use Rattle.std.proofs.Common.{◌≡◌, ◌∙◌, [], ◌∷◌, codes, refl, rules}
use Rattle.atto.specs.Decimal.{decimal_of}
use Rattle.merged_blocks.proofs.descriptions.clock_line.Goals as goal

pub returns-clause-is : goal.returns-clause-is
returns-clause-is c =
    let host = c.args.host.now in
    let name = c.bytes-2.result.now in
    let first : c.first_word-line.result.items ≡ host = c.first_word-line.ensures ∙ c.bytes.ensures.value in
    let short : c.from.result ≡ c.args.clock.now.rate.short = search rules in
    let long : c.from-2.result ≡ c.args.clock.now.rate.long = search rules in
    let early : c.get.result ≡ c.args.clock.now.early = search rules in
    let late : c.get-2.result ≡ c.args.clock.now.late = search rules in
    let one = c.push_short.ensures.appended host [] first in
    let two = c.push_word.ensures.appended host (codes "clock" ∷ []) one in
    let three = c.push_bound.ensures.appended host (codes "clock" ∷ name ∷ []) two in
    let four = c.push_bound-2.ensures.appended host (codes "clock" ∷ name ∷ codes "short" ∷ decimal_of c.from.result ∷ codes "ppb" ∷ []) three in
    let five = c.push_bound-3.ensures.appended host (codes "clock" ∷ name ∷ codes "short" ∷ decimal_of c.from.result ∷ codes "ppb" ∷ codes "long" ∷ decimal_of c.from-2.result ∷ codes "ppb" ∷ []) four in
    let all = c.push_bound-4.ensures.appended host (codes "clock" ∷ name ∷ codes "short" ∷ decimal_of c.from.result ∷ codes "ppb" ∷ codes "long" ∷ decimal_of c.from-2.result ∷ codes "ppb" ∷ codes "early" ∷ decimal_of c.get.result ∷ codes "ns" ∷ []) five in
    all ∙ rw (c.bytes-2.ensures.value, short, long, early, late) refl
