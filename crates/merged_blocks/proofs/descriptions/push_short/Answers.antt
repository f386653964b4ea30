use Rattle.std.proofs.Common.{◌∷◌, [], length, refl, ap, arith, length-append}
use Rattle.merged_blocks.proofs.descriptions.push_short.Goals as goal

pub returns-clause-grown : goal.returns-clause-grown
returns-clause-grown c =
    let old = c.args.line.now.items in
    let word = c.args.word.now in
    let new = c.push_word.ensures.appended old [] refl in
    let short = c.requires.short in
    omega (arith, ap length new, length-append old (32 ∷ word), short)
