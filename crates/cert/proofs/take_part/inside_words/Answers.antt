use Rattle.std.proofs.Common.{◌≡◌, codes, rules, sym}
use Rattle.cert.proofs.PartTaking.{inside_says}
use Rattle.cert.proofs.take_part.inside_words.Goals as goal

pub returns-else-ne-clause-some : goal.returns-else-ne-clause-some
returns-else-ne-clause-some c =
    let is : c.in-Some.word.now ≡ codes "inside" = search rules in
    inside_says _ _ _ c.clock_name.result (sym c.in-Some.ensures) is c.clock_name.ensures
