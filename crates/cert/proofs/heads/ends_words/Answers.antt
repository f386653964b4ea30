use Rattle.std.proofs.Common.{◌≡◌, codes, rules, sym}
use Rattle.cert.proofs.Forms.{some_through, none_through}
use Rattle.cert.proofs.CertTaking.{ends_not_three, ends_other, ends_not_names, ends_says}
use Rattle.cert.proofs.heads.ends_words.Goals as goal

pub returns-then-ne-clause-none : goal.returns-then-ne-clause-none
returns-then-ne-clause-none c =
    let other : c.in-Some.word.now ≡ codes "ends" → ⊥ = search rules in
    ends_other _ _ _ _ (sym c.in-Some.ensures) other

pub returns-else-ne-clause-some : goal.returns-else-ne-clause-some
returns-else-ne-clause-some c =
    let is : c.in-Some.word.now ≡ codes "ends" = search rules in
    some_through _ (λ w parts. ends_says _ _ _ _ w (sym c.in-Some.ensures) is parts) c.names_of.ensures.some

pub returns-else-ne-clause-none : goal.returns-else-ne-clause-none
returns-else-ne-clause-none c = none_through _ (ends_not_names _ _ _ _ (sym c.in-Some.ensures)) c.names_of.ensures.none

pub returns-in-None-clause-none : goal.returns-in-None-clause-none
returns-in-None-clause-none c = ends_not_three _ (sym c.in-None.ensures)
