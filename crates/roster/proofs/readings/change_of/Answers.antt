use Rattle.std.proofs.Common.{◌≡◌, ◌++◌, ◌-◌, List, length, take, drop, ◌∙◌, ap, subst}
use Rattle.std.proofs.lemmas.List.{take_rest}
use Rattle.roster.specs.Readings.{Stamped, AreBefore, AreSorted, stamps_of}
use Rattle.roster.proofs.Stamps.{joined}
use Rattle.roster.proofs.readings.change_of.Goals as goal

pub returns-clause-joins : goal.returns-clause-joins
returns-clause-joins c =
    let old = c.args.readings.now in
    let from = c.unmoved-from.result in
    let parts : take (length old - from) (drop from old) ++ c.deref-2.result.now ≡ drop from old ++ c.in_ok-fresh.fresh.items =
    ap (λ (xs : List Stamped). xs ++ c.deref-2.result.now) (take_rest old from) ∙ ap (λ (xs : List Stamped). drop from old ++ xs) c.deref-2.ensures.value in
    joined old c.in_ok-fresh.fresh.items c.in_ok-tail.tail.items (stamps_of c.args.events.now) from c.requires
    (subst (λ (xs : List Stamped). AreBefore (take from old) xs) c.deref.ensures.value c.unmoved-from.ensures.before) c.in_ok-fresh.ensures
    (subst (λ (xs : List Stamped). AreSorted xs c.in_ok-tail.tail.items) parts c.in_ok-tail.ensures)
