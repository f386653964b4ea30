use Rattle.std.proofs.Common.{length, sym, subst}
use Rattle.earliest.specs.Values.{IsEarliestBut}
use Rattle.earliest.proofs.Pushing.{earliest_but_pushed}
use Rattle.graph_tests.proofs.insertions.takes_no_more.Goals as goal

pub insert-requires-clause-before : goal.insert-requires-clause-before
insert-requires-clause-before g c =
    subst (λ n. IsEarliestBut c.push.new.g n c.args.e.now.values) (sym c.in-Some.ensures.number)
    (subst (λ h. IsEarliestBut h (length c.args.g.now.arcs) c.args.e.now.values) (sym c.in-Some.ensures.pushed.1)
    (earliest_but_pushed c.args.g.now c.in-Some.ensures.pushed.0 c.args.e.now.values c.exact.ensures.flags c.requires.earliest))
