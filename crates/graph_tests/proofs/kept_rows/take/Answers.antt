use Rattle.std.proofs.Common.{length, sym, subst}
use Rattle.distances.specs.Searched.{Searched}
use Rattle.repair.specs.Slots.{AreRowsBut}
use Rattle.graph_tests.proofs.kept_rows.take.Goals as goal

pub after_insert-requires-clause-before : goal.after_insert-requires-clause-before
after_insert-requires-clause-before g c =
    subst (λ (s : Searched). AreRowsBut s.graph c.in-Some.arc c.args.rows.now.kept c.args.rows.now.pool) (sym c.new-search.ensures)
    (subst (λ n. AreRowsBut c.bring_in.new.g n c.args.rows.now.kept c.args.rows.now.pool) (sym c.in-Some.ensures.number)
    (subst (λ h. AreRowsBut h (length c.args.g.now.arcs) c.args.rows.now.kept c.args.rows.now.pool) (sym c.in-Some.ensures.pushed.1)
    (c.rows_of_a_grown_graph.ensures.arc c.args.g.now c.in-Some.ensures.pushed.0 c.args.rows.now.kept c.args.rows.now.pool c.exact.ensures c.requires.rows)))
