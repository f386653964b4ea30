use Rattle.std.proofs.Common.{sym, subst}
use Rattle.std.specs.Prelude.{All}
use Rattle.std.proofs.lemmas.List.Elements.{All-push}
use Rattle.sync_graph.proofs.InForce.{no_arc}
use Rattle.widen.specs.Weighed.{IsNameOf}
use Rattle.widen.proofs.raising.push_arc.Goals as goal

pub returns-clause-names : goal.returns-clause-names
returns-clause-names c =
    let p = c.args.b.now.problem.now in
    let one : IsNameOf p c.arc-arc.result = subst (IsNameOf p) (sym c.arc-arc.ensures) (c.requires.bounds c.args.k no_arc c.requires.arc) in
    subst (All (IsNameOf p)) (sym c.in_ok-push.ensures.items) (All-push (IsNameOf p) c.args.arcs.now.items _ c.requires.names one)
