use Rattle.std.proofs.Common.{ℕ, List, Option, refl, subst}
use Rattle.roster.specs.Groups.{group_at}
use Rattle.roster.specs.Readings.{Stamped}
use Rattle.session_graph.proofs.Seeking.{GoesUp, up_first, up_next}
use Rattle.session_graph.proofs.nearest.stamp_above.Goals as goal

pub loop-next-init : goal.loop-next-init
loop-next-init c = up_first (group_at c.args.roster.now.readings c.args.place) c.args.solver.now.graph c.args.place c.args.stamp (c.requires.nodes c.args.place) c.stamp_above-next.result c.stamp_above-next.ensures

pub loop-next-preserved : goal.loop-next-preserved
loop-next-preserved c =
    let readings : List Stamped = group_at c.args.roster.now.readings c.args.place in
    up_next readings c.args.solver.now.graph c.args.place c.args.stamp (c.requires.nodes c.args.place) c.in-Some.t c.stamp_above-next-in-Some.result
    (subst (λ (o : Option ℕ). GoesUp readings c.args.solver.now.graph c.args.place c.args.stamp o) c.in-Some.is c.loop-next.invariant) (c.if-is_known.ensures.new refl) c.stamp_above-next-in-Some.ensures
