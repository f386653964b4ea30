use Rattle.std.proofs.Common.{ℕ, List, Option, refl, subst}
use Rattle.roster.specs.Groups.{group_at}
use Rattle.roster.specs.Readings.{Stamped}
use Rattle.session_graph.proofs.Seeking.{GoesDown, down_first, down_next}
use Rattle.session_graph.proofs.nearest.stamp_below.Goals as goal

pub loop-last-init : goal.loop-last-init
loop-last-init c = down_first (group_at c.args.roster.now.readings c.args.place) c.args.solver.now.graph c.args.place c.args.stamp (c.requires.nodes c.args.place) c.stamp_below-last.result c.stamp_below-last.ensures

pub loop-last-preserved : goal.loop-last-preserved
loop-last-preserved c =
    let readings : List Stamped = group_at c.args.roster.now.readings c.args.place in
    down_next readings c.args.solver.now.graph c.args.place c.args.stamp (c.requires.nodes c.args.place) c.in-Some.s c.stamp_below-last-in-Some.result
    (subst (λ (o : Option ℕ). GoesDown readings c.args.solver.now.graph c.args.place c.args.stamp o) c.in-Some.is c.loop-last.invariant) (c.if-is_known.ensures.new refl) c.stamp_below-last-in-Some.ensures
