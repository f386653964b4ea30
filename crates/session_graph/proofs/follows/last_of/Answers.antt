use Rattle.std.proofs.Common.{ℕ, List, Option, refl, subst}
use Rattle.roster.specs.Groups.{group_at}
use Rattle.roster.specs.Readings.{Stamped}
use Rattle.session_graph.proofs.HostClocks.{ComesDown, down_begins, down_goes}
use Rattle.session_graph.proofs.follows.last_of.Goals as goal

pub loop-last-init : goal.loop-last-init
loop-last-init c = down_begins (group_at c.args.roster.now.readings c.args.clock) c.args.solver.now.graph c.args.clock (c.requires.nodes c.args.clock) c.last_stamp-last.result c.last_stamp-last.ensures

pub loop-last-preserved : goal.loop-last-preserved
loop-last-preserved c =
    let readings : List Stamped = group_at c.args.roster.now.readings c.args.clock in
    down_goes readings c.args.solver.now.graph c.args.clock (c.requires.nodes c.args.clock) c.in-Some.s c.stamp_below-last.result
    (subst (λ (o : Option ℕ). ComesDown readings c.args.solver.now.graph c.args.clock o) c.in-Some.is c.loop-last.invariant) (c.if-is_known.ensures.new refl) c.stamp_below-last.ensures
