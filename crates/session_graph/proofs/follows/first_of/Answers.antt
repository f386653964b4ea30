use Rattle.std.proofs.Common.{ℕ, List, Option, refl, subst}
use Rattle.roster.specs.Groups.{group_at}
use Rattle.roster.specs.Readings.{Stamped}
use Rattle.session_graph.proofs.HostClocks.{ComesUp, up_begins, up_goes}
use Rattle.session_graph.proofs.follows.first_of.Goals as goal

pub loop-next-init : goal.loop-next-init
loop-next-init c = up_begins (group_at c.args.roster.now.readings c.args.clock) c.args.solver.now.graph c.args.clock (c.requires.nodes c.args.clock) c.first_stamp-next.result c.first_stamp-next.ensures

pub loop-next-preserved : goal.loop-next-preserved
loop-next-preserved c =
    let readings : List Stamped = group_at c.args.roster.now.readings c.args.clock in
    up_goes readings c.args.solver.now.graph c.args.clock (c.requires.nodes c.args.clock) c.in-Some.t c.stamp_above-next.result
    (subst (λ (o : Option ℕ). ComesUp readings c.args.solver.now.graph c.args.clock o) c.in-Some.is c.loop-next.invariant) (c.if-is_known.ensures.new refl) c.stamp_above-next.ensures
