use Rattle.std.proofs.Common.{ap}
use Rattle.roster.specs.Roster.{RosterLists}
use Rattle.session_graph.proofs.Matching.{no_ends}
use Rattle.session_graph.proofs.WholeGraph.{nothing_kept}
use Rattle.session_graph.proofs.kept.KeptGraph.new.Goals as goal

pub returns-clause-kept : goal.returns-clause-kept
returns-clause-kept c =
    nothing_kept c.in_ok-roster.roster c.decl.ensures.lawful (ap (λ (r : RosterLists). r.came) c.in_ok-roster.ensures) c.new-3.result c.new-3.ensures.graph c.new-3.ensures.current

pub returns-clause-ends : goal.returns-clause-ends
returns-clause-ends c = no_ends c.in_ok-roster.roster (ap (λ (r : RosterLists). r.came) c.in_ok-roster.ensures) c.new-2.result c.new-2.ensures
