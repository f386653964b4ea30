use Rattle.std.proofs.Common.{◌<◌, ◌≤◌, ◌∙◌, sym, refl, length, arith}
use Rattle.std.proofs.lemmas.Option.{slice_get_within}
use Rattle.sync_graph.specs.Lists.{list_at}
use Rattle.earliest.proofs.Waiting.{past_end}
use Rattle.withdrawals.proofs.Pulls.{trying_none}
use Rattle.distances.specs.Facing.{opposite, facing, followed}
use Rattle.distances.specs.Relaxed.{waits_of}
use Rattle.row_pool.specs.Row.{cells_of}
use Rattle.repair.specs.Pulling.{onward}
use Rattle.repair.proofs.Pulls.{arc_onto, onto_short, tried_more, small_more, tried_all}
use Rattle.repair.proofs.regrow.pull.Goals as goal

pub loop-arc-init : goal.loop-arc-init
loop-arc-init g c = record {
  tried = trying_none (facing c.args.search.now.side c.args.search.now.graph) c.args.node (list_at (followed (opposite c.args.search.now.side) c.args.search.now.graph) c.args.node) (cells_of c.args.row.now) (waits_of c.args.front.now);
  at_rest = c.requires.at_rest;
  state = c.requires.state;
  room = refl;
  within = omega arith;
  steps = omega arith;
}

pub pull_arc-requires-clause-in_force : goal.pull_arc-requires-clause-in_force
pull_arc-requires-clause-in_force g c = (arc_onto c.args.search.now.side c.args.search.now.graph c.exact.ensures.graph c.args.node c.loop-arc.k c.in-Some.arc (sym c.next_arc_to.ensures.entry ∙ c.in-Some.is)).1

pub loop-arc-preserved : goal.loop-arc-preserved
loop-arc-preserved g c =
    let w = arc_onto c.args.search.now.side c.args.search.now.graph c.exact.ensures.graph c.args.node c.loop-arc.k c.in-Some.arc (sym c.next_arc_to.ensures.entry ∙ c.in-Some.is) in
    record {
      tried = tried_more c.args.search.now.graph c.args.search.now.side c.args.node c.loop-arc.k c.in-Some.arc c.args.row.now c.loop-arc.row c.pull_arc.new.row c.args.front.now c.loop-arc.front c.pull_arc.new.front
          c.requires.own c.loop-arc.invariant.tried w.0 w.1 w.2 c.pull_arc.ensures.pulled;
      at_rest = small_more c.args.search.now.graph c.args.search.now.side c.in-Some.arc c.loop-arc.row c.pull_arc.new.row c.loop-arc.front c.pull_arc.new.front c.loop-arc.invariant.at_rest c.pull_arc.ensures.pulled;
      state = c.pull_arc.ensures.state;
      room = c.pull_arc.ensures.room ∙ c.loop-arc.invariant.room;
      within = (let l : c.loop-arc.k < length (list_at (followed (opposite c.args.search.now.side) c.args.search.now.graph) c.args.node) =
          slice_get_within (list_at (followed (opposite c.args.search.now.side) c.args.search.now.graph) c.args.node) c.loop-arc.k c.in-Some.arc (sym c.next_arc_to.ensures.entry ∙ c.in-Some.is) in omega arith);
      steps = omega (arith, c.loop-arc.invariant.steps, c.next_arc_to.ensures.step);
    }

pub returns-clause-tried : goal.returns-clause-tried
returns-clause-tried g c =
    tried_all c.args.search.now.graph c.args.search.now.side c.args.node c.loop-arc.k c.args.row.now c.loop-arc.row c.args.front.now c.loop-arc.front
    (past_end (list_at (followed (opposite c.args.search.now.side) c.args.search.now.graph) c.args.node) c.loop-arc.k (λ x e. c.in_default.not-Some x (c.next_arc_to.ensures.entry ∙ e))) c.loop-arc.invariant.tried

pub returns-clause-steps : goal.returns-clause-steps
returns-clause-steps g c = omega (arith, c.loop-arc.invariant.within, c.loop-arc.invariant.steps, c.next_arc_to.ensures.step)

pub loop-arc-smaller : goal.loop-arc-smaller
loop-arc-smaller g c =
    let l : c.loop-arc.k < length (list_at (followed (opposite c.args.search.now.side) c.args.search.now.graph) c.args.node) = slice_get_within (list_at (followed (opposite c.args.search.now.side) c.args.search.now.graph) c.args.node) c.loop-arc.k c.in-Some.arc (sym c.next_arc_to.ensures.entry ∙ c.in-Some.is) in
    omega arith

pub overflow_add-k : goal.overflow_add-k
overflow_add-k g c =
    let l : c.loop-arc.k < length (list_at (followed (opposite c.args.search.now.side) c.args.search.now.graph) c.args.node) = slice_get_within (list_at (followed (opposite c.args.search.now.side) c.args.search.now.graph) c.args.node) c.loop-arc.k c.in-Some.arc (sym c.next_arc_to.ensures.entry ∙ c.in-Some.is) in
    let short : onward (opposite c.args.search.now.side) c.args.search.now.graph c.args.node ≤ length c.args.search.now.graph.arcs = onto_short c.args.search.now.side c.args.search.now.graph c.exact.ensures.graph c.args.node in
    omega (arith, c.exact.ensures.graph.arc_limit)
