use Rattle.std.proofs.Common.{◌<◌, ◌≤◌, ◌∙◌, sym, refl, length, arith}
use Rattle.std.proofs.lemmas.Option.{slice_get_within}
use Rattle.sync_graph.specs.Lists.{list_at}
use Rattle.withdrawals.proofs.Places.{leaves_then}
use Rattle.earliest.proofs.Waiting.{past_end}
use Rattle.distances.specs.Facing.{followed}
use Rattle.distances.proofs.Directions.{followed_short}
use Rattle.distances.specs.Searched.{lists}
use Rattle.repair.specs.Clearings.{IsChildBy}
use Rattle.repair.proofs.Clearing.{head_within, head_place, seen_more, cleared_lengths, cleared_places, blank_cleared, few_marked, seen_all, listed_below}
use Rattle.repair.proofs.affected.clear_children.Goals as goal

pub loop-arc-init : goal.loop-arc-init
loop-arc-init g c = record {
  seen = λ gone was p old marked done r m l e. (marked, record { marking = m; keeps = λ x w. w; here = λ m l. absurd (omega arith) });
  before = λ i l. refl;
  places = λ i l. refl;
  more = omega arith;
  blank = λ b. b;
  within = omega arith;
  steps = omega arith;
}

pub arc-a-requires : goal.arc-a-requires
arc-a-requires g c = listed_below c.args.search.now.graph c.exact.ensures.graph c.args.search.now.side c.args.node c.loop-arc.k c.in-Some.arc (sym c.next_arc.ensures.entry ∙ c.in-Some.is)

pub clear_child-count-requires-clause-cell : goal.clear_child-count-requires-clause-cell
clear_child-count-requires-clause-cell g c =
    let l : c.head-head.result < length c.args.search.now.graph.nodes = head_within c.args.search.now.graph c.exact.ensures.graph c.args.search.now.side c.args.node c.loop-arc.k c.in-Some.arc c.arc-a.result c.head-head.result
    (sym c.next_arc.ensures.entry ∙ c.in-Some.is) c.arc-a.ensures c.head-head.ensures in
    omega (arith, c.requires.cells, c.loop-arc.auto.row)

pub clear_child-count-requires-clause-place : goal.clear_child-count-requires-clause-place
clear_child-count-requires-clause-place g c = λ child.
    let f = c.requires.first in
    let s = c.loop-arc.invariant.seen f.0 f.1 f.2 f.3 f.4 f.5 f.6 f.7 f.8 f.9 in
    head_place c.args.search.now.graph c.exact.ensures.graph c.args.search.now.side c.args.node c.loop-arc.k c.in-Some.arc c.arc-a.result c.head-head.result
    (sym c.next_arc.ensures.entry ∙ c.in-Some.is) c.arc-a.ensures c.head-head.ensures
    f.1 f.0 f.2 f.3 c.loop-arc.row f.4 s.0 c.loop-arc.found c.loop-arc.count f.5 f.6 s.1 (omega (arith, c.requires.found, c.loop-arc.auto.found)) child

pub clear_child-count-requires-clause-few : goal.clear_child-count-requires-clause-few
clear_child-count-requires-clause-few g c =
    let f = c.requires.first in
    let s = c.loop-arc.invariant.seen f.0 f.1 f.2 f.3 f.4 f.5 f.6 f.7 f.8 f.9 in
    let l : c.loop-arc.count ≤ length c.args.search.now.graph.nodes = few_marked c.args.search.now.graph c.args.search.now.side f.0 f.2 f.3 c.loop-arc.row s.0 c.loop-arc.found c.loop-arc.count f.5 s.1.marking in
    omega (arith, c.exact.ensures.graph.node_limit)

pub loop-arc-preserved : goal.loop-arc-preserved
loop-arc-preserved g c =
    let n = cleared_lengths (IsChildBy c.loop-arc.row c.head-head.result c.in-Some.arc) c.loop-arc.row c.clear_child-count.new.row c.loop-arc.found c.clear_child-count.new.found c.loop-arc.count c.head-head.result c.clear_child-count.result c.clear_child-count.ensures.cleared in
    record {
      seen = λ gone was p old marked done r m b e.
          let s = c.loop-arc.invariant.seen gone was p old marked done r m b e in
          seen_more c.args.search.now.graph c.exact.ensures.graph c.args.search.now.side c.args.node c.loop-arc.k c.in-Some.arc c.arc-a.result c.head-head.result
          (sym c.next_arc.ensures.entry ∙ c.in-Some.is) c.arc-a.ensures c.head-head.ensures
          was gone p old c.loop-arc.row marked s.0 c.loop-arc.found c.loop-arc.count done r s.1 c.clear_child-count.new.row c.clear_child-count.new.found c.clear_child-count.result c.clear_child-count.ensures.cleared
          (omega (arith, c.requires.cells, c.loop-arc.auto.row)) (omega (arith, c.requires.found, c.loop-arc.auto.found)) (c.loop-arc.invariant.before done b ∙ e) (omega (arith, c.loop-arc.invariant.more));
      before = λ i l. n.3 i (omega (arith, c.loop-arc.invariant.more)) ∙ c.loop-arc.invariant.before i l;
      places = leaves_then c.args.found.now c.loop-arc.found c.clear_child-count.new.found c.loop-arc.count c.clear_child-count.result n.2 c.loop-arc.invariant.places
          (cleared_places (IsChildBy c.loop-arc.row c.head-head.result c.in-Some.arc) c.loop-arc.row c.clear_child-count.new.row c.loop-arc.found c.clear_child-count.new.found c.loop-arc.count c.head-head.result c.clear_child-count.result c.clear_child-count.ensures.cleared);
      more = omega (arith, n.2, c.loop-arc.invariant.more);
      blank = λ b. blank_cleared (IsChildBy c.loop-arc.row c.head-head.result c.in-Some.arc) c.loop-arc.row c.clear_child-count.new.row c.loop-arc.found c.clear_child-count.new.found c.loop-arc.count c.head-head.result c.clear_child-count.result c.clear_child-count.ensures.cleared (c.loop-arc.invariant.blank b);
      within = (let l : c.loop-arc.k < length (list_at (followed c.args.search.now.side c.args.search.now.graph) c.args.node) =
          slice_get_within (list_at (followed c.args.search.now.side c.args.search.now.graph) c.args.node) c.loop-arc.k c.in-Some.arc (sym c.next_arc.ensures.entry ∙ c.in-Some.is) in omega arith);
      steps = omega (arith, c.loop-arc.invariant.steps, c.next_arc.ensures.step);
    }

pub returns-clause-marking : goal.returns-clause-marking
returns-clause-marking g c = λ gone was p old marked done r m b e.
    let s = c.loop-arc.invariant.seen gone was p old marked done r m b e in (
      s.0,
      seen_all c.args.search.now.graph c.exact.ensures.graph c.args.search.now.side c.args.node c.loop-arc.k gone p old c.loop-arc.row marked s.0 c.loop-arc.found c.loop-arc.count done
          (past_end (list_at (followed c.args.search.now.side c.args.search.now.graph) c.args.node) c.loop-arc.k (λ x q. c.in_default.not-Some x (c.next_arc.ensures.entry ∙ q)))
          (c.loop-arc.invariant.before done b ∙ e) s.1,
      s.1.keeps,
    )

pub returns-clause-steps : goal.returns-clause-steps
returns-clause-steps g c = omega (arith, c.loop-arc.invariant.within, c.loop-arc.invariant.steps, c.next_arc.ensures.step)

pub loop-arc-smaller : goal.loop-arc-smaller
loop-arc-smaller g c =
    let l : c.loop-arc.k < length (list_at (lists c.args.search.now) c.args.node) = slice_get_within (list_at (lists c.args.search.now) c.args.node) c.loop-arc.k c.in-Some.arc (sym c.next_arc.ensures.entry ∙ c.in-Some.is) in
    omega arith

pub overflow_add-k : goal.overflow_add-k
overflow_add-k g c =
    let l : c.loop-arc.k < length (list_at (lists c.args.search.now) c.args.node) = slice_get_within (list_at (lists c.args.search.now) c.args.node) c.loop-arc.k c.in-Some.arc (sym c.next_arc.ensures.entry ∙ c.in-Some.is) in
    let short : length (list_at (lists c.args.search.now) c.args.node) ≤ length c.args.search.now.graph.arcs = followed_short c.args.search.now.side c.args.search.now.graph c.exact.ensures.graph c.args.node in
    omega (arith, c.exact.ensures.graph.arc_limit)
