use Rattle.std.proofs.Common.{◌+◌, ◌<◌, ◌≤◌, refl, length, arith}
use Rattle.withdrawals.proofs.Places.{leaves_then}
use Rattle.earliest.proofs.Affecting.{mark_cost}
use Rattle.repair.specs.Pulling.{onward}
use Rattle.repair.proofs.Clearing.{next_found}
use Rattle.repair.proofs.affected.clear_all.Goals as goal

pub loop-done-init : goal.loop-done-init
loop-done-init g c = record {
  marking = λ gone was p old marked r m. (marked, m, λ k w. w);
  places = λ i l. refl;
  more = omega arith;
  below = omega arith;
  blank = λ b. b;
  steps = omega arith;
}

pub bounds-found-done : goal.bounds-found-done
bounds-found-done g c =
    let f = c.requires.first in
    let m = c.loop-done.invariant.marking f.0 f.1 f.2 f.3 f.4 f.5 f.6 in
    let l : c.loop-done.done < length c.args.search.now.graph.nodes =
    (next_found c.args.search.now.graph c.args.search.now.side f.0 f.2 f.3 c.loop-done.row m.0 c.loop-done.found c.loop-done.count c.loop-done.done m.1 c.loop-done-test.true).0 in
    omega (arith, c.loop-done.auto.found, c.requires.found)

pub loop-done-smaller : goal.loop-done-smaller
loop-done-smaller g c =
    let f = c.requires.first in
    let m = c.loop-done.invariant.marking f.0 f.1 f.2 f.3 f.4 f.5 f.6 in
    let l : c.loop-done.done < length c.args.search.now.graph.nodes =
    (next_found c.args.search.now.graph c.args.search.now.side f.0 f.2 f.3 c.loop-done.row m.0 c.loop-done.found c.loop-done.count c.loop-done.done m.1 c.loop-done-test.true).0 in
    omega arith

pub loop-done-preserved : goal.loop-done-preserved
loop-done-preserved g c = record {
  marking = λ gone was p old marked r i.
      let m = c.loop-done.invariant.marking gone was p old marked r i in
      let n = c.clear_children-count.ensures.marking gone was p old m.0 c.loop-done.done r m.1 c.loop-done-test.true refl in
      (n.0, n.1, λ k w. n.2 k (m.2 k w));
  places = leaves_then c.args.found.now c.loop-done.found c.clear_children-count.new.found c.loop-done.count c.clear_children-count.result c.clear_children-count.ensures.more c.loop-done.invariant.places c.clear_children-count.ensures.places;
  more = (let l : c.loop-done.count ≤ c.clear_children-count.result = c.clear_children-count.ensures.more in omega (arith, c.loop-done.invariant.more));
  below = (let l : c.loop-done.count ≤ c.clear_children-count.result = c.clear_children-count.ensures.more in omega (arith, c.loop-done-test.true));
  blank = λ b. c.clear_children-count.ensures.blank (c.loop-done.invariant.blank b);
  steps = mark_cost (λ n. onward c.args.search.now.side c.args.search.now.graph n + 1) c.loop-done.found c.clear_children-count.new.found c.loop-done.count c.loop-done.done c.args.steps.now c.loop-done.steps c.clear_children-count.new.steps
      c.loop-done-test.true c.clear_children-count.ensures.before c.loop-done.invariant.steps (let h : c.clear_children-count.new.steps ≤ c.loop-done.steps + onward c.args.search.now.side c.args.search.now.graph _ + 1 = c.clear_children-count.ensures.steps in omega arith);
}
