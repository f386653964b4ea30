use Rattle.std.proofs.Common.{◌≤◌, ◌+◌, ◌∙◌, refl, sym, subst, length, arith}
use Rattle.sync_graph.specs.Graph.{IsSound}
use Rattle.sync_graph.specs.Lists.{list_at}
use Rattle.withdrawals.proofs.Places.{leaves_then}
use Rattle.earliest.specs.Withdrawn.{found_at}
use Rattle.earliest.proofs.Waiting.{past_end, list_short}
use Rattle.earliest.proofs.Bounds.{sound_arc}
use Rattle.earliest.proofs.Affecting.{done_below, tail_below, tail_place, tail_marked, tail_marking, tail_here, tail_seen, tails_seen}
use Rattle.earliest.proofs.affected.mark_tails.Goals as goal

pub bounds-found-done : goal.bounds-found-done
bounds-found-done g c =
    let f = c.requires.first in
    (done_below c.args.g.now f.0 f.1 c.args.values.now c.args.front.now c.args.found.now c.args.so_far.count c.args.so_far.done f.2 c.requires.next).1

pub arriving-requires : goal.arriving-requires
arriving-requires g c = c.requires.first.2.marking.within c.args.so_far.done c.requires.next

pub returns-clause-marking : goal.returns-clause-marking
returns-clause-marking g c = λ before gone m.
    tails_seen c.args.g.now c.exact.ensures (found_at c.args.found.now c.args.so_far.done) c.loop-arc.k c.args.values.now c.loop-arc.front c.loop-arc.found c.args.found.now c.loop-arc.count c.args.so_far.count before gone c.args.so_far.done
    (past_end (list_at c.args.g.now.arriving (found_at c.args.found.now c.args.so_far.done)) c.loop-arc.k (λ x q. c.in_default.not-Some x (c.arriving.ensures.entry ∙ q)))
    c.loop-arc.invariant.here (c.loop-arc.invariant.marking before gone m) c.requires.next c.loop-arc.invariant.more refl c.loop-arc.invariant.before

pub returns-clause-steps : goal.returns-clause-steps
returns-clause-steps g c = omega (arith, c.arriving.ensures.step, c.loop-arc.invariant.steps, c.loop-arc.invariant.seen)

pub loop-arc-smaller : goal.loop-arc-smaller
loop-arc-smaller g c =
    let l : c.loop-arc.k + 1 ≤ length (list_at c.args.g.now.arriving (found_at c.args.found.now c.args.so_far.done)) = tail_seen c.args.g.now c.exact.ensures (found_at c.args.found.now c.args.so_far.done) c.loop-arc.k c.in-Some.arc (sym c.arriving.ensures.entry ∙ c.in-Some.is) in
    omega arith

pub overflow_add-k : goal.overflow_add-k
overflow_add-k g c =
    let l : c.loop-arc.k + 1 ≤ length (list_at c.args.g.now.arriving (found_at c.args.found.now c.args.so_far.done)) = tail_seen c.args.g.now c.exact.ensures (found_at c.args.found.now c.args.so_far.done) c.loop-arc.k c.in-Some.arc (sym c.arriving.ensures.entry ∙ c.in-Some.is) in
    let short : length (list_at c.args.g.now.arriving (found_at c.args.found.now c.args.so_far.done)) ≤ length c.args.g.now.arcs = list_short c.args.g.now c.exact.ensures (found_at c.args.found.now c.args.so_far.done) in
    omega (arith, c.exact.ensures.arc_limit)

pub arc-a-requires : goal.arc-a-requires
arc-a-requires g c =
    let f = c.requires.first in
    tail_below c.args.g.now c.exact.ensures (found_at c.args.found.now c.args.so_far.done) c.loop-arc.k c.in-Some.arc (sym c.arriving.ensures.entry ∙ c.in-Some.is)

pub mark_tail-count-requires-clause-sound : goal.mark_tail-count-requires-clause-sound
mark_tail-count-requires-clause-sound g c =
    subst (λ n. IsSound n c.arc-a.result) (sym c.requires.values.one_each)
    (sound_arc c.args.g.now c.exact.ensures c.in-Some.arc (tail_below c.args.g.now c.exact.ensures (found_at c.args.found.now c.args.so_far.done) c.loop-arc.k c.in-Some.arc (sym c.arriving.ensures.entry ∙ c.in-Some.is)) c.arc-a.result c.arc-a.ensures)

pub mark_tail-count-requires-clause-place : goal.mark_tail-count-requires-clause-place
mark_tail-count-requires-clause-place g c =
    let f = c.requires.first in
    tail_place c.args.g.now c.exact.ensures (found_at c.args.found.now c.args.so_far.done) c.loop-arc.k c.in-Some.arc c.arc-a.result c.args.values.now c.loop-arc.front c.loop-arc.front c.loop-arc.found c.loop-arc.found c.loop-arc.count c.loop-arc.count
    (sym c.arriving.ensures.entry ∙ c.in-Some.is) c.arc-a.ensures f.0 f.1 c.args.so_far.done (c.loop-arc.invariant.marking f.0 f.1 f.2)

pub loop-arc-preserved : goal.loop-arc-preserved
loop-arc-preserved g c =
    let f = c.requires.first in
    let m = c.loop-arc.invariant.marking f.0 f.1 f.2 in
    let on = tail_marked c.args.g.now c.exact.ensures (found_at c.args.found.now c.args.so_far.done) c.loop-arc.k c.in-Some.arc c.arc-a.result c.args.values.now c.loop-arc.front c.mark_tail-count.new.front c.loop-arc.found c.mark_tail-count.new.found c.loop-arc.count c.mark_tail-count.result
    (sym c.arriving.ensures.entry ∙ c.in-Some.is) c.arc-a.ensures f.0 f.1 c.args.so_far.done m c.mark_tail-count.ensures.marked in
    record {
      marking = λ before gone i.
          tail_marking c.args.g.now c.exact.ensures (found_at c.args.found.now c.args.so_far.done) c.loop-arc.k c.in-Some.arc c.arc-a.result c.args.values.now c.loop-arc.front c.mark_tail-count.new.front c.loop-arc.found c.mark_tail-count.new.found c.loop-arc.count c.mark_tail-count.result
          (sym c.arriving.ensures.entry ∙ c.in-Some.is) c.arc-a.ensures before gone c.args.so_far.done (c.loop-arc.invariant.marking before gone i) (c.loop-arc.invariant.keeps (found_at c.args.found.now c.args.so_far.done) (f.2.marking.marked c.args.so_far.done c.requires.next)) c.mark_tail-count.ensures.marked;
      keeps = λ k w. on.keeps k (c.loop-arc.invariant.keeps k w);
      before = λ i l. on.before i (omega (arith, c.loop-arc.invariant.more)) ∙ c.loop-arc.invariant.before i l;
      places = leaves_then c.args.found.now c.loop-arc.found c.mark_tail-count.new.found c.loop-arc.count c.mark_tail-count.result on.more c.loop-arc.invariant.places on.places;
      more = omega (arith, on.more, c.loop-arc.invariant.more);
      here = tail_here c.args.g.now c.exact.ensures (found_at c.args.found.now c.args.so_far.done) c.loop-arc.k c.in-Some.arc c.arc-a.result c.args.values.now c.loop-arc.front c.mark_tail-count.new.front c.loop-arc.found c.mark_tail-count.new.found c.loop-arc.count c.mark_tail-count.result
          (sym c.arriving.ensures.entry ∙ c.in-Some.is) c.arc-a.ensures f.0 f.1 c.args.so_far.done m c.mark_tail-count.ensures.marked c.loop-arc.invariant.here;
      seen = tail_seen c.args.g.now c.exact.ensures (found_at c.args.found.now c.args.so_far.done) c.loop-arc.k c.in-Some.arc (sym c.arriving.ensures.entry ∙ c.in-Some.is);
      room = on.room ∙ c.loop-arc.invariant.room;
      steps = omega (arith, c.arriving.ensures.step, c.loop-arc.invariant.steps);
    }
