use Rattle.std.proofs.Common.{◌≤◌, false, refl, length, arith}
use Rattle.withdrawals.proofs.Places.{leaves_then}
use Rattle.row_pool.specs.Row.{cells_of}
use Rattle.distances.specs.Facing.{end_of}
use Rattle.repair.specs.Clearings.{IsChildOf}
use Rattle.repair.proofs.Clearing.{seeded_none, seed_place, seeded_more, seeded_all, cleared_lengths, cleared_places, blank_cleared, few_marked}
use Rattle.repair.proofs.affected.clear_heads.Goals as goal

pub loop-i-init : goal.loop-i-init
loop-i-init c = record {
  seeded = λ was p r. ((λ _. false), seeded_none c.args.search.now.graph c.args.search.now.side c.args.removed.now p c.args.row.now c.args.found.now);
  places = λ i l. refl;
  blank = λ b. b;
}

pub clear_head-count-requires-clause-place : goal.clear_head-count-requires-clause-place
clear_head-count-requires-clause-place c = λ child.
    let b = c.requires.before in
    let s = c.loop-i.invariant.seeded b.0 b.1 b.2 in
    seed_place c.args.search.now.graph c.exact.ensures.graph c.args.search.now.side c.args.removed.now c.loop-i.i c.index-removed-i.result c.loop-i-test.true c.index-removed-i.is
    b.0 b.1 (cells_of c.args.row.now) c.loop-i.row s.0 c.loop-i.found c.loop-i.count b.2 s.1 child (omega (arith, c.requires.found, c.loop-i.auto.found))

pub clear_head-count-requires-clause-few : goal.clear_head-count-requires-clause-few
clear_head-count-requires-clause-few c =
    let b = c.requires.before in
    let s = c.loop-i.invariant.seeded b.0 b.1 b.2 in
    let l : c.loop-i.count ≤ length c.args.search.now.graph.nodes = few_marked c.args.search.now.graph c.args.search.now.side c.args.removed.now b.1 (cells_of c.args.row.now) c.loop-i.row s.0 c.loop-i.found c.loop-i.count 0 s.1.marking in
    omega (arith, c.exact.ensures.graph.node_limit)

pub loop-i-preserved : goal.loop-i-preserved
loop-i-preserved c =
    let n = cleared_lengths (IsChildOf c.args.search.now.graph c.loop-i.row (end_of c.args.search.now.side c.index-removed-i.result) c.index-removed-i.result) c.loop-i.row c.clear_head-count.new.row c.loop-i.found c.clear_head-count.new.found c.loop-i.count (end_of c.args.search.now.side c.index-removed-i.result) c.clear_head-count.result c.clear_head-count.ensures.cleared in
    record {
      seeded = λ was p r.
          let s = c.loop-i.invariant.seeded was p r in
          seeded_more c.args.search.now.graph c.exact.ensures.graph c.args.search.now.side c.args.removed.now c.loop-i.i c.index-removed-i.result c.loop-i-test.true c.index-removed-i.is
          was p (cells_of c.args.row.now) c.loop-i.row s.0 c.loop-i.found c.loop-i.count r s.1 c.clear_head-count.new.row c.clear_head-count.new.found c.clear_head-count.result c.clear_head-count.ensures.cleared
          (omega (arith, c.requires.cells, c.loop-i.auto.row)) (omega (arith, c.requires.found, c.loop-i.auto.found));
      places = leaves_then c.args.found.now c.loop-i.found c.clear_head-count.new.found c.loop-i.count c.clear_head-count.result n.2 c.loop-i.invariant.places
          (cleared_places (IsChildOf c.args.search.now.graph c.loop-i.row (end_of c.args.search.now.side c.index-removed-i.result) c.index-removed-i.result) c.loop-i.row c.clear_head-count.new.row c.loop-i.found c.clear_head-count.new.found c.loop-i.count (end_of c.args.search.now.side c.index-removed-i.result) c.clear_head-count.result c.clear_head-count.ensures.cleared);
      blank = λ b. blank_cleared (IsChildOf c.args.search.now.graph c.loop-i.row (end_of c.args.search.now.side c.index-removed-i.result) c.index-removed-i.result) c.loop-i.row c.clear_head-count.new.row c.loop-i.found c.clear_head-count.new.found c.loop-i.count (end_of c.args.search.now.side c.index-removed-i.result) c.clear_head-count.result c.clear_head-count.ensures.cleared (c.loop-i.invariant.blank b);
    }

pub returns-clause-marking : goal.returns-clause-marking
returns-clause-marking c = λ was p r.
    let s = c.loop-i.invariant.seeded was p r in
    (s.0, s.1.marking, seeded_all c.args.search.now.graph c.args.search.now.side c.args.removed.now c.loop-i.i p (cells_of c.args.row.now) c.loop-i.row s.0 c.loop-i.found c.loop-i.count (omega (arith, c.loop-i-test.false)) s.1)
