use Rattle.std.specs.Prelude.{map, length}
use Rattle.sync_graph.specs.Graph.{unnamed}
use Rattle.withdrawals.proofs.Places.{leaves_then, leaves_flagged, unflagged}
use Rattle.earliest.specs.Withdrawn.{waits_at, arcs_before}
use Rattle.earliest.proofs.Dropping.{empty_rests}
use Rattle.earliest.proofs.Withdrawing.{are_low, are_small, are_obeyed, pulled_first, falling_first, found_few, rests_same, all_cost}
use Rattle.earliest.proofs.withdraw.withdraw_arcs.Goals as goal

pub mark_removed-first-requires-clause-values : goal.mark_removed-first-requires-clause-values
mark_removed-first-requires-clause-values g c = are_small c.args.g.now c.exact.ensures c.args.removed.now c.args.values.now c.requires.sound c.requires.before

pub mark_removed-first-requires-clause-empty : goal.mark_removed-first-requires-clause-empty
mark_removed-first-requires-clause-empty g c = empty_rests c.args.front.now c.requires.empty

pub mark_all-count-requires-clause-values : goal.mark_all-count-requires-clause-values
mark_all-count-requires-clause-values g c = are_small c.args.g.now c.exact.ensures c.args.removed.now c.args.values.now c.requires.sound c.requires.before

pub pull_all-requires-clause-values : goal.pull_all-requires-clause-values
pull_all-requires-clause-values g c = are_small c.args.g.now c.exact.ensures c.args.removed.now c.args.values.now c.requires.sound c.requires.before

pub pull_all-requires-clause-obeyed : goal.pull_all-requires-clause-obeyed
pull_all-requires-clause-obeyed g c = are_obeyed c.args.g.now c.exact.ensures c.args.removed.now c.args.values.now c.requires.sound c.requires.before

pub pull_all-requires-clause-few : goal.pull_all-requires-clause-few
pull_all-requires-clause-few g c =
    found_few c.args.g.now c.exact.ensures c.args.removed.now c.args.values.now c.requires.sound c.requires.before c.mark_all-count.new.front c.mark_all-count.new.found c.mark_all-count.result
    (c.mark_all-count.ensures.marking (arcs_before c.args.g.now c.args.removed.now) (map unnamed c.args.removed.now) c.mark_removed-first.ensures.marking)

pub pull_all-requires-clause-pulled : goal.pull_all-requires-clause-pulled
pull_all-requires-clause-pulled g c =
    pulled_first c.args.g.now c.exact.ensures c.args.removed.now c.args.values.now c.requires.sound c.requires.before c.mark_all-count.new.front c.mark_all-count.new.found c.mark_all-count.result
    (c.mark_all-count.ensures.marking (arcs_before c.args.g.now c.args.removed.now) (map unnamed c.args.removed.now) c.mark_removed-first.ensures.marking)
    (λ k d l x. c.mark_all-count.ensures.keeps _ (c.mark_removed-first.ensures.gone k d l x))

pub settle_falls-requires-clause-low : goal.settle_falls-requires-clause-low
settle_falls-requires-clause-low g c = are_low c.args.g.now c.exact.ensures c.args.removed.now c.args.values.now c.requires.sound c.requires.before

pub settle_falls-requires-clause-obeyed : goal.settle_falls-requires-clause-obeyed
settle_falls-requires-clause-obeyed g c = are_obeyed c.args.g.now c.exact.ensures c.args.removed.now c.args.values.now c.requires.sound c.requires.before

pub settle_falls-requires-clause-first : goal.settle_falls-requires-clause-first
settle_falls-requires-clause-first g c =
    falling_first c.args.g.now c.exact.ensures c.args.removed.now c.args.values.now c.requires.sound c.requires.before c.pull_all.new.front c.mark_all-count.new.found c.mark_all-count.result c.pull_all.ensures.pulled

pub returns-clause-steps : goal.returns-clause-steps
returns-clause-steps g c = λ affected cover.
    all_cost c.args.g.now c.exact.ensures c.args.removed.now c.args.values.now c.requires.sound c.requires.before c.mark_all-count.new.front c.mark_all-count.new.found c.mark_all-count.result
    c.pull_all.new.front c.args.steps.now c.mark_all-count.new.steps c.pull_all.new.steps c.settle_falls.new.steps affected
    (c.mark_all-count.ensures.marking (arcs_before c.args.g.now c.args.removed.now) (map unnamed c.args.removed.now) c.mark_removed-first.ensures.marking)
    c.pull_all.ensures.waits c.mark_all-count.ensures.steps c.pull_all.ensures.steps c.settle_falls.ensures.steps cover

pub returns-clause-places : goal.returns-clause-places
returns-clause-places g c = λ affected cover.
    let m = c.mark_all-count.ensures.marking (arcs_before c.args.g.now c.args.removed.now) (map unnamed c.args.removed.now) c.mark_removed-first.ensures.marking in
    leaves_flagged (length c.args.g.now.nodes) (waits_at c.mark_all-count.new.front) affected c.args.found.now c.mark_all-count.new.found c.mark_all-count.result
    (m.marking.counted (λ _. 1)) (λ k w. cover k (m.marking.affected k w))
    (leaves_then c.args.found.now c.mark_removed-first.new.found c.mark_all-count.new.found c.mark_removed-first.result c.mark_all-count.result
    c.mark_all-count.ensures.more c.mark_removed-first.ensures.places c.mark_all-count.ensures.places)

pub returns-clause-others : goal.returns-clause-others
returns-clause-others g c = λ affected cover k free.
    let m = c.mark_all-count.ensures.marking (arcs_before c.args.g.now c.args.removed.now) (map unnamed c.args.removed.now) c.mark_removed-first.ensures.marking in
    rests_same c.args.g.now c.exact.ensures c.args.removed.now c.args.values.now c.requires.sound c.requires.before c.mark_all-count.new.front c.mark_all-count.new.found c.mark_all-count.result
    m (λ i d l x. c.mark_all-count.ensures.keeps _ (c.mark_removed-first.ensures.gone i d l x)) c.settle_falls.new.values c.settle_falls.ensures.earliest k
    (unflagged (waits_at c.mark_all-count.new.front) affected (λ i w. cover i (m.marking.affected i w)) k free)
