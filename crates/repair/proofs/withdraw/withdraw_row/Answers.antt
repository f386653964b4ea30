use Rattle.std.proofs.Common.{◌≤◌, length, arith}
use Rattle.row_pool.specs.Row.{cells_of}
use Rattle.withdrawals.proofs.Places.{leaves_then, leaves_flagged, unflagged}
use Rattle.distances.proofs.Searching.{search_small, search_obeyed}
use Rattle.repair.proofs.Clearing.{few_marked}
use Rattle.repair.proofs.Repairs.{before_of, left_over, left_small, left_past, found_free, open_found, cell_same, all_cost}
use Rattle.repair.proofs.withdraw.withdraw_row.Goals as goal

pub clear_heads-first-requires-clause-before : goal.clear_heads-first-requires-clause-before
clear_heads-first-requires-clause-before g c = (let w = c.requires.before in let b = before_of w.0 c.args.withdrawal.now.search.graph c.args.withdrawal.now.removed.now w.1 c.args.withdrawal.now.search.side c.args.p (cells_of c.args.row.now) w.2 in (b.0, c.args.p, b.1))

pub clear_all-count-requires-clause-first : goal.clear_all-count-requires-clause-first
clear_all-count-requires-clause-first g c =
    let w = c.requires.before in
    let b = before_of w.0 c.args.withdrawal.now.search.graph c.args.withdrawal.now.removed.now w.1 c.args.withdrawal.now.search.side c.args.p (cells_of c.args.row.now) w.2 in
    let fm = c.clear_heads-first.ensures.marking b.0 c.args.p b.1 in
    (c.args.withdrawal.now.removed.now, b.0, c.args.p, cells_of c.args.row.now, fm.0, b.1, fm.1)

pub regrow-requires-clause-few : goal.regrow-requires-clause-few
regrow-requires-clause-few g c =
    let w = c.requires.before in
    let b = before_of w.0 c.args.withdrawal.now.search.graph c.args.withdrawal.now.removed.now w.1 c.args.withdrawal.now.search.side c.args.p (cells_of c.args.row.now) w.2 in
    let fm = c.clear_heads-first.ensures.marking b.0 c.args.p b.1 in
    let am = c.clear_all-count.ensures.marking c.args.withdrawal.now.removed.now b.0 c.args.p (cells_of c.args.row.now) fm.0 b.1 fm.1 in
    let l : c.clear_all-count.result ≤ length c.args.withdrawal.now.search.graph.nodes = few_marked c.args.withdrawal.now.search.graph c.args.withdrawal.now.search.side c.args.withdrawal.now.removed.now c.args.p (cells_of c.args.row.now) c.clear_all-count.new.row am.0 c.clear_all-count.new.found c.clear_all-count.result c.clear_all-count.result am.1 in
    omega (arith, c.requires.found, c.clear_heads-first.auto.found, c.clear_all-count.auto.found)

pub regrow-requires-clause-found : goal.regrow-requires-clause-found
regrow-requires-clause-found g c =
    let w = c.requires.before in
    let b = before_of w.0 c.args.withdrawal.now.search.graph c.args.withdrawal.now.removed.now w.1 c.args.withdrawal.now.search.side c.args.p (cells_of c.args.row.now) w.2 in
    let fm = c.clear_heads-first.ensures.marking b.0 c.args.p b.1 in
    let am = c.clear_all-count.ensures.marking c.args.withdrawal.now.removed.now b.0 c.args.p (cells_of c.args.row.now) fm.0 b.1 fm.1 in
    found_free c.args.withdrawal.now.search.graph c.exact.ensures.graph c.args.withdrawal.now.search.side c.args.withdrawal.now.search.values b.0 c.args.withdrawal.now.removed.now c.args.p c.args.row.now c.clear_all-count.new.row am.0 c.clear_all-count.new.found c.clear_all-count.result
    (search_small c.args.withdrawal.now.search c.exact.ensures) (search_obeyed c.args.withdrawal.now.search c.exact.ensures) b.1 am.1 (λ k n h x. am.2 k (fm.2 k n h x))

pub regrow-requires-clause-all : goal.regrow-requires-clause-all
regrow-requires-clause-all g c =
    let w = c.requires.before in
    let b = before_of w.0 c.args.withdrawal.now.search.graph c.args.withdrawal.now.removed.now w.1 c.args.withdrawal.now.search.side c.args.p (cells_of c.args.row.now) w.2 in
    let fm = c.clear_heads-first.ensures.marking b.0 c.args.p b.1 in
    let am = c.clear_all-count.ensures.marking c.args.withdrawal.now.removed.now b.0 c.args.p (cells_of c.args.row.now) fm.0 b.1 fm.1 in
    open_found c.args.withdrawal.now.search.graph c.exact.ensures.graph c.args.withdrawal.now.search.side c.args.withdrawal.now.search.values b.0 c.args.withdrawal.now.removed.now c.args.p c.args.row.now c.clear_all-count.new.row am.0 c.clear_all-count.new.found c.clear_all-count.result
    (search_small c.args.withdrawal.now.search c.exact.ensures) (search_obeyed c.args.withdrawal.now.search c.exact.ensures) b.1 am.1 (λ k n h x. am.2 k (fm.2 k n h x))

pub regrow-requires-clause-left : goal.regrow-requires-clause-left
regrow-requires-clause-left g c =
    let w = c.requires.before in
    let b = before_of w.0 c.args.withdrawal.now.search.graph c.args.withdrawal.now.removed.now w.1 c.args.withdrawal.now.search.side c.args.p (cells_of c.args.row.now) w.2 in
    let fm = c.clear_heads-first.ensures.marking b.0 c.args.p b.1 in
    let am = c.clear_all-count.ensures.marking c.args.withdrawal.now.removed.now b.0 c.args.p (cells_of c.args.row.now) fm.0 b.1 fm.1 in
    left_over c.args.withdrawal.now.search.graph c.exact.ensures.graph c.args.withdrawal.now.search.side c.args.withdrawal.now.search.values b.0 c.args.withdrawal.now.removed.now c.args.p c.args.row.now c.clear_all-count.new.row am.0 c.clear_all-count.new.found c.clear_all-count.result
    (search_small c.args.withdrawal.now.search c.exact.ensures) (search_obeyed c.args.withdrawal.now.search c.exact.ensures) b.1 am.1 (λ k n h x. am.2 k (fm.2 k n h x))

pub regrow-requires-clause-distances : goal.regrow-requires-clause-distances
regrow-requires-clause-distances g c =
    let w = c.requires.before in
    let b = before_of w.0 c.args.withdrawal.now.search.graph c.args.withdrawal.now.removed.now w.1 c.args.withdrawal.now.search.side c.args.p (cells_of c.args.row.now) w.2 in
    let fm = c.clear_heads-first.ensures.marking b.0 c.args.p b.1 in
    let am = c.clear_all-count.ensures.marking c.args.withdrawal.now.removed.now b.0 c.args.p (cells_of c.args.row.now) fm.0 b.1 fm.1 in
    left_small c.args.withdrawal.now.search.graph c.exact.ensures.graph c.args.withdrawal.now.search.side c.args.withdrawal.now.search.values b.0 c.args.withdrawal.now.removed.now c.args.p c.args.row.now c.clear_all-count.new.row am.0 c.clear_all-count.new.found c.clear_all-count.result
    (search_small c.args.withdrawal.now.search c.exact.ensures) (search_obeyed c.args.withdrawal.now.search c.exact.ensures) b.1 am.1 (λ k n h x. am.2 k (fm.2 k n h x))

pub regrow-requires-clause-past : goal.regrow-requires-clause-past
regrow-requires-clause-past g c =
    let w = c.requires.before in
    let b = before_of w.0 c.args.withdrawal.now.search.graph c.args.withdrawal.now.removed.now w.1 c.args.withdrawal.now.search.side c.args.p (cells_of c.args.row.now) w.2 in
    let fm = c.clear_heads-first.ensures.marking b.0 c.args.p b.1 in
    let am = c.clear_all-count.ensures.marking c.args.withdrawal.now.removed.now b.0 c.args.p (cells_of c.args.row.now) fm.0 b.1 fm.1 in
    left_past c.args.withdrawal.now.search.graph c.exact.ensures.graph c.args.withdrawal.now.search.side c.args.withdrawal.now.search.values b.0 c.args.withdrawal.now.removed.now c.args.p c.args.row.now c.clear_all-count.new.row am.0 c.clear_all-count.new.found c.clear_all-count.result
    (search_small c.args.withdrawal.now.search c.exact.ensures) (search_obeyed c.args.withdrawal.now.search c.exact.ensures) b.1 am.1 (λ k n h x. am.2 k (fm.2 k n h x))

pub returns-clause-blank : goal.returns-clause-blank
returns-clause-blank g c = c.regrow.ensures.blank (c.clear_all-count.ensures.blank (c.clear_heads-first.ensures.blank c.requires.blank))

pub returns-clause-steps : goal.returns-clause-steps
returns-clause-steps g c = λ affected cover.
    let w = c.requires.before in
    let b = before_of w.0 c.args.withdrawal.now.search.graph c.args.withdrawal.now.removed.now w.1 c.args.withdrawal.now.search.side c.args.p (cells_of c.args.row.now) w.2 in
    let fm = c.clear_heads-first.ensures.marking b.0 c.args.p b.1 in
    let am = c.clear_all-count.ensures.marking c.args.withdrawal.now.removed.now b.0 c.args.p (cells_of c.args.row.now) fm.0 b.1 fm.1 in
    all_cost c.args.withdrawal.now.search.graph c.exact.ensures.graph c.args.withdrawal.now.search.side c.args.withdrawal.now.search.values b.0 c.args.withdrawal.now.removed.now c.args.p c.args.row.now c.clear_all-count.new.row am.0 c.clear_all-count.new.found c.clear_all-count.result
    (search_small c.args.withdrawal.now.search c.exact.ensures) (search_obeyed c.args.withdrawal.now.search c.exact.ensures) b.1 am.1 (λ k n h x. am.2 k (fm.2 k n h x))
    c.regrow.new.row c.regrow.ensures.settled.0 c.args.steps.now c.clear_all-count.new.steps c.regrow.new.steps affected
    c.regrow.ensures.settled.2 c.regrow.ensures.settled.1 c.clear_all-count.ensures.steps c.regrow.ensures.steps cover

pub returns-clause-places : goal.returns-clause-places
returns-clause-places g c = λ affected cover.
    let w = c.requires.before in
    let b = before_of w.0 c.args.withdrawal.now.search.graph c.args.withdrawal.now.removed.now w.1 c.args.withdrawal.now.search.side c.args.p (cells_of c.args.row.now) w.2 in
    let fm = c.clear_heads-first.ensures.marking b.0 c.args.p b.1 in
    let am = c.clear_all-count.ensures.marking c.args.withdrawal.now.removed.now b.0 c.args.p (cells_of c.args.row.now) fm.0 b.1 fm.1 in
    leaves_flagged (length c.args.withdrawal.now.search.graph.nodes) am.0 affected c.args.found.now c.clear_all-count.new.found c.clear_all-count.result
    (am.1.counted (λ _. 1)) (λ k m. cover k (am.1.affected k m))
    (leaves_then c.args.found.now c.clear_heads-first.new.found c.clear_all-count.new.found c.clear_heads-first.result c.clear_all-count.result
    c.clear_all-count.ensures.more c.clear_heads-first.ensures.places c.clear_all-count.ensures.places)

pub returns-clause-others : goal.returns-clause-others
returns-clause-others g c = λ affected cover k free.
    let w = c.requires.before in
    let b = before_of w.0 c.args.withdrawal.now.search.graph c.args.withdrawal.now.removed.now w.1 c.args.withdrawal.now.search.side c.args.p (cells_of c.args.row.now) w.2 in
    let fm = c.clear_heads-first.ensures.marking b.0 c.args.p b.1 in
    let am = c.clear_all-count.ensures.marking c.args.withdrawal.now.removed.now b.0 c.args.p (cells_of c.args.row.now) fm.0 b.1 fm.1 in
    cell_same c.args.withdrawal.now.search.graph c.exact.ensures.graph c.args.withdrawal.now.search.side c.args.withdrawal.now.search.values b.0 c.args.withdrawal.now.removed.now c.args.p c.args.row.now c.clear_all-count.new.row am.0 c.clear_all-count.new.found c.clear_all-count.result
    (search_small c.args.withdrawal.now.search c.exact.ensures) (search_obeyed c.args.withdrawal.now.search c.exact.ensures) b.1 am.1 (λ i n h x. am.2 i (fm.2 i n h x))
    c.regrow.new.row c.regrow.ensures.settled.0 c.regrow.ensures.settled.2 c.regrow.ensures.settled.1 k
    (unflagged am.0 affected (λ i m. cover i (am.1.affected i m)) k free)
