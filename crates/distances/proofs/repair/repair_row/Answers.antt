use Rattle.std.proofs.Common.{◌≡◌, ◌+◌, ◌<◌, true, length, get_or, sym, subst, ap, ◌∙◌, arith, to_z, of_z}
use mir.Syntax.{w128}
use Rattle.row_pool.specs.declared.cell.Cell.{Cell}
use Rattle.problem_model.specs.Numbers.{IsUpTo}
use Rattle.problem_model.specs.Limits.{path_bits}
use Rattle.earliest.proofs.Bounds.{worth}
use Rattle.sync_graph.specs.Graph.{arc_at}
use Rattle.row_pool.specs.Row.{cell_at}
use Rattle.distances.specs.Facing.{end_of, opposite}
use Rattle.distances.specs.Searched.{nodes}
use Rattle.distances.proofs.Puts.{no_cell, cell_read}
use Rattle.distances.proofs.Repairing.{part_before, tail_within, same_row, tail_small, start_along}
use Rattle.distances.proofs.Searching.{force_below}
use Rattle.distances.proofs.repair.repair_row.Goals as goal

pub arc-a-requires : goal.arc-a-requires
arc-a-requires g c = force_below c.args.search.now c.exact.ensures c.args.arc c.requires.in_force

pub settle-requires-clause-part : goal.settle-requires-clause-part
settle-requires-clause-part g c = part_before c.args.search.now c.exact.ensures c.args.arc c.args.p c.args.row.now c.requires.in_force c.requires.before

pub offset_bounds-row-tail : goal.offset_bounds-row-tail
offset_bounds-row-tail g c =
    let et : c.tail.result ≡ end_of (opposite c.args.search.now.side) (arc_at c.args.search.now.graph.arcs c.args.arc) = c.tail.ensures ∙ ap (end_of (opposite c.args.search.now.side)) c.arc-a.ensures in
    let l : c.tail.result < nodes c.args.search.now = tail_within c.args.search.now c.exact.ensures c.args.arc c.args.p c.args.row.now c.requires.in_force c.requires.before c.tail.result et in
    omega (arith, c.requires.cells)

pub candidate_along-candidate-requires-clause-base : goal.candidate_along-candidate-requires-clause-base
candidate_along-candidate-requires-clause-base g c =
    let et : c.tail.result ≡ end_of (opposite c.args.search.now.side) (arc_at c.args.search.now.graph.arcs c.args.arc) = c.tail.ensures ∙ ap (end_of (opposite c.args.search.now.side)) c.arc-a.ensures in
    let l : c.tail.result < nodes c.args.search.now = tail_within c.args.search.now c.exact.ensures c.args.arc c.args.p c.args.row.now c.requires.in_force c.requires.before c.tail.result et in
    let lr : c.tail.result < length c.args.row.now = omega (arith, c.requires.cells) in
    let here : get_or c.args.row.now c.tail.result no_cell ≡ cell_at c.args.row.now c.tail.result = cell_read c.args.row.now c.tail.result lr in
    let known : (cell_at c.args.row.now c.tail.result).known ≡ true = ap (λ (x : Cell). x.known) (sym here) ∙ c.if-tail.true in
    let u : IsUpTo (path_bits + 3) (cell_at c.args.row.now c.tail.result).value = tail_small c.args.search.now c.exact.ensures c.args.arc c.args.p c.args.row.now c.requires.in_force c.requires.before c.tail.result et known in
    let v : to_z w128 (of_z w128 (get_or c.args.row.now c.tail.result no_cell).value) ≡ (cell_at c.args.row.now c.tail.result).value = ap (λ (x : Cell). to_z w128 (of_z w128 x.value)) here ∙ worth (cell_at c.args.row.now c.tail.result).value u in
    subst (IsUpTo (path_bits + 3)) (sym v) u

pub settle-requires-clause-start : goal.settle-requires-clause-start
settle-requires-clause-start g c =
    let et : c.tail.result ≡ end_of (opposite c.args.search.now.side) (arc_at c.args.search.now.graph.arcs c.args.arc) = c.tail.ensures ∙ ap (end_of (opposite c.args.search.now.side)) c.arc-a.ensures in
    let l : c.tail.result < nodes c.args.search.now = tail_within c.args.search.now c.exact.ensures c.args.arc c.args.p c.args.row.now c.requires.in_force c.requires.before c.tail.result et in
    let lr : c.tail.result < length c.args.row.now = omega (arith, c.requires.cells) in
    let here : get_or c.args.row.now c.tail.result no_cell ≡ cell_at c.args.row.now c.tail.result = cell_read c.args.row.now c.tail.result lr in
    let known : (cell_at c.args.row.now c.tail.result).known ≡ true = ap (λ (x : Cell). x.known) (sym here) ∙ c.if-tail.true in
    let u : IsUpTo (path_bits + 3) (cell_at c.args.row.now c.tail.result).value = tail_small c.args.search.now c.exact.ensures c.args.arc c.args.p c.args.row.now c.requires.in_force c.requires.before c.tail.result et known in
    let v : to_z w128 (of_z w128 (get_or c.args.row.now c.tail.result no_cell).value) ≡ (cell_at c.args.row.now c.tail.result).value = ap (λ (x : Cell). to_z w128 (of_z w128 x.value)) here ∙ worth (cell_at c.args.row.now c.tail.result).value u in
    start_along c.args.search.now c.exact.ensures c.args.arc c.args.p c.args.row.now c.requires.in_force c.requires.before c.tail.result et known
    (to_z w128 (of_z w128 (get_or c.args.row.now c.tail.result no_cell).value)) c.candidate_along-candidate.result.node c.candidate_along-candidate.result.parent c.candidate_along-candidate.result.distance
    v c.candidate_along-candidate.ensures.node c.candidate_along-candidate.ensures.distance c.candidate_along-candidate.ensures.parent

pub returns-else-tail-clause-row : goal.returns-else-tail-clause-row
returns-else-tail-clause-row g c =
    let et : c.tail.result ≡ end_of (opposite c.args.search.now.side) (arc_at c.args.search.now.graph.arcs c.args.arc) = c.tail.ensures ∙ ap (end_of (opposite c.args.search.now.side)) c.arc-a.ensures in
    let l : c.tail.result < nodes c.args.search.now = tail_within c.args.search.now c.exact.ensures c.args.arc c.args.p c.args.row.now c.requires.in_force c.requires.before c.tail.result et in
    let lr : c.tail.result < length c.args.row.now = omega (arith, c.requires.cells) in
    let here : get_or c.args.row.now c.tail.result no_cell ≡ cell_at c.args.row.now c.tail.result = cell_read c.args.row.now c.tail.result lr in
    same_row c.args.search.now c.exact.ensures c.args.arc c.args.p c.args.row.now c.requires.in_force c.requires.before c.tail.result et (ap (λ (x : Cell). x.known) (sym here) ∙ c.if-tail.false)

pub returns-else-tail-clause-cost : goal.returns-else-tail-clause-cost
returns-else-tail-clause-cost g c = omega arith
