use Rattle.std.proofs.Common.{◌≡◌, ◌<◌, length, ap, sym, ◌∙◌, subst, arith, inl, inr}
use Rattle.distances.specs.Facing.{opposite, facing, end_of}
use Rattle.distances.proofs.Directions.{facing_from, facing_from_within}
use Rattle.repair.proofs.Pulls.{base_small, pulled_by, idle_unknown}
use Rattle.repair.proofs.regrow.pull_arc.Goals as goal

pub relax_arc-requires-clause-base : goal.relax_arc-requires-clause-base
relax_arc-requires-clause-base c =
    let et : c.tail-tail.result ≡ ((facing c.args.search.now.side c.args.search.now.graph).arc c.args.arc).from = c.tail-tail.ensures ∙ ap (end_of (opposite c.args.search.now.side)) c.arc-a.ensures ∙ sym (facing_from c.args.search.now.side c.args.search.now.graph c.args.arc) in
    let within : c.tail-tail.result < length c.args.search.now.graph.nodes = subst (λ n. n < length c.args.search.now.graph.nodes) (sym et) (facing_from_within c.args.search.now.side c.args.search.now.graph c.exact.ensures.graph c.args.arc c.requires.in_force) in
    base_small c.args.search.now.graph c.args.search.now.side c.args.arc c.tail-tail.result c.args.row.now c.args.front.now c.requires.at_rest et (omega (arith, c.requires.state.cells)) c.if-not-cell.false (sym c.key.ensures ∙ c.in_default.is)

pub returns-clause-pulled : goal.returns-clause-pulled
returns-clause-pulled c =
    let et : c.tail-tail.result ≡ ((facing c.args.search.now.side c.args.search.now.graph).arc c.args.arc).from = c.tail-tail.ensures ∙ ap (end_of (opposite c.args.search.now.side)) c.arc-a.ensures ∙ sym (facing_from c.args.search.now.side c.args.search.now.graph c.args.arc) in
    let within : c.tail-tail.result < length c.args.search.now.graph.nodes = subst (λ n. n < length c.args.search.now.graph.nodes) (sym et) (facing_from_within c.args.search.now.side c.args.search.now.graph c.exact.ensures.graph c.args.arc c.requires.in_force) in
    inr (pulled_by c.args.search.now.graph c.args.search.now.side c.args.arc c.tail-tail.result c.args.row.now c.args.front.now c.requires.at_rest et (omega (arith, c.requires.state.cells)) c.if-not-cell.false (sym c.key.ensures ∙ c.in_default.is) c.relax_arc.new.row c.relax_arc.new.front c.relax_arc.ensures.relaxed)

pub returns-then-not-cell-clause-pulled : goal.returns-then-not-cell-clause-pulled
returns-then-not-cell-clause-pulled c =
    let et : c.tail-tail.result ≡ ((facing c.args.search.now.side c.args.search.now.graph).arc c.args.arc).from = c.tail-tail.ensures ∙ ap (end_of (opposite c.args.search.now.side)) c.arc-a.ensures ∙ sym (facing_from c.args.search.now.side c.args.search.now.graph c.args.arc) in
    let within : c.tail-tail.result < length c.args.search.now.graph.nodes = subst (λ n. n < length c.args.search.now.graph.nodes) (sym et) (facing_from_within c.args.search.now.side c.args.search.now.graph c.exact.ensures.graph c.args.arc c.requires.in_force) in
    inl (idle_unknown c.args.search.now.graph c.args.search.now.side c.args.arc c.tail-tail.result c.args.row.now c.args.front.now et (omega (arith, c.requires.state.cells)) c.if-not-cell.true)
