use Rattle.std.proofs.Common.{ℕ, List, length, map, subst, ap, ◌∙◌, arith}
use Rattle.std.specs.Prelude.{All}
use Rattle.sync_graph.specs.declared.arc.Arc.{Arc}
use Rattle.cert_check.specs.Widened.{widened}
use Rattle.widen.specs.Weighed.{IsWeighed, step_of}
use Rattle.widen.proofs.Lasting.{same_long}
use Rattle.widen.proofs.Proposing.{steps_named, cycle_judged}
use Rattle.widen.proofs.proposed.judged.Goals as goal

pub chain_of-requires-clause-few : goal.chain_of-requires-clause-few
chain_of-requires-clause-few c =
    let same = same_long c.deref.result.now c.in_ok-arcs.arcs.items c.in_ok-arcs.ensures.same in
    let before = ap length c.deref.ensures.value in
    let after = ap length c.deref-2.ensures.value in
    omega (arith, c.requires.few, same, before, after)

pub is_contradiction-requires-clause-steps : goal.is_contradiction-requires-clause-steps
is_contradiction-requires-clause-steps c =
    let w = c.args.what in
    let p = c.args.p.now in
    let last = c.args.healed.now.last in
    let arcs : List Arc = c.in_ok-arcs.arcs.items in
    let weighed : All (IsWeighed (widened w p last)) arcs = subst (λ (e : ℕ). All (IsWeighed (widened w p e)) arcs) c.nano.ensures c.in_ok-arcs.ensures.weighed in
    steps_named w p last arcs c.in_ok-cycle.cycle (c.in_ok-cycle.ensures ∙ ap (map step_of) c.deref-2.ensures.value) weighed

pub returns-then-is_contradiction : goal.returns-then-is_contradiction
returns-then-is_contradiction c = λ e le. (
  le,
  c.requires.last,
  cycle_judged c.args.what c.args.p.now c.args.healed.now.last c.in_ok-arcs.arcs.items c.in_ok-cycle.cycle (c.in_ok-cycle.ensures ∙ ap (map step_of) c.deref-2.ensures.value) c.in_ok-arcs.ensures.small
      (c.is_contradiction.ensures.contradiction c.if-is_contradiction.true) (c.is_contradiction.ensures.short c.if-is_contradiction.true),
)
