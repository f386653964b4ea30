use Rattle.std.proofs.Common.{◌≡◌, ℕ, List, length, map, ◌∙◌, ap, subst, arith}
use Rattle.std.specs.Prelude.{All, ℤ, pos, ◌<ℤ◌}
use Rattle.std.proofs.lemmas.Int.{ints}
use Rattle.problem_model.specs.Solutions.{weight_of}
use Rattle.sync_graph.specs.declared.arc.Arc.{Arc}
use Rattle.cert_check.specs.Widened.{widened}
use Rattle.widen.specs.Weighed.{IsWeighed, weighed_arcs, step_of}
use Rattle.widen.specs.Found.{IsCycleFor}
use Rattle.widen.proofs.Lasting.{few_arcs, names, same_long, cycle_there, later_cycle}
use Rattle.widen.proofs.attempt.last_cycle.Goals as goal

pub last_of-last-requires : goal.last_of-last-requires
last_of-last-requires c = record {
  extra = c.requires.extra;
  few = few_arcs c.args.what c.args.p.now c.args.extra c.args.arcs.now c.events.ensures.lawful c.requires.cycle c.readings.result.now c.readings.ensures;
  names = names c.args.what c.args.p.now c.args.extra c.args.arcs.now c.events.ensures.lawful c.requires.cycle;
}

pub arcs_in-requires : goal.arcs_in-requires
arcs_in-requires c = names c.args.what c.args.p.now c.args.extra c.args.arcs.now c.events.ensures.lawful c.requires.cycle

pub sum_of-requires-clause-few : goal.sum_of-requires-clause-few
sum_of-requires-clause-few c =
    let few = few_arcs c.args.what c.args.p.now c.args.extra c.args.arcs.now c.events.ensures.lawful c.requires.cycle c.readings.result.now c.readings.ensures in
    let same = same_long c.args.arcs.now c.in_ok-later.later.items c.in_ok-later.ensures.same in
    let is = ap length c.deref.ensures.value in
    omega (arith, few, same, is)

pub chain_of-requires-clause-few : goal.chain_of-requires-clause-few
chain_of-requires-clause-few c =
    let few = few_arcs c.args.what c.args.p.now c.args.extra c.args.arcs.now c.events.ensures.lawful c.requires.cycle c.readings.result.now c.readings.ensures in
    let same = same_long c.args.arcs.now c.in_ok-later.later.items c.in_ok-later.ensures.same in
    let is = ap length c.deref-then-sum_of-lt0.ensures.value in
    omega (arith, few, same, is)

pub returns-then-sum_of-lt0 : goal.returns-then-sum_of-lt0
returns-then-sum_of-lt0 c =
    let w = c.args.what in
    let p = c.args.p.now in
    let last = c.last_of-last.result in
    let later : List Arc = c.in_ok-later.later.items in
    let weighed : All (IsWeighed (widened w p last)) later = subst (λ (e : ℕ). All (IsWeighed (widened w p e)) later) c.nano.ensures c.in_ok-later.ensures.weighed in
    let sum : c.sum_of.result ≡ weight_of (weighed_arcs later) = c.sum_of.ensures.value ∙ ap (λ (arcs : List Arc). weight_of (weighed_arcs arcs)) c.deref.ensures.value in
    let low : c.sum_of.result <ℤ pos 0 = omega (arith, ints, c.if-sum_of-lt0.true, c.sum_of.ensures.small) in
    let negative : weight_of (weighed_arcs later) <ℤ pos 0 = subst (λ (z : ℤ). z <ℤ pos 0) sum low in
    let there : IsCycleFor w p last later = later_cycle w p c.args.extra c.args.arcs.now c.events.ensures.lawful c.requires.cycle w last later c.in_ok-later.ensures.same weighed c.in_ok-later.ensures.small negative in (
      c.last_of-last.ensures.from,
      c.last_of-last.ensures.within,
      cycle_there w p last later c.events.ensures.lawful there c.in_ok-cycle.cycle (c.in_ok-cycle.ensures ∙ ap (map step_of) c.deref-then-sum_of-lt0.ensures.value),
    )

pub chain_of-requires-2-clause-few : goal.chain_of-requires-2-clause-few
chain_of-requires-2-clause-few c = few_arcs c.args.what c.args.p.now c.args.extra c.args.arcs.now c.events.ensures.lawful c.requires.cycle c.readings.result.now c.readings.ensures

pub returns : goal.returns
returns c = (
  omega arith,
  c.requires.extra,
  cycle_there c.args.what c.args.p.now c.args.extra c.args.arcs.now c.events.ensures.lawful c.requires.cycle c.in_ok-cycle-2.cycle c.in_ok-cycle-2.ensures,
)
