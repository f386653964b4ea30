use Rattle.std.proofs.Common.{◌≡◌, ℕ, List, length, map, sym, ◌∙◌, ap, subst, arith}
use Rattle.std.specs.Prelude.{All, ℤ, pos, ◌<ℤ◌}
use Rattle.std.proofs.lemmas.Int.{ints}
use Rattle.problem_model.specs.Solutions.{weight_of}
use Rattle.sync_graph.specs.declared.arc.Arc.{Arc}
use Rattle.cert_check.specs.Widened.{widened}
use Rattle.widen.specs.Weighed.{IsWeighed, weighed_arcs, arc_of}
use Rattle.widen.specs.Found.{IsCycleFor}
use Rattle.widen.proofs.Sharing.{names_shared, few_shared, shared_there}
use Rattle.widen.proofs.shared_cycles.try_cycle.Goals as goal

pub arcs_in-requires : goal.arcs_in-requires
arcs_in-requires c =
    let is : c.deref.result.now ≡ map arc_of c.args.cycle.now = c.deref.ensures.value ∙ c.in_ok-arcs.ensures ∙ ap (map arc_of) c.steps.ensures in
    names_shared c.args.p.now c.events.ensures.lawful c.args.cycle.now c.requires.cycle c.deref.result.now is

pub sum_of-requires-clause-few : goal.sum_of-requires-clause-few
sum_of-requires-clause-few c =
    let is : c.deref.result.now ≡ map arc_of c.args.cycle.now = c.deref.ensures.value ∙ c.in_ok-arcs.ensures ∙ ap (map arc_of) c.steps.ensures in
    let few = few_shared c.args.p.now c.events.ensures.lawful c.args.cycle.now c.requires.cycle c.deref.result.now is c.readings.result.now c.readings.ensures c.in_ok-here.here.items c.in_ok-here.ensures.same in
    let same = ap length c.deref-2.ensures.value in
    omega (arith, few, same)

pub last_cycle-requires-clause-cycle : goal.last_cycle-requires-clause-cycle
last_cycle-requires-clause-cycle c =
    let w = c.args.what in
    let p = c.args.p.now in
    let e = c.args.extra in
    let here : List Arc = c.in_ok-here.here.items in
    let is : c.deref.result.now ≡ map arc_of c.args.cycle.now = c.deref.ensures.value ∙ c.in_ok-arcs.ensures ∙ ap (map arc_of) c.steps.ensures in
    let weighed : All (IsWeighed (widened w p e)) here = subst (λ (n : ℕ). All (IsWeighed (widened w p n)) here) c.nano.ensures c.in_ok-here.ensures.weighed in
    let sum : c.sum_of.result ≡ weight_of (weighed_arcs here) = c.sum_of.ensures.value ∙ ap (λ (arcs : List Arc). weight_of (weighed_arcs arcs)) c.deref-2.ensures.value in
    let low : c.sum_of.result <ℤ pos 0 = omega (arith, ints, c.if-sum_of-lt0.true, c.sum_of.ensures.small) in
    let negative : weight_of (weighed_arcs here) <ℤ pos 0 = subst (λ (z : ℤ). z <ℤ pos 0) sum low in
    subst (IsCycleFor w p e) (sym c.deref-then-sum_of-lt0.ensures.value)
    (shared_there p c.events.ensures.lawful c.args.cycle.now c.requires.cycle c.deref.result.now is w e here c.in_ok-here.ensures.same weighed c.in_ok-here.ensures.small negative)
