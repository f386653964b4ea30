use Rattle.std.proofs.Common.{◌≡◌, rules, subst, sym}
use Rattle.atto.specs.Number.{FitsUnits}
use Rattle.problem_model.specs.declared.items.Node.TheVariants as nodes
use Rattle.cert.proofs.Taking.{event_other, event_range, event_taken, held_same, values_more}
use Rattle.cert.proofs.read.take_event.Goals as goal

pub returns-then-not-is_same-clause-takes : goal.returns-then-not-is_same-clause-takes
returns-then-not-is_same-clause-takes c = λ n stands.
    let other : c.in-Some.w.name ≡ c.args.name.now → ⊥ = search rules in
    event_other n.problem n.readings _ stands.0 _ _ c.in-Some.w stands.1 stands.2 c.in-Some.ensures.some other

pub returns-in_default-value-clause-takes : goal.returns-in_default-value-clause-takes
returns-in_default-value-clause-takes c = λ n stands.
    let same : c.in-Some.w.name ≡ c.args.name.now = search rules in
    event_range n.problem n.readings _ stands.0 _ _ c.in-Some.w stands.1 stands.2 c.in-Some.ensures.some same c.in_default-value.is

pub returns-clause-takes : goal.returns-clause-takes
returns-clause-takes c = λ n stands.
    let same : c.in-Some.w.name ≡ c.args.name.now = search rules in
    event_taken n.problem n.readings _ _ stands.0 _ _ c.in-Some.w _ stands.1 stands.2 c.in-Some.ensures.some same c.in-Some-value.is c.in_ok-push.ensures.ok

pub returns-clause-sound : goal.returns-clause-sound
returns-clause-sound c = λ n stands are.
    let says = c.in-Some.ensures.some in
    let held = held_same c.in-Some.w.value (FitsUnits says.z) says.z _ c.in-Some-value.is says.held in
    rw c.in_ok-push.ensures.ok (values_more n.problem n.readings _ (nodes.Event stands.0) _ stands.1 (subst FitsUnits (sym held.1) held.0) are)
