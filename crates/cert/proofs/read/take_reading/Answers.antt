use Rattle.std.proofs.Common.{◌≡◌, Some, rules, subst, sym}
use Rattle.atto.specs.Number.{FitsUnits}
use Rattle.problem_model.specs.declared.items.Node.TheVariants as nodes
use Rattle.cert.proofs.Taking.{reading_other, reading_range, reading_taken, held_same, values_more, stamp_same, stamp_held}
use Rattle.cert.proofs.read.take_reading.Goals as goal

pub returns-then-not-is_same-clause-takes : goal.returns-then-not-is_same-clause-takes
returns-then-not-is_same-clause-takes c = λ n stands.
    let other : c.in-Some.w.clock ≡ c.args.clock.now → ⊥ = search rules in
    reading_other n.problem n.readings _ stands.0 c.args.stamp _ _ c.in-Some.w stands.1 stands.2 c.in-Some.ensures.some (λ same _. other same)

pub returns-then-ne-clause-takes : goal.returns-then-ne-clause-takes
returns-then-ne-clause-takes c = λ n stands.
    let says = c.in-Some.ensures.some in
    let other : c.in-Some.w.stamp ≡ Some c.args.stamp → ⊥ = search rules in
    reading_other n.problem n.readings _ stands.0 c.args.stamp _ _ c.in-Some.w stands.1 stands.2 says (λ _ reads. other (stamp_held says.m c.args.stamp c.in-Some.w.stamp says.stamp_held c.get.ensures.fits reads))

pub returns-in_default-value-clause-takes : goal.returns-in_default-value-clause-takes
returns-in_default-value-clause-takes c = λ n stands.
    let says = c.in-Some.ensures.some in
    let same : c.in-Some.w.clock ≡ c.args.clock.now = search rules in
    let reads : c.in-Some.w.stamp ≡ Some c.args.stamp = search rules in
    reading_range n.problem n.readings _ stands.0 c.args.stamp _ _ c.in-Some.w stands.1 stands.2 says same (stamp_same says.m c.args.stamp c.in-Some.w.stamp says.stamp_held reads) c.in_default-value.is

pub returns-clause-takes : goal.returns-clause-takes
returns-clause-takes c = λ n stands.
    let says = c.in-Some.ensures.some in
    let same : c.in-Some.w.clock ≡ c.args.clock.now = search rules in
    let reads : c.in-Some.w.stamp ≡ Some c.args.stamp = search rules in
    reading_taken n.problem n.readings _ _ stands.0 c.args.stamp _ _ c.in-Some.w _ stands.1 stands.2 says same (stamp_same says.m c.args.stamp c.in-Some.w.stamp says.stamp_held reads) c.in-Some-value.is c.in_ok-push.ensures.ok

pub returns-clause-sound : goal.returns-clause-sound
returns-clause-sound c = λ n stands are.
    let says = c.in-Some.ensures.some in
    let held = held_same c.in-Some.w.value (FitsUnits says.z) says.z _ c.in-Some-value.is says.held in
    rw c.in_ok-push.ensures.ok (values_more n.problem n.readings _ (nodes.Reading stands.0 c.args.stamp) _ stands.1 (subst FitsUnits (sym held.1) held.0) are)
