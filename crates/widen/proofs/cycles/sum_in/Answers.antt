use Rattle.std.proofs.Common.{◌≤◌, ◌+◌, ◌*◌, ◌^◌, sym, subst, arith}
use Rattle.std.specs.Prelude.{ℤ, unsigned_abs}
use Rattle.widen.specs.Weighed.{IsNameOf}
use Rattle.widen.proofs.Summing.{sum_grows, sum_fits, sum_is}
use Rattle.widen.proofs.Weighing.{abs_up}
use Rattle.widen.proofs.cycles.sum_in.Goals as goal

pub declared_in-bound-requires : goal.declared_in-bound-requires
declared_in-bound-requires c = subst (IsNameOf c.args.p.now) (sym c.arc-item.is) (c.requires.names c.loop-arc.arc-index c.arc-item.result c.loop-arc-test.true)

pub overflow_add-sum : goal.overflow_add-sum
overflow_add-sum c = sum_fits c.loop-arc.arc-index _ _ c.declared_in-bound.result.weight c.loop-arc-test.true c.requires.few c.loop-arc.invariant (abs_up _ c.declared_in-bound.ensures.below)

pub loop-arc-preserved : goal.loop-arc-preserved
loop-arc-preserved c =
    let k = c.loop-arc.arc-index in
    let up = abs_up _ c.declared_in-bound.ensures.below in
    let more = sum_is k _ _ c.declared_in-bound.result.weight c.loop-arc-test.true c.requires.few c.loop-arc.invariant up in
    subst (λ (z : ℤ). unsigned_abs z ≤ (k + 1) * 2 ^ 93) (sym more) (sum_grows k _ c.declared_in-bound.result.weight c.loop-arc.invariant up)

pub returns : goal.returns
returns c = omega (arith, c.loop-arc.invariant, c.loop-arc.auto.arc-index-end, c.requires.few)
