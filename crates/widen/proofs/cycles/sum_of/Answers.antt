use Rattle.std.proofs.Common.{◌≤◌, ◌+◌, ◌*◌, ◌^◌, sym, subst, arith}
use Rattle.std.specs.Prelude.{ℤ, unsigned_abs}
use Rattle.problem_model.specs.Numbers.{IsUpTo}
use Rattle.sync_graph.specs.declared.arc.Arc.{Arc}
use Rattle.widen.proofs.Summing.{sum_next, sum_all, sum_grows, sum_fits, sum_is}
use Rattle.widen.proofs.cycles.sum_of.Goals as goal

pub overflow_add-sum : goal.overflow_add-sum
overflow_add-sum c =
    let k = c.loop-arc.arc-index in
    let up = subst (λ (a : Arc). IsUpTo 93 a.weight) (sym c.arc-item.is) (c.requires.small k c.arc-item.result c.loop-arc-test.true) in
    sum_fits k _ _ c.arc-item.result.weight c.loop-arc-test.true c.requires.few c.loop-arc.invariant.small up

pub loop-arc-preserved : goal.loop-arc-preserved
loop-arc-preserved c =
    let k = c.loop-arc.arc-index in
    let up = subst (λ (a : Arc). IsUpTo 93 a.weight) (sym c.arc-item.is) (c.requires.small k c.arc-item.result c.loop-arc-test.true) in
    let more = sum_is k _ _ c.arc-item.result.weight c.loop-arc-test.true c.requires.few c.loop-arc.invariant.small up in
    record {
      rest = sum_next c.args.arcs.now k _ _ c.arc-item.result c.loop-arc-test.true c.arc-item.is more c.loop-arc.invariant.rest;
      small = subst (λ (z : ℤ). unsigned_abs z ≤ (k + 1) * 2 ^ 93) (sym more) (sum_grows k _ c.arc-item.result.weight c.loop-arc.invariant.small up);
    }

pub returns : goal.returns
returns c = record {
  value = sum_all c.args.arcs.now c.loop-arc.arc-index _ c.loop-arc-test.false c.loop-arc.invariant.rest;
  small = omega (arith, c.loop-arc.invariant.small, c.loop-arc.auto.arc-index-end, c.requires.few);
}
