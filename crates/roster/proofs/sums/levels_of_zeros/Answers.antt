use Rattle.std.proofs.Common.{◌∙◌, arith}
use Rattle.roster.specs.Groups.{lists_of}
use Rattle.roster.proofs.SumLevels.{more_levels, more_last, same_first, fewer}
use Rattle.roster.proofs.sums.levels_of_zeros.Goals as goal

pub loop-width-preserved : goal.loop-width-preserved
loop-width-preserved c =
    let more = more_levels c.loop-width.width c.loop-width.levels.items c.push-in-loop-width.new.self.items c.in_ok-zeros-2.field-0 c.loop-width.invariant.levels c.loop-width.invariant.last c.in_ok-zeros-2.ensures c.in_ok-push-2.ensures.items in
    let last = more_last c.loop-width.width c.loop-width.levels.items c.push-in-loop-width.new.self.items c.in_ok-zeros-2.field-0 c.loop-width.invariant.levels c.loop-width.invariant.last c.in_ok-zeros-2.ensures c.in_ok-push-2.ensures.items in
    let first = same_first c.loop-width.width c.loop-width.levels.items c.push-in-loop-width.new.self.items c.in_ok-zeros-2.field-0 c.loop-width.invariant.levels c.loop-width.invariant.last c.in_ok-zeros-2.ensures c.in_ok-push-2.ensures.items in
    record { levels = more; last = last; first = first ∙ c.loop-width.invariant.first }

pub returns-clause-levels : goal.returns-clause-levels
returns-clause-levels c = fewer c.loop-width.width 1 (lists_of c.loop-width.levels.items) c.loop-width.invariant.levels (let past = c.loop-width-test.false in omega (arith, past))
