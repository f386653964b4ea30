use Rattle.std.proofs.Common.{get_or, ap, arith}
use Rattle.roster.specs.Groups.{lists_of}
use Rattle.roster.proofs.SumLevels.{at_inside, at_part, at_fits, go_on, begin, still_levels, first_written}
use Rattle.roster.proofs.sums.write.Goals as goal

pub exchange-requires-clause-inside : goal.exchange-requires-clause-inside
exchange-requires-clause-inside c =
    at_inside (lists_of c.args.levels.now) c.loop-level.levels c.loop-level.level-index c.args.place c.loop-level.at c.index-old.result.now c.args.new 4294967296
    (get_or c.loop-level.levels c.loop-level.level-index c.level-item.result) c.loop-level.invariant (ap (get_or c.loop-level.levels c.loop-level.level-index) c.level-item.is)
    (omega (arith, c.loop-level-test.true, c.loop-level.auto.levels))

pub exchange-requires-clause-part : goal.exchange-requires-clause-part
exchange-requires-clause-part c =
    at_part (lists_of c.args.levels.now) c.loop-level.levels c.loop-level.level-index c.args.place c.loop-level.at c.index-old.result.now c.args.new 4294967296
    (get_or c.loop-level.levels c.loop-level.level-index c.level-item.result) c.loop-level.invariant (ap (get_or c.loop-level.levels c.loop-level.level-index) c.level-item.is)
    (omega (arith, c.loop-level-test.true, c.loop-level.auto.levels))

pub exchange-requires-clause-fits : goal.exchange-requires-clause-fits
exchange-requires-clause-fits c =
    at_fits (lists_of c.args.levels.now) c.loop-level.levels c.loop-level.level-index c.args.place c.loop-level.at c.index-old.result.now c.args.new 4294967296
    (get_or c.loop-level.levels c.loop-level.level-index c.level-item.result) c.loop-level.invariant (ap (get_or c.loop-level.levels c.loop-level.level-index) c.level-item.is)
    (omega (arith, c.loop-level-test.true, c.loop-level.auto.levels))

pub loop-level-preserved : goal.loop-level-preserved
loop-level-preserved c =
    go_on (lists_of c.args.levels.now) c.loop-level.levels c.loop-level.level-index c.args.place c.loop-level.at c.index-old.result.now c.args.new 4294967296
    (get_or c.loop-level.levels c.loop-level.level-index c.level-item.result) c.loop-level.invariant (ap (get_or c.loop-level.levels c.loop-level.level-index) c.level-item.is)
    (omega (arith, c.loop-level-test.true, c.loop-level.auto.levels))
    c.exchange.new.level c.exchange.ensures

pub loop-level-init : goal.loop-level-init
loop-level-init c =
    begin c.args.levels.now c.args.place c.index-old.result.now c.args.new 4294967296 c.requires.levels c.requires.inside
    (get_or c.args.levels.now 0 c.index-levels-0.result) (ap (get_or c.args.levels.now 0) c.index-levels-0.is) c.index-old.ensures c.requires.fits

pub returns-clause-levels : goal.returns-clause-levels
returns-clause-levels c =
    still_levels c.args.levels.now c.args.place c.index-old.result.now c.args.new 4294967296 c.requires.levels c.requires.inside
    (get_or c.args.levels.now 0 c.index-levels-0.result) (ap (get_or c.args.levels.now 0) c.index-levels-0.is) c.index-old.ensures
    c.loop-level.levels c.loop-level.level-index c.loop-level.at c.loop-level.invariant (omega (arith, c.loop-level-test.false, c.loop-level.auto.levels))

pub returns-clause-first : goal.returns-clause-first
returns-clause-first c =
    first_written c.args.levels.now c.args.place c.index-old.result.now c.args.new 4294967296 c.requires.levels c.requires.inside
    (get_or c.args.levels.now 0 c.index-levels-0.result) (ap (get_or c.args.levels.now 0) c.index-levels-0.is) c.index-old.ensures
    c.loop-level.levels c.loop-level.level-index c.loop-level.at c.loop-level.invariant (omega (arith, c.loop-level-test.false, c.loop-level.auto.levels))
