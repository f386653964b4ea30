use Rattle.std.proofs.Common.{get_or, arith}
use Rattle.std.specs.Int.{IsInRange}
use Rattle.atto.proofs.Reading.{decimal_of-zero_first, decimal_of-digits, sofar_more}
use Rattle.atto.proofs.text.read_number.Goals as goal

pub returns-else-text-eq1 : goal.returns-else-text-eq1
returns-else-text-eq1 c = λ v e. c.if-text-eq1.false (rw e (decimal_of-zero_first v (rw e at c.if-text-eq48.true)))

pub returns-then-not-is_ascii_digit : goal.returns-then-not-is_ascii_digit
returns-then-not-is_ascii_digit c = λ v e.
    let is_digit : IsInRange 48 57 (get_or c.args.text.now c.loop-c.c-index 0) = rw e (decimal_of-digits v c.loop-c.c-index (rw e at c.loop-c-test.true)) in
    grind (arith, is_digit.0, is_digit.1, c.if-not-is_ascii_digit.true, c.is_ascii_digit.ensures.cases)

pub loop-c-preserved : goal.loop-c-preserved
loop-c-preserved c =
    let is_digit : IsInRange 48 57 (get_or c.args.text.now c.loop-c.c-index 0) = grind (arith, c.if-not-is_ascii_digit.false, c.is_ascii_digit.ensures.bound) in
    sofar_more c.args.text.now c.args.limit c.loop-c.c-index _ _ c.loop-c-test.true c.if-text-eq48.false is_digit c.loop-c.invariant
    (λ m counts. c.next_number-number.ensures m counts)
