use Rattle.std.proofs.Common.{arith, length-append, append_assoc, refl}
use Rattle.atto.proofs.DecimalLemmas.{decimal_of-small, decimal_of-step, length-decimal_of-step}
use Rattle.atto.proofs.text.+push_decimal.Goals as goal

pub returns-then-v-lt10 : goal.returns-then-v-lt10
returns-then-v-lt10 t c = rw (c.push.ensures.items, decimal_of-small c.args.v c.if-v-lt10.true) refl

pub push_decimal-requires : goal.push_decimal-requires
push_decimal-requires t c = grind (arith, length-decimal_of-step c.args.v c.if-v-lt10.false)

pub push-requires-2 : goal.push-requires-2
push-requires-2 t c = grind (arith, length-decimal_of-step c.args.v c.if-v-lt10.false, length-append, c.push_decimal.ensures)

pub returns : goal.returns
returns t c = rw (c.push-2.ensures.items, c.push_decimal.ensures, decimal_of-step c.args.v c.if-v-lt10.false, append_assoc) refl
