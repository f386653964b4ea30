use Rattle.line_format.proofs.Cutting.{cut-at_slice, cut-none}
use Rattle.std.proofs.Common.{arith, sym}
use Rattle.line_format.proofs.parts.cut.Goals as goal

pub returns-then-b-d : goal.returns-then-b-d
returns-then-b-d c = cut-at_slice _ _ c.loop-k.k c.loop-k.invariant c.loop-k-test.true c.if-b-d.true

pub returns : goal.returns
returns c = sym (cut-none _ _ (λ j below. c.loop-k.invariant j (omega (arith, below, c.loop-k-test.false))))
