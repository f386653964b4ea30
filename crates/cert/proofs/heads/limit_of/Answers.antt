use Rattle.std.proofs.Common.{Some, refl}
use Rattle.cert.proofs.heads.limit_of.Goals as goal

pub returns-in-Ok : goal.returns-in-Ok
returns-in-Ok c = (Some c.in-Ok.value, c.in-Ok.ensures.0, c.in-Ok.ensures.1, rw (c.new-in-Ok.ensures, c.new-in-Ok-2.ensures) refl)

pub returns-in-Err-Range : goal.returns-in-Err-Range
returns-in-Err-Range c = let fault = rw c.in-Err-Range.field-0-is at c.in-Err-Range.ensures in (Some fault.0, fault.1, fault.2)
