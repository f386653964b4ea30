use Rattle.std.proofs.Common.{inl, inr, refl}
use Rattle.commands.proofs.merged.close_reply.Goals as goal

pub returns-in-Ok : goal.returns-in-Ok
returns-in-Ok g c = inl (refl, c.in-Ok.ensures.ok)

pub returns-in-Err : goal.returns-in-Err
returns-in-Err g c = inr (refl, (c.in-Err.ensures.cause, c.in-Err.ensures.err))
