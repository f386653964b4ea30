use Rattle.std.proofs.Common.{◌∷◌, []}
use Rattle.ports.proofs.Writing.{writes_then, writes_front, writes_failed}
use Rattle.commands.proofs.merged.write_reply.Goals as goal

pub returns-in_err-write_whole : goal.returns-in_err-write_whole
returns-in_err-write_whole g c = writes_failed c.from_residual.ensures.0 (writes_front (10 ∷ []) c.in_err-write_whole.ensures)

pub returns : goal.returns
returns g c = writes_then c.in_ok-write_whole.ensures c.write_whole-2.ensures
