use Rattle.std.proofs.Common.{◌∙◌}
use Rattle.ports.proofs.Writing.{writes_as}
use Rattle.replies.proofs.refusal.write_refusal.Goals as goal

pub returns : goal.returns
returns g c = writes_as (c.deref.ensures.0 ∙ c.line.ensures) c.write_whole.ensures
