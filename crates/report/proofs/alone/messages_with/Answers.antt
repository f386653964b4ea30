use Rattle.std.proofs.Common.{refl}
use Rattle.report.specs.Groups.{has}
use Rattle.report.proofs.Noted.{next_noted}
use Rattle.report.proofs.alone.messages_with.Goals as goal

pub loop-group-preserved : goal.loop-group-preserved
loop-group-preserved c = next_noted (has c.args.having) c.args.groups.now c.loop-group.group-index c.group-item.result _ _ _ _ c.loop-group-test.true c.group-item.is refl c.has.ensures c.loop-group.invariant c.in_ok-note.ensures
