use Rattle.std.proofs.Common.{◌<◌, take}
use Rattle.event_log.specs.Front.{state_of}
use Rattle.event_log.proofs.Fifth.{Walked}
use Rattle.event_log.proofs.front.before_fifth.Given as goal

abbrev pub invariant-bytes : goal.invariant-bytes
invariant-bytes l = Walked (take l.i l.text) (state_of l.progress.place) l.progress.ended × (l.progress.ended < 4)
