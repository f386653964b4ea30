use Rattle.thinning.proofs.Marking.{AreEndsOf}
use Rattle.thinning.proofs.small.mark_ends.Given as goal

-- the ends of the messages so far have their marks
abbrev pub invariant-loop-place : goal.invariant-loop-place
invariant-loop-place l = AreEndsOf l.messages l.keeps l.initial.stays l.stays l.place
