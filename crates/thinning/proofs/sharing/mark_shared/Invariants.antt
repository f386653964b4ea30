use Rattle.thinning.specs.Keeping.{AreMarked}
use Rattle.thinning.proofs.sharing.mark_shared.Given as goal

abbrev pub invariant-loop-message : goal.invariant-loop-message
invariant-loop-message l = AreMarked l.messages l.message-index l.seen l.shared
