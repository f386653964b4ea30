use Rattle.std.proofs.Common.{length}
use Rattle.replies.specs.Commands.{names_seen}
use Rattle.session.proofs.AskedEvents.{AreFound}
use Rattle.session.proofs.thins.places_of.Given as goal

abbrev pub invariant-loop-name : goal.invariant-loop-name
invariant-loop-name l = AreFound l.p (names_seen l.events) (names_seen l.rest) l.places.items

abbrev pub decreases-loop-name : goal.decreases-loop-name
decreases-loop-name l = length (names_seen l.rest)
