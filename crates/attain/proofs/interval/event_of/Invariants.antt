use Rattle.attain.proofs.Events.{NoneIs}
use Rattle.attain.proofs.interval.event_of.Given as goal

-- no event so far is the node
abbrev pub invariant-loop-place : goal.invariant-loop-place
invariant-loop-place g l = NoneIs ((g.N.Listing.listed l.names).events) l.node l.place
