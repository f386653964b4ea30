use Rattle.std.proofs.Common.{◌≡◌, take, map}
use Rattle.widen.specs.Blame.{link_of}
use Rattle.widen.proofs.links.ends_of.Given as goal

abbrev pub invariant-loop-message : goal.invariant-loop-message
invariant-loop-message l = l.ends.items ≡ map (link_of l.p.events) (take l.message-index l.p.messages)
