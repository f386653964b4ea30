use Rattle.std.proofs.Common.{◌≡◌, ◌≤◌, length, take}
use Rattle.msg_match.proofs.key_matcher.KeyMatcher.truncate.Given as goal

-- the events that are to stay are there
abbrev pub invariant-loop-self : goal.invariant-loop-self
invariant-loop-self l = (l.len ≤ length l.self) × (take l.len l.self ≡ take l.len l.initial.self)

abbrev pub decreases-loop-self : goal.decreases-loop-self
decreases-loop-self l = length l.self
