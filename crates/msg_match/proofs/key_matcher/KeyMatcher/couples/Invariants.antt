use Rattle.std.proofs.Common.{take}
use Rattle.msg_match.specs.Held.{seen_items}
use Rattle.msg_match.specs.Parts.{AreCouplesOf}
use Rattle.msg_match.proofs.key_matcher.KeyMatcher.couples.Given as goal

-- the messages of the keys of the events so far are found
abbrev pub invariant-loop-item : goal.invariant-loop-item
invariant-loop-item l = AreCouplesOf l.self (seen_items (take l.item-index l.items)) l.found
