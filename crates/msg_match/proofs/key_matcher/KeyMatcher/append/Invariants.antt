use Rattle.std.proofs.Common.{◌≡◌, ◌++◌, take}
use Rattle.msg_match.specs.Held.{seen_items}
use Rattle.msg_match.proofs.key_matcher.KeyMatcher.append.Given as goal

-- the events so far are added
abbrev pub invariant-loop-item : goal.invariant-loop-item
invariant-loop-item l = l.self ≡ l.initial.self ++ seen_items (take l.item-index l.items)
