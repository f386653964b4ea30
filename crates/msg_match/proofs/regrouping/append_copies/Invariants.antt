use Rattle.std.proofs.Common.{◌≡◌, ◌++◌, take}
use Rattle.msg_match.specs.Held.{seen_items}
use Rattle.msg_match.proofs.regrouping.append_copies.Given as goal

-- the events so far are copied
abbrev pub invariant-loop-item : goal.invariant-loop-item
invariant-loop-item l = seen_items l.all.items ≡ seen_items l.initial.all.items ++ seen_items (take l.item-index l.items)
