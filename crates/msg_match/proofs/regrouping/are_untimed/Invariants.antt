use Rattle.std.proofs.Common.{take}
use Rattle.std.specs.Prelude.{All}
use Rattle.msg_match.specs.Held.{seen_items}
use Rattle.msg_match.specs.Inside.{IsUntimed}
use Rattle.msg_match.proofs.regrouping.are_untimed.Given as goal

-- no event so far has a moment
abbrev pub invariant-loop-item : goal.invariant-loop-item
invariant-loop-item l = All IsUntimed (seen_items (take l.item-index l.items))
