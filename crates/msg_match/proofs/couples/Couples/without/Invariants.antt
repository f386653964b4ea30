use Rattle.std.proofs.Common.{◌≡◌, take}
use Rattle.msg_match.specs.Parts.{left_of}
use Rattle.msg_match.proofs.couples.Couples.without.Given as goal

-- those so far that are not among the others are left
abbrev pub invariant-loop-couple : goal.invariant-loop-couple
invariant-loop-couple l = l.left.items ≡ left_of l.others (take l.couple-index l.couple-items)
