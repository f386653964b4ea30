use Rattle.std.proofs.Common.{◌≡◌, map, take}
use Rattle.msg_match.specs.Ends.{name_as_came}
use Rattle.report.specs.Inside.{ids_in}
use Rattle.report.proofs.ambiguous.sorted_names.Given as goal

-- the names of the numbers so far
abbrev pub invariant-loop-number : goal.invariant-loop-number
invariant-loop-number l = l.sorted.items ≡ map (name_as_came (ids_in l.roster)) (take l.number-index l.numbers)
