use Rattle.std.proofs.Common.{◌≡◌, ◌≤◌, ◌+◌, drop}
use Rattle.mergecap.specs.Packets.{all_timed}
use Rattle.merge_script.specs.Gathered.{bytes_in, most_bytes}
use Rattle.merge_script.proofs.sizes.with_all.Given as goal

-- so far and what is left is all
abbrev pub invariant-loop-stored : goal.invariant-loop-stored
invariant-loop-stored l = (l.all ≤ most_bytes) × (l.all + bytes_in (all_timed (drop l.stored-index l.packets)) ≡ l.total + bytes_in (all_timed l.packets))
