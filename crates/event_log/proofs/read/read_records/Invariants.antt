use Rattle.std.proofs.Common.{◌≡◌, ◌-◌, ℕ, List, length, take}
use Rattle.event_log.specs.Given.{HasGiven}
use Rattle.event_log.specs.Log.{AreRows}
use Rattle.event_log.specs.declared.row.Row.{Row}
use Rattle.event_log.proofs.read.read_records.Given as goal

abbrev pub invariant-records : goal.invariant-records
invariant-records l = (given : List (List (List ℕ))) × (all : List Row) × HasGiven l.piece given l.reader × AreRows given all × (l.kept.items ≡ take l.most all) × (l.number ≡ length given)

abbrev pub decreases-records : goal.decreases-records
decreases-records l = length l.piece - l.number
