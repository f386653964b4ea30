use Rattle.std.proofs.Common.{◌≡◌, length}
use Rattle.msg_match.specs.Held.{seen_items}
use Rattle.trace_tests.specs.Numbered.{AreNumberedFrom}
use Rattle.trace_tests.proofs.matches.items.Given as goal

abbrev pub invariant-loop-place : goal.invariant-loop-place
invariant-loop-place l = (length l.items.items ≡ l.place) × AreNumberedFrom l.first (seen_items l.items.items)
