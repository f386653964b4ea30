use Rattle.std.proofs.Common.{◌≡◌, length}
use Rattle.msg_match.specs.Series.{AreBegun}
use Rattle.msg_match.proofs.series.begins_of.Given as goal

-- the groups of the events so far begin so
abbrev pub invariant-loop-k : goal.invariant-loop-k
invariant-loop-k l = AreBegun l.k l.stops l.begins.items × (length l.begins.items ≡ length l.stops)
