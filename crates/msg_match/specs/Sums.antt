-- Sums of what is counted.
use Rattle.std.specs.Prelude.{◌+◌}
use Rattle.msg_match.specs.declared.change.Tallies.{Tallies}

-- both together
abbrev pub plus : Tallies → Tallies → Tallies
plus a b = record { messages = a.messages + b.messages; unmatched = a.unmatched + b.unmatched; ambiguous = a.ambiguous + b.ambiguous }
