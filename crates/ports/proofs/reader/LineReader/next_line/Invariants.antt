use Rattle.std.proofs.Common.{◌≡◌, ◌-◌, ◌⊎◌}
use Rattle.ports.specs.Lines.{NoFeed, most_taken}
use Rattle.ports.proofs.Going.{IsGoing}
use Rattle.ports.proofs.reader.LineReader.next_line.Given as goal

abbrev pub invariant-pieces : goal.invariant-pieces
invariant-pieces g l = IsGoing l.initial.self l.self (g.S.Source.told l.initial.source) (g.S.Source.told l.source) l.line.items l.long
    × (NoFeed l.initial.self.held ⊎ ((l.source ≡ l.initial.source) × (l.self ≡ l.initial.self)))

abbrev pub decreases-pieces : goal.decreases-pieces
decreases-pieces g l = most_taken - l.self.taken
