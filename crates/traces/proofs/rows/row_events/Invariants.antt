use Rattle.std.proofs.Common.{◌≡◌, map}
use Rattle.decl.specs.Declaration.{declaration_of}
use Rattle.traces.specs.Seen.{seen_events, seen_row}
use Rattle.traces.proofs.rows.row_events.Given as goal

-- the events so far are those of the rows so far
abbrev pub invariant-loop-row : goal.invariant-loop-row
invariant-loop-row l = seen_events l.events.items ≡ map (seen_row (declaration_of l.decl) l.label) l.yielded
