use Rattle.std.proofs.Common.{drop}
use Rattle.decl.specs.Declaration.{declaration_of}
use Rattle.traces.specs.Held.{placed_in}
use Rattle.ports.proofs.Writing.{Leaves}
use Rattle.replies.specs.Writing.{lines_merged, times_by}
use Rattle.replies.proofs.lines.write_lines.Given as goal

-- the lines from this place of the order on are what is left of all
abbrev pub invariant-loop-place : goal.invariant-loop-place
invariant-loop-place g l =
    Leaves (g.O.Sink.told l.initial.out) (g.O.Sink.told l.out)
    (lines_merged (declaration_of l.decl) (times_by (g.N.Listing.listed l.names) l.e.values) (placed_in l.events) (drop l.place-index l.order))
    (lines_merged (declaration_of l.decl) (times_by (g.N.Listing.listed l.names) l.e.values) (placed_in l.events) l.order)
