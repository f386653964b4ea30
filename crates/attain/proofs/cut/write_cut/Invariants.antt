use Rattle.std.proofs.Common.{None}
use Rattle.ports.proofs.Writing.{Leaves}
use Rattle.attain.specs.RowLists.{cells_for}
use Rattle.attain.specs.Sides.{is_upper}
use Rattle.attain.proofs.Cutting.{inside_from}
use Rattle.attain.proofs.cut.write_cut.Given as goal

-- what the readings from this place on give is what is left of all
abbrev pub invariant-loop-place : goal.invariant-loop-place
invariant-loop-place g l =
    Leaves (g.O.Sink.told l.initial.out) (g.O.Sink.told l.out)
    (inside_from (g.N.Listing.listed l.names) (is_upper l.side) (cells_for l.side l.rows) l.last l.place) (inside_from (g.N.Listing.listed l.names) (is_upper l.side) (cells_for l.side l.rows) None 0)
