use Rattle.problem_model.specs.Rows.{attaining}
use Rattle.ports.proofs.Writing.{Leaves}
use Rattle.attain.specs.RowLists.{cells_for}
use Rattle.attain.specs.Sides.{differences}
use Rattle.attain.proofs.Lines.{values_from}
use Rattle.attain.proofs.lead.write_times.Given as goal

-- the nodes from this place on are what is left of all
abbrev pub invariant-loop-place : goal.invariant-loop-place
invariant-loop-place g l =
    Leaves (g.O.Sink.told l.initial.out) (g.O.Sink.told l.out)
    (values_from (g.N.Listing.listed l.names) (attaining (cells_for l.side l.rows).known (differences l.side (cells_for l.side l.rows)) l.rows.values l.lead) l.place)
    (values_from (g.N.Listing.listed l.names) (attaining (cells_for l.side l.rows).known (differences l.side (cells_for l.side l.rows)) l.rows.values l.lead) 0)
