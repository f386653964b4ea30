use Rattle.attain.specs.RowLists.{cells_for}
use Rattle.attain.proofs.Paths.{IsOnPath}
use Rattle.attain.proofs.path.write_path.Given as goal

-- the steps from this node on are what is left of all
abbrev pub invariant-loop-step : goal.invariant-loop-step
invariant-loop-step g l = IsOnPath (g.N.Listing.listed l.names) l.side l.rows.graph (cells_for l.side l.rows) l.rows.node l.q (g.O.Sink.told l.initial.out) l.node l._step (g.O.Sink.told l.out)
