use Rattle.std.proofs.Common.{◌<◌, ℕ}
use Rattle.attain.specs.RowLists.{IsKnown, cells_for}
use Rattle.attain.specs.Sides.{lead, IsAsFar}
use Rattle.attain.proofs.lead.lead_of.Given as goal

-- no node so far is farther out
abbrev pub invariant-loop-node : goal.invariant-loop-node
invariant-loop-node l = record {
  known : IsKnown l.side l.rows l.farthest;
  so_far : (k : ℕ) → k < l.node → IsKnown l.side l.rows k → IsAsFar l.side (lead l.side (cells_for l.side l.rows) l.rows.values l.farthest) (lead l.side (cells_for l.side l.rows) l.rows.values k);
}
