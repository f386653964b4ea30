use Rattle.std.proofs.Common.{List, ◌++◌, drop}
use Rattle.std.specs.Prelude.{All}
use Rattle.cert_check.specs.declared.what.What.{What}
use Rattle.widen.specs.Search.{IsCycleOf}
use Rattle.widen.specs.Blame.{clock_candidates, IsBlamedUpTo}
use Rattle.widen.proofs.blame.add_clocks.Given as goal

-- the lines of the clocks before this place are there
abbrev pub invariant-loop-place : goal.invariant-loop-place
invariant-loop-place g l = record {
  lines : (rest : List What) → IsBlamedUpTo l.p (clock_candidates 0 l.p.clocks ++ rest) l.fn.lines.text.items → IsBlamedUpTo l.p (clock_candidates l.place (drop l.place l.p.clocks) ++ rest) l.lines.text.items;
  cycles : All (IsCycleOf l.p) l.lines.cycles.items;
}
