use Rattle.std.proofs.Common.{drop}
use Rattle.std.specs.Prelude.{All}
use Rattle.widen.specs.Search.{IsCycleOf}
use Rattle.widen.specs.Blame.{link_candidates, IsBlamedUpTo}
use Rattle.widen.proofs.blame.add_links.Given as goal

-- the lines of the links before this place are there
abbrev pub invariant-loop-link : goal.invariant-loop-link
invariant-loop-link g l = record {
  lines : IsBlamedUpTo l.p (link_candidates l.links) l.fn.lines.text.items → IsBlamedUpTo l.p (link_candidates (drop l.link-index l.links)) l.lines.text.items;
  cycles : All (IsCycleOf l.p) l.lines.cycles.items;
}
