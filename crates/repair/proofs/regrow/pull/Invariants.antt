use Rattle.std.proofs.Common.{◌≡◌, ◌+◌, ◌-◌, ◌≤◌, length}
use Rattle.distances.specs.Facing.{opposite}
use Rattle.distances.specs.Searched.{IsOpenRow}
use Rattle.repair.specs.Pulling.{onward, AreSmallAtRest, IsTryingIn}
use Rattle.repair.proofs.regrow.pull.Given as goal

abbrev pub invariant-loop-arc : goal.invariant-loop-arc
invariant-loop-arc g l = record {
  tried : IsTryingIn l.search.graph l.search.side l.node l.k l.initial.row l.row l.initial.front l.front;
  at_rest : AreSmallAtRest l.row l.front;
  state : IsOpenRow l.search l.row l.front;
  room : length l.front ≡ length l.initial.front;
  within : l.k ≤ onward (opposite l.search.side) l.search.graph l.node;
  steps : l.steps ≡ l.initial.steps + l.k;
}

abbrev pub decreases-loop-arc : goal.decreases-loop-arc
decreases-loop-arc g l = onward (opposite l.search.side) l.search.graph l.node - l.k
