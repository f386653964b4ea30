use Rattle.std.proofs.Common.{◌≡◌, ℕ, take, map}
use Rattle.intervals.specs.Ends.{ends_of}
use Rattle.session_answers.specs.Quantities.{pair_by}
use Rattle.session_answers.proofs.since.ends_by.Given as goal

-- the ends at the nodes so far
abbrev pub invariant-loop-node : goal.invariant-loop-node
invariant-loop-node l = l.all.items ≡ map (λ (node : ℕ). ends_of (pair_by l.from l.to node)) (take l.node-index l.nodes)
