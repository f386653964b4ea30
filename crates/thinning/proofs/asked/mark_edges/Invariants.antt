use Rattle.std.proofs.Common.{◌<◌, ℕ, get_or}
use Rattle.problem_model.specs.declared.items.Follow.{Follow}
use Rattle.thinning.specs.Edges.{HasEdgesMarked}
use Rattle.thinning.specs.Staying.{AreKeptMarks}
use Rattle.thinning.proofs.asked.mark_edges.Given as goal

-- the follows so far have the marks of their readings
abbrev pub invariant-loop-follow : goal.invariant-loop-follow
invariant-loop-follow l = record {
  kept : AreKeptMarks l.initial.marks l.marks;
  edges : (j : ℕ) (d : Follow) → j < l.follow-index → HasEdgesMarked l.marks l.edges (get_or l.follows j d);
}
