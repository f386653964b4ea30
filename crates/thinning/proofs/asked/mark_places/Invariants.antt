use Rattle.std.proofs.Common.{◌<◌, ℕ, get_or}
use Rattle.thinning.specs.Thinned.{IsMarked}
use Rattle.thinning.proofs.asked.mark_places.Given as goal

-- the places so far have their marks
abbrev pub invariant-loop-place : goal.invariant-loop-place
invariant-loop-place l = (j d : ℕ) → j < l.place-index → IsMarked l.marks (get_or l.places j d)
