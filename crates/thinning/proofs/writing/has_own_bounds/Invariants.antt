use Rattle.std.proofs.Common.{is_some}
use Rattle.problem_model.specs.declared.items.Event.{Event}
use Rattle.thinning.proofs.Printed.{NonePasses}
use Rattle.thinning.proofs.writing.has_own_bounds.Given as goal

-- none of the events so far has bounds of its own and stays
abbrev pub invariant-loop-place : goal.invariant-loop-place
invariant-loop-place l = NonePasses (λ (e : Event). is_some e.bounds) l.events l.stays l.place
