use Rattle.problem.proofs.items.Items.message_place.Goals as goal

pub returns-clause-some : goal.returns-clause-some
returns-clause-some c = rw (← c.self.view_is, ← c.self.invariant.pairs_are) c.in_ok-place.ensures.some
