use Rattle.problem.proofs.Growing.{known_pair, unknown_pair}
use Rattle.problem.proofs.items.Items.is_new_pair.Goals as goal

pub returns-in-Some-clause-test : goal.returns-in-Some-clause-test
returns-in-Some-clause-test c = (λ f. absurd cc, λ new. absurd (known_pair _ _ _ _ _ _ _ _ c.self.invariant c.in-Some.ensures.some (rw (← c.self.view_is) at new)))

pub returns-in-None-clause-test : goal.returns-in-None-clause-test
returns-in-None-clause-test c = rw (← c.self.view_is) (
  (λ yes. unknown_pair _ _ _ _ _ _ _ c.self.invariant c.in-None.ensures.none (rw (← c.self.view_is) at (c.are_two_events.ensures.0 yes))),
  (λ new. c.are_two_events.ensures.1 (rw (← c.self.view_is) (new.sends, new.receives, new.two_ends))),
)
