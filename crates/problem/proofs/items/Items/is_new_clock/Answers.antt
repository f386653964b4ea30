use Rattle.problem.proofs.Growing.{known_clock, unknown_clock}
use Rattle.problem.proofs.items.Items.is_new_clock.Goals as goal

pub returns-in-Some : goal.returns-in-Some
returns-in-Some c = (λ f. absurd cc, λ new. absurd (known_clock _ _ _ _ _ _ _ c.self.invariant c.in-Some.ensures.some (rw (← c.self.view_is) at new)))

pub returns-in-None : goal.returns-in-None
returns-in-None c = rw (← c.self.view_is) (
  (λ yes. unknown_clock _ _ _ _ _ _ c.self.invariant c.in-None.ensures.none (c.is_short.ensures.0 yes)),
  (λ new. c.is_short.ensures.1 new.named),
)
