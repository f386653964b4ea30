use Rattle.problem.proofs.Growing.{known_event, unknown_event}
use Rattle.problem.proofs.items.Items.is_new_event.Goals as goal

pub returns-in-Some : goal.returns-in-Some
returns-in-Some c = (λ f. absurd cc, λ new. absurd (known_event _ _ _ _ _ _ _ c.self.invariant c.in-Some.ensures.some (rw (← c.self.view_is) at new)))

pub returns-in-None : goal.returns-in-None
returns-in-None c = rw (← c.self.view_is) (
  (λ yes. let there = rw (← c.self.view_is) at (c.has_place_for.ensures.0 yes) in unknown_event _ _ _ _ _ _ c.self.invariant c.in-None.ensures.none there.0 there.1),
  (λ new. c.has_place_for.ensures.1 (rw (← c.self.view_is) (new.clock, new.alike))),
)
