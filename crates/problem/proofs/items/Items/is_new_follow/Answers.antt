use Rattle.problem.proofs.Linked.{new_ends, taken_from, taken_to}
use Rattle.problem.proofs.items.Items.is_new_follow.Goals as goal

pub returns-in-None-None-clause-test : goal.returns-in-None-None-clause-test
returns-in-None-None-clause-test c gap = (
  (λ yes. new_ends _ _ (c.are_clocks_in_order.ensures.0 yes) c.in-None-None.ensures c.in-None-None.ensures'.value),
  (λ new. c.are_clocks_in_order.ensures.1 new.leads),
)

pub returns-in_default-clause-test : goal.returns-in_default-clause-test
returns-in_default-clause-test c gap = ((λ yes. absurd cc), (λ new. absurd (taken_to _ _ c.in_default.field-0-1 c.in_default.ensures'.value new)))

pub returns-in_default-2-clause-test : goal.returns-in_default-2-clause-test
returns-in_default-2-clause-test c gap = ((λ yes. absurd cc), (λ new. absurd (taken_from _ _ c.in_default.field-0-0 c.in_default.ensures new)))
