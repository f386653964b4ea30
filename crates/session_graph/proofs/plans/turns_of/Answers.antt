use Rattle.std.proofs.Common.{ℕ, List, subst}
use Rattle.std.specs.List.Sorted.{IsPermutation}
use Rattle.std.proofs.lemmas.List.Sorted.{IsPermutation-map}
use Rattle.session_graph.specs.declared.plans.Turn.{Turn}
use Rattle.session_graph.specs.Plans.{turn_numbers}
use Rattle.session_graph.proofs.plans.turns_of.Goals as goal

pub returns-clause-numbers : goal.returns-clause-numbers
returns-clause-numbers c =
    subst (λ (l : List ℕ). IsPermutation l (turn_numbers c.sort_unstable_by_key.new.self.items)) c.in_ok-turns.ensures.numbers
    (IsPermutation-map (λ (t : Turn). t.event) _ _ c.sort_unstable_by_key.ensures.permutation)
