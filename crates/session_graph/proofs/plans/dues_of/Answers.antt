use Rattle.std.proofs.Common.{List, subst}
use Rattle.std.specs.List.Sorted.{IsPermutation}
use Rattle.std.proofs.lemmas.List.Sorted.{IsPermutation-map}
use Rattle.problem_model.specs.declared.items.Message.{Message}
use Rattle.session_graph.specs.declared.plans.Due.{Due}
use Rattle.session_graph.specs.Plans.{messages_in}
use Rattle.session_graph.proofs.plans.dues_of.Goals as goal

pub returns : goal.returns
returns c =
    subst (λ (l : List Message). IsPermutation l (messages_in c.sort_unstable_by_key.new.self.items)) c.in_ok-dues.ensures
    (IsPermutation-map (λ (d : Due). d.message) _ _ c.sort_unstable_by_key.ensures.permutation)
