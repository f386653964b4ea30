use Rattle.std.proofs.Common.{◌≤◌, ℕ, List, length, subst, sym}
use Rattle.std.proofs.lemmas.List.{length-map}
use Rattle.problem_model.specs.Limits.{most_items}
use Rattle.msg_match.specs.declared.group.Group.{Group}
use Rattle.msg_match.specs.Held.{seen_group, seen_groups}
use Rattle.msg_match.proofs.Counting.{groups_few}
use Rattle.msg_match.proofs.key_matcher.KeyMatcher.groups.Goals as goal

pub ambiguous_count-requires : goal.ambiguous_count-requires
ambiguous_count-requires c =
    let few = groups_few c.self.inside.keys c.self.inside.log.items (seen_groups c.self.inside.groups.items) c.self.invariant in
    subst (λ (gs : List Group). length gs ≤ most_items) (sym c.deref.ensures.value) (subst (λ (n : ℕ). n ≤ most_items) (length-map c.self.inside.groups.items seen_group) few)
