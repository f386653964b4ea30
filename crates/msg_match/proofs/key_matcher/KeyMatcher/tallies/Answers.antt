use Rattle.std.proofs.Common.{◌≤◌, List, subst, sym, ap, ◌∙◌}
use Rattle.problem_model.specs.Limits.{most_items}
use Rattle.msg_match.specs.declared.group.Group.{Group}
use Rattle.msg_match.specs.Groups.{SeenItem}
use Rattle.msg_match.specs.Held.{seen_groups}
use Rattle.msg_match.specs.Messages.{tallies}
use Rattle.msg_match.specs.Parts.{sum_of_groups, total_of}
use Rattle.msg_match.proofs.Counting.{tallies_kept, total_kept}
use Rattle.msg_match.proofs.key_matcher.KeyMatcher.tallies.Goals as goal

pub sum-requires : goal.sum-requires
sum-requires c =
    subst (λ (gs : List Group). total_of (seen_groups gs) ≤ most_items) (sym c.deref.ensures.value) (total_kept c.self.inside.keys c.self.inside.log.items (seen_groups c.self.inside.groups.items) c.self.invariant)

pub returns : goal.returns
returns c =
    c.sum.ensures
    ∙ ap (λ (gs : List Group). sum_of_groups (seen_groups gs)) c.deref.ensures.value
    ∙ tallies_kept c.self.inside.keys c.self.inside.log.items (seen_groups c.self.inside.groups.items) c.self.invariant
    ∙ ap (λ (items : List SeenItem). tallies items) c.self.view_is
