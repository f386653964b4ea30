use Rattle.std.proofs.Common.{List, map, ap, ◌∙◌}
use Rattle.msg_match.specs.declared.group.Group.{Group}
use Rattle.msg_match.specs.Groups.{SeenItem, group_of, groups_of}
use Rattle.msg_match.specs.Held.{seen_groups}
use Rattle.msg_match.specs.Inside.{items_by}
use Rattle.msg_match.proofs.key_matcher.KeyMatcher.all_groups.Goals as goal

pub returns : goal.returns
returns c =
    let items = items_by c.self.inside.keys c.self.inside.log.items in
    ap (λ (gs : List Group). seen_groups gs) c.deref.ensures.value
    ∙ c.self.invariant.grouped
    ∙ ap (map (group_of items)) c.self.invariant.ordered
    ∙ ap (λ (held : List SeenItem). groups_of held) c.self.view_is
