use Rattle.std.proofs.Common.{◌≡◌, List, slice_get, ap, ◌∙◌}
use Rattle.msg_match.specs.Groups.{SeenItem, ambiguous_groups}
use Rattle.msg_match.specs.Held.{seen_items}
use Rattle.msg_match.specs.Windowed.{grouped_items}
use Rattle.msg_match.proofs.Kept.{kept_grouped}
use Rattle.msg_match.proofs.matcher.Matcher.group.Goals as goal

pub returns : goal.returns
returns c =
    let is : c.self.inside.by_group ≡ grouped_items c.args.self.now = kept_grouped c.self.inside.by_group (seen_items c.self.inside.timed.items) c.self.invariant ∙ ap (λ (l : List SeenItem). grouped_items l) c.self.view_is in
    c.group.ensures ∙ ap (λ (l : List SeenItem). slice_get (ambiguous_groups l) c.args.k) is
