use Rattle.std.proofs.Common.{◌≡◌, List, ap, ◌∙◌}
use Rattle.msg_match.specs.Groups.{SeenItem}
use Rattle.msg_match.specs.Messages.{tallies}
use Rattle.msg_match.specs.Held.{seen_items}
use Rattle.msg_match.specs.Windowed.{grouped_items}
use Rattle.msg_match.proofs.Kept.{kept_grouped}
use Rattle.msg_match.proofs.matcher.Matcher.tallies.Goals as goal

pub returns : goal.returns
returns c =
    let is : c.self.inside.by_group ≡ grouped_items c.args.self.now = kept_grouped c.self.inside.by_group (seen_items c.self.inside.timed.items) c.self.invariant ∙ ap (λ (l : List SeenItem). grouped_items l) c.self.view_is in
    c.tallies.ensures ∙ ap (λ (l : List SeenItem). tallies l) is
