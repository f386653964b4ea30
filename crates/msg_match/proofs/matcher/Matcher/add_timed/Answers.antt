use Rattle.std.proofs.Common.{◌≡◌, List, ap, subst, ◌∙◌}
use Rattle.msg_match.specs.Changes.{AreCouplesAnew}
use Rattle.msg_match.specs.Groups.{SeenItem}
use Rattle.msg_match.specs.Held.{seen_items}
use Rattle.msg_match.specs.Inside.{events_kept}
use Rattle.msg_match.specs.Windowed.{grouped_items}
use Rattle.msg_match.proofs.Kept.{kept_grouped}
use Rattle.msg_match.proofs.matcher.Matcher.add_timed.Goals as goal

pub returns-clause-added : goal.returns-clause-added
returns-clause-added c =
    let olds = c.self.inside.by_group in
    let news = c.anew.inside.by_group in
    let timed = seen_items c.anew.inside.timed.items in
    let old : olds ≡ grouped_items c.args.self.now = kept_grouped olds (seen_items c.self.inside.timed.items) c.self.invariant ∙ ap (λ (l : List SeenItem). grouped_items l) c.self.view_is in
    let new : news ≡ grouped_items (events_kept news timed) = kept_grouped news timed c.anew.invariant in
    subst (λ (l : List SeenItem). AreCouplesAnew l (grouped_items (events_kept news timed)) c.in_ok-change.change.added.items) old
    (subst (λ (l : List SeenItem). AreCouplesAnew olds l c.in_ok-change.change.added.items) new c.in_ok-change.ensures.added)

pub returns-clause-withdrawn : goal.returns-clause-withdrawn
returns-clause-withdrawn c =
    let olds = c.self.inside.by_group in
    let news = c.anew.inside.by_group in
    let timed = seen_items c.anew.inside.timed.items in
    let old : olds ≡ grouped_items c.args.self.now = kept_grouped olds (seen_items c.self.inside.timed.items) c.self.invariant ∙ ap (λ (l : List SeenItem). grouped_items l) c.self.view_is in
    let new : news ≡ grouped_items (events_kept news timed) = kept_grouped news timed c.anew.invariant in
    subst (λ (l : List SeenItem). AreCouplesAnew (grouped_items (events_kept news timed)) l c.in_ok-change.change.withdrawn.items) old
    (subst (λ (l : List SeenItem). AreCouplesAnew l olds c.in_ok-change.change.withdrawn.items) new c.in_ok-change.ensures.withdrawn)
