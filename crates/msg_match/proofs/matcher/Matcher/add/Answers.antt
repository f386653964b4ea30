use Rattle.std.proofs.Common.{◌≡◌, ◌++◌, [], List, length, ap, subst, ◌∙◌, rules}
use Rattle.std.specs.Prelude.{All}
use Rattle.std.specs.Bool.{OnTrue}
use Rattle.std.proofs.lemmas.List.Elements.{All-append}
use Rattle.msg_match.specs.Changes.{AreCouplesAnew, AreMessagesAnew}
use Rattle.msg_match.specs.Groups.{SeenItem}
use Rattle.msg_match.specs.Held.{seen_items}
use Rattle.msg_match.specs.Inside.{IsUntimed, events_kept}
use Rattle.msg_match.specs.Windowed.{grouped_items}
use Rattle.msg_match.proofs.Kept.{grows_untimed, kept_grouped}
use Rattle.msg_match.proofs.TableLemmas.{if_ok2}
use Rattle.msg_match.proofs.matcher.Matcher.add.Goals as goal

pub returns-then-are_untimed-clause-added : goal.returns-then-are_untimed-clause-added
returns-then-are_untimed-clause-added c =
    let olds = c.self.inside.by_group in
    let news = c.add.new.self in
    let timed = seen_items c.self.inside.timed.items in
    let more = seen_items c.args.items.now in
    let e : length c.self.inside.timed.items ≡ 0 = search rules in
    let untimed : All IsUntimed more = subst (λ b. OnTrue b (All IsUntimed more)) c.if-are_untimed.true c.are_untimed.ensures in
    let old : olds ≡ grouped_items c.args.self.now = kept_grouped olds timed c.self.invariant ∙ ap (λ (l : List SeenItem). grouped_items l) c.self.view_is in
    if_ok2 c.add.result (λ change. AreCouplesAnew olds news change.added.items) (λ change. news ≡ olds ++ more) (λ change. AreMessagesAnew c.args.self.now (events_kept news timed) change.added.items) c.add.ensures.added c.add.ensures.ok
    (λ change anew is.
    subst (λ (l : List SeenItem). AreCouplesAnew l (grouped_items (events_kept news timed)) change.added.items) old
    (subst (λ (l : List SeenItem). AreCouplesAnew olds l change.added.items) (grows_untimed olds news c.self.inside.timed.items more e c.self.invariant untimed is) anew))

pub returns-then-are_untimed-clause-withdrawn : goal.returns-then-are_untimed-clause-withdrawn
returns-then-are_untimed-clause-withdrawn c =
    let olds = c.self.inside.by_group in
    let news = c.add.new.self in
    let timed = seen_items c.self.inside.timed.items in
    let more = seen_items c.args.items.now in
    let e : length c.self.inside.timed.items ≡ 0 = search rules in
    let untimed : All IsUntimed more = subst (λ b. OnTrue b (All IsUntimed more)) c.if-are_untimed.true c.are_untimed.ensures in
    let old : olds ≡ grouped_items c.args.self.now = kept_grouped olds timed c.self.invariant ∙ ap (λ (l : List SeenItem). grouped_items l) c.self.view_is in
    if_ok2 c.add.result (λ change. AreCouplesAnew news olds change.withdrawn.items) (λ change. news ≡ olds ++ more) (λ change. AreMessagesAnew (events_kept news timed) c.args.self.now change.withdrawn.items) c.add.ensures.withdrawn c.add.ensures.ok
    (λ change anew is.
    subst (λ (l : List SeenItem). AreCouplesAnew (grouped_items (events_kept news timed)) l change.withdrawn.items) old
    (subst (λ (l : List SeenItem). AreCouplesAnew l olds change.withdrawn.items) (grows_untimed olds news c.self.inside.timed.items more e c.self.invariant untimed is) anew))
