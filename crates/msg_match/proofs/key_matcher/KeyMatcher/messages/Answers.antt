use Rattle.std.proofs.Common.{◌≡◌, List, map, ap, subst, ◌∙◌}
use Rattle.std.proofs.lemmas.Result.{IfOk-weaker}
use Rattle.msg_match.specs.declared.change.Couple.{Couple}
use Rattle.msg_match.specs.declared.group.Group.{Group}
use Rattle.msg_match.specs.Groups.{SeenGroup, SeenItem, group_of, groups_of}
use Rattle.msg_match.specs.Held.{seen_groups}
use Rattle.msg_match.specs.Inside.{items_by}
use Rattle.msg_match.specs.Parts.{AreAllCouples, AreCouplesIn}
use Rattle.msg_match.proofs.AllCouples.{all_couples}
use Rattle.msg_match.proofs.key_matcher.KeyMatcher.messages.Goals as goal

pub returns : goal.returns
returns c =
    let items = items_by c.self.inside.keys c.self.inside.log.items in
    let groups : seen_groups c.deref.result.now ≡ groups_of c.args.self.now =
    ap (λ (gs : List Group). seen_groups gs) c.deref.ensures.value
    ∙ c.self.invariant.grouped
    ∙ ap (map (group_of items)) c.self.invariant.ordered
    ∙ ap (λ (held : List SeenItem). groups_of held) c.self.view_is in
    IfOk-weaker c.couples_in.result (λ found. AreCouplesIn (seen_groups c.deref.result.now) found) (λ found. AreAllCouples c.args.self.now found)
    (λ found are. all_couples c.args.self.now found (subst (λ (gs : List SeenGroup). AreCouplesIn gs found) groups are)) c.couples_in.ensures
