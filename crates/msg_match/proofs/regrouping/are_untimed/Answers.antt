use Rattle.std.proofs.Common.{◌≡◌, ◌+◌, ◌++◌, ◌∷◌, [], List, take, take_all, sym, ap, subst, ◌∙◌}
use Rattle.std.specs.Prelude.{All}
use Rattle.std.proofs.lemmas.List.{map_more}
use Rattle.std.proofs.lemmas.List.Elements.{All-push}
use Rattle.msg_match.specs.declared.item.Item.{Item}
use Rattle.msg_match.specs.Groups.{SeenItem}
use Rattle.msg_match.specs.Held.{seen_item, seen_items}
use Rattle.msg_match.specs.Inside.{IsUntimed}
use Rattle.msg_match.proofs.Kept.{untimed_key}
use Rattle.msg_match.proofs.regrouping.are_untimed.Goals as goal

pub loop-item-preserved : goal.loop-item-preserved
loop-item-preserved c =
    let xs = c.args.items.now in
    let i = c.loop-item.item-index in
    let x = c.item-item.result in
    let next : seen_items (take i xs) ++ seen_item x ∷ [] ≡ seen_items (take (i + 1) xs) = sym (map_more seen_item xs i x c.loop-item-test.true ∙ ap (λ (y : Item). seen_items (take i xs) ++ seen_item y ∷ []) (sym c.item-item.is)) in
    subst (λ (l : List SeenItem). All IsUntimed l) next (All-push IsUntimed (seen_items (take i xs)) (seen_item x) c.loop-item.invariant (untimed_key x.key.moment (sym c.is_some.ensures ∙ c.if-is_some.false)))

pub returns : goal.returns
returns c = subst (λ (l : List Item). All IsUntimed (seen_items l)) (take_all c.loop-item.item-index c.args.items.now c.loop-item-test.false) c.loop-item.invariant
