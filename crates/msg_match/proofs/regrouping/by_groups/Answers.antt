use Rattle.std.proofs.Common.{◌≡◌, ◌<◌, ◌+◌, ◌++◌, ◌∷◌, [], ℕ, ℤ, List, length, take, get_or, sym, ap, subst, ◌∙◌, SFits, w64, rules}
use Rattle.std.proofs.lemmas.Int.{to_z-of_z}
use Rattle.std.proofs.lemmas.List.{get_or-map, length-map}
use Rattle.msg_match.specs.declared.item.Item.{Item}
use Rattle.msg_match.specs.Groups.{SeenItem}
use Rattle.msg_match.specs.Held.{seen_item, seen_items}
use Rattle.msg_match.specs.Series.{item_at}
use Rattle.msg_match.specs.Windowed.{grouped_items}
use Rattle.msg_match.proofs.Stops.{next_grouped}
use Rattle.msg_match.proofs.regrouping.by_groups.Goals as goal

pub loop-place-preserved : goal.loop-place-preserved
loop-place-preserved c =
    let xs = c.args.items.now in
    let items = seen_items xs in
    let i = c.loop-place.place in
    let x = c.index-items-place.result in
    let inside = c.loop-place-test.true in
    let within : i < length items = subst (λ (n : ℕ). i < n) (sym (length-map xs seen_item)) inside in
    let is : seen_item x ≡ get_or items i (seen_item x) = ap seen_item c.index-items-place.is ∙ sym (get_or-map seen_item xs i x (seen_item x) inside) in
    let t = c.index.result.now in
    let fits : SFits w64 t = search rules in
    let copied : seen_item c.in_ok-grouped.grouped ≡ item_at (seen_item x) t = c.in_ok-grouped.ensures ∙ ap (λ (u : ℤ). item_at (seen_item x) u) (to_z-of_z w64 t fits) in
    c.in_ok-push.ensures.ok
    ∙ ap (λ (l : List SeenItem). l ++ seen_item c.in_ok-grouped.grouped ∷ []) c.loop-place.invariant
    ∙ ap (λ (y : SeenItem). take i (grouped_items items) ++ y ∷ []) copied
    ∙ next_grouped items c.in_ok-begins.begins.items i (seen_item x) t c.in_ok-begins.ensures within is c.index.ensures
