use Rattle.std.proofs.Common.{◌≡◌, ◌+◌, ◌++◌, ◌∷◌, [], List, take, sym, ap, subst, ◌∙◌}
use Rattle.std.proofs.lemmas.List.{map_more}
use Rattle.msg_match.specs.declared.change.Couple.{Couple}
use Rattle.msg_match.specs.declared.item.Item.{Item}
use Rattle.msg_match.specs.Groups.{SeenItem}
use Rattle.msg_match.specs.Held.{seen_item, seen_items}
use Rattle.msg_match.specs.Parts.{AreCouplesOf}
use Rattle.msg_match.proofs.Coupling.{couples_more}
use Rattle.msg_match.proofs.key_matcher.KeyMatcher.couples.Goals as goal

pub loop-item-preserved : goal.loop-item-preserved
loop-item-preserved c =
    let xs = c.args.items.now in
    let i = c.loop-item.item-index in
    let x = c.item-item.result in
    let next : seen_items (take i xs) ++ seen_item x ∷ [] ≡ seen_items (take (i + 1) xs) = sym (map_more seen_item xs i x c.loop-item-test.true ∙ ap (λ (y : Item). seen_items (take i xs) ++ seen_item y ∷ []) (sym c.item-item.is)) in
    subst (λ (some : List SeenItem). AreCouplesOf c.args.self.now some c.note.new.self) next
    (subst (λ (found : List Couple). AreCouplesOf c.args.self.now (seen_items (take i xs) ++ seen_item x ∷ []) found) (sym c.in_ok-note.ensures)
    (couples_more c.args.self.now (seen_items (take i xs)) (seen_item x) c.loop-item.found c.couple.result c.couple.ensures c.loop-item.invariant))
