use Rattle.std.proofs.Common.{◌≡◌, ◌+◌, ◌++◌, ◌∷◌, [], List, take, sym, ap, subst, ◌∙◌}
use Rattle.std.proofs.lemmas.List.{map_more}
use Rattle.msg_match.specs.declared.change.Couple.{Couple}
use Rattle.msg_match.specs.declared.group.Group.{Group}
use Rattle.msg_match.specs.Groups.{SeenGroup}
use Rattle.msg_match.specs.Held.{seen_group, seen_groups}
use Rattle.msg_match.specs.Parts.{AreCouplesIn}
use Rattle.msg_match.proofs.Coupling.{in_groups}
use Rattle.msg_match.proofs.key_matcher.couples_in.Goals as goal

pub loop-group-preserved : goal.loop-group-preserved
loop-group-preserved c =
    let xs = c.args.groups.now in
    let i = c.loop-group.group-index in
    let g = c.group-item.result in
    let next : seen_groups (take i xs) ++ seen_group g ∷ [] ≡ seen_groups (take (i + 1) xs) = sym (map_more seen_group xs i g c.loop-group-test.true ∙ ap (λ (h : Group). seen_groups (take i xs) ++ seen_group h ∷ []) (sym c.group-item.is)) in
    subst (λ (some : List SeenGroup). AreCouplesIn some c.note.new.self) next
    (subst (λ (found : List Couple). AreCouplesIn (seen_groups (take i xs) ++ seen_group g ∷ []) found) (sym c.in_ok-note.ensures)
    (in_groups (seen_groups (take i xs)) (seen_group g) c.loop-group.found c.couple.result c.couple.ensures c.loop-group.invariant))
