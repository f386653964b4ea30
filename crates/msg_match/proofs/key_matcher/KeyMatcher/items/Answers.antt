use Rattle.std.proofs.Common.{◌≡◌, ◌<◌, ◌+◌, ◌++◌, ◌∷◌, [], ℕ, List, length, take, get_or, sym, ap, subst, ◌∙◌}
use Rattle.std.proofs.lemmas.List.{get_or_default, map_more, map_push}
use Rattle.std.proofs.lemmas.List.Elements.{Contains-get_or, All-contains}
use Rattle.traces.specs.declared.event.Side.TheVariants.{Send}
use Rattle.traces.specs.Seen.{EventKey, key_of}
use Rattle.msg_match.specs.declared.entry.Entry.{Entry}
use Rattle.msg_match.specs.declared.item.Item.{Item}
use Rattle.msg_match.specs.Groups.{SeenItem}
use Rattle.msg_match.specs.Held.{seen_groups, seen_item, seen_items}
use Rattle.msg_match.specs.Inside.{AreGrouped, item_by, items_by}
use Rattle.msg_match.specs.Parts.{no_key}
use Rattle.msg_match.proofs.Keeping.{keys_kept}
use Rattle.msg_match.proofs.TableLemmas.{key_there}
use Rattle.msg_match.proofs.key_matcher.KeyMatcher.items.Goals as goal

pub loop-entry-preserved : goal.loop-entry-preserved
loop-entry-preserved c =
    let keys = c.self.inside.keys in
    let groups = c.self.inside.groups.items in
    let xs = c.deref-entry-items.result.now in
    let i = c.loop-entry.entry-index in
    let inside = c.loop-entry-test.true in
    let none : Entry = record { event = 0; side = Send; place = 0 } in
    let e = get_or xs i none in
    let kept : AreGrouped keys xs (seen_groups groups) = subst (λ (l : List Entry). AreGrouped keys l (seen_groups groups)) (sym c.deref-entry-items.ensures.value) c.self.invariant in
    let within : e.place < length keys = kept.within i none inside in
    let key : key_of c.index-group.result.now.key ≡ get_or keys e.place no_key = key_there keys groups e.place c.index-group.result.now (keys_kept keys xs (seen_groups groups) kept) within c.index-group.ensures in
    let copied : seen_item c.in_ok-new.field-0 ≡ item_by keys e = c.in_ok-new.ensures ∙ ap (λ (k : EventKey). made e k) key in
    let last : get_or xs i e ≡ e = get_or_default xs i e none inside in
    ap (λ (l : List Item). seen_items l) c.in_ok-push.ensures.items
    ∙ map_push seen_item c.loop-entry.items.items c.in_ok-new.field-0
    ∙ ap (λ (l : List SeenItem). l ++ seen_item c.in_ok-new.field-0 ∷ []) c.loop-entry.invariant
    ∙ ap (λ (x : SeenItem). items_by keys (take i xs) ++ x ∷ []) (copied ∙ ap (item_by keys) (sym last))
    ∙ sym (map_more (item_by keys) xs i e inside)
  where
    made : Entry → EventKey → SeenItem
    made e k = record { event = e.event; side = e.side; key = k }
