use Rattle.std.proofs.Common.{◌≡◌, ◌++◌, ◌∷◌, [], List, refl, sym, ap, subst, ◌∙◌}
use Rattle.std.proofs.lemmas.List.{map_push}
use Rattle.traces.specs.Seen.{EventKey}
use Rattle.msg_match.specs.declared.entry.Entry.{Entry}
use Rattle.msg_match.specs.Groups.{SeenItem}
use Rattle.msg_match.specs.Held.{seen_groups}
use Rattle.msg_match.specs.Inside.{AreGrouped, item_by, items_by}
use Rattle.msg_match.specs.Parts.{groups_before, keys_before, shorter}
use Rattle.msg_match.proofs.Keeping.{kept_as, kept_less, keys_kept, short_push}
use Rattle.msg_match.proofs.key_matcher.KeyMatcher.pop.Goals as goal

pub take_back-requires-clause-kept : goal.take_back-requires-clause-kept
take_back-requires-clause-kept c =
    let keys = c.self.inside.keys in
    let groups = seen_groups c.self.inside.groups.items in
    keys_kept keys c.self.inside.log.items groups c.self.invariant

pub invariant_of-self : goal.invariant_of-self
invariant_of-self c =
    let keys = c.self.inside.keys in
    let groups = seen_groups c.self.inside.groups.items in
    let log = c.pop.new.self.items in
    let e = c.in-Some.entry in
    let kept : AreGrouped keys (log ++ e ∷ []) groups = subst (λ (l : List Entry). AreGrouped keys l groups) c.in-Some.ensures.items c.self.invariant in
    kept_as (keys_before groups e keys) c.take_back.new.keys log log (groups_before groups e) (seen_groups c.take_back.new.groups.items) c.take_back.ensures.keys refl c.take_back.ensures.groups (kept_less keys log groups e kept).0

pub returns-in-Some : goal.returns-in-Some
returns-in-Some c =
    let keys = c.self.inside.keys in
    let groups = seen_groups c.self.inside.groups.items in
    let log = c.pop.new.self.items in
    let e = c.in-Some.entry in
    let kept : AreGrouped keys (log ++ e ∷ []) groups = subst (λ (l : List Entry). AreGrouped keys l groups) c.in-Some.ensures.items c.self.invariant in
    let all : c.args.self.now ≡ items_by keys log ++ item_by keys e ∷ [] = sym c.self.view_is ∙ ap (items_by keys) c.in-Some.ensures.items ∙ map_push (item_by keys) log e in
    ap (λ (ks : List EventKey). items_by ks log) c.take_back.ensures.keys ∙ (kept_less keys log groups e kept).1 ∙ sym (ap (λ (items : List SeenItem). shorter items) all ∙ short_push (items_by keys log) (item_by keys e))
