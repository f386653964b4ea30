use Rattle.std.proofs.Common.{◌≡◌, ◌≤◌, ◌<◌, ◌++◌, ◌∷◌, [], ℕ, List, length, set, refl, sym, ap, subst, ◌∙◌}
use Rattle.std.proofs.lemmas.List.{length-map}
use Rattle.problem_model.specs.Limits.{most_items}
use Rattle.traces.specs.Seen.{EventKey, key_of}
use Rattle.msg_match.specs.declared.entry.Entry.{Entry}
use Rattle.msg_match.specs.declared.group.Group.{Group}
use Rattle.msg_match.specs.Groups.{SeenItem}
use Rattle.msg_match.specs.Held.{seen_group, seen_groups, seen_item}
use Rattle.msg_match.specs.Inside.{AreGrouped, item_by, items_by}
use Rattle.msg_match.specs.Parts.{empty_group, entry_with_key, group_at_place, with_entry}
use Rattle.msg_match.proofs.Counting.{groups_few}
use Rattle.msg_match.proofs.Keeping.{items_at, items_first, kept_as, kept_at, kept_first, same_length}
use Rattle.msg_match.proofs.TableLemmas.{either, either3, then_ok, then_ok2}
use Rattle.msg_match.proofs.key_matcher.KeyMatcher.push.Goals as goal

few_held : (keys : List EventKey) (log : List Entry) (groups : List Group) → AreGrouped keys log (seen_groups groups) → length groups ≤ most_items
few_held keys log groups kept = subst (λ (n : ℕ). n ≤ most_items) (length-map groups seen_group) (groups_few keys log (seen_groups groups) kept)

pub push_at-requires-clause-few : goal.push_at-requires-clause-few
push_at-requires-clause-few c = few_held c.self.inside.keys c.self.inside.log.items c.self.inside.groups.items c.self.invariant

pub push_at-requires-clause-within : goal.push_at-requires-clause-within
push_at-requires-clause-within c =
    let groups = c.self.inside.groups.items in
    let many : length groups ≡ length c.self.inside.keys = sym (length-map groups seen_group) ∙ same_length c.self.inside.keys c.self.inside.log.items (seen_groups groups) c.self.invariant in
    subst (λ (n : ℕ). c.in-Some.place < n) (sym many) c.in-Some.ensures.within

pub invariant_of-self : goal.invariant_of-self
invariant_of-self c =
    let keys = c.self.inside.keys in
    let log = c.self.inside.log.items in
    let groups = seen_groups c.self.inside.groups.items in
    let item = c.args.item.now in
    let log' = c.push_at.new.log.items in
    let groups' = seen_groups c.push_at.new.groups.items in
    let e = entry_with_key item.event item.side c.in-Some.place in
    let room : length log < most_items = subst (λ (n : ℕ). n < most_items) (length-map log (item_by keys)) (subst (λ (items : List SeenItem). length items < most_items) (sym c.self.view_is) c.requires) in
    either c.push_at.result (AreGrouped keys log' groups') c.push_at.ensures.groups_ok c.push_at.ensures.log_ok c.push_at.ensures.groups_err c.push_at.ensures.log_err
    (λ same_groups same_log. kept_as keys keys (log ++ e ∷ []) log' (set groups e.place (with_entry (group_at_place groups e.place) e.side e.event)) groups' refl same_log same_groups (kept_at keys log groups e c.self.invariant c.in-Some.ensures.within room))
    (λ same_groups same_log. kept_as keys keys log log' groups groups' refl same_log same_groups c.self.invariant)

pub push_first-requires-clause-few : goal.push_first-requires-clause-few
push_first-requires-clause-few c = few_held c.self.inside.keys c.self.inside.log.items c.self.inside.groups.items c.self.invariant

pub invariant_of-self-in-None : goal.invariant_of-self-in-None
invariant_of-self-in-None c =
    let keys = c.self.inside.keys in
    let log = c.self.inside.log.items in
    let held = c.self.inside.groups.items in
    let groups = seen_groups held in
    let item = c.args.item.now in
    let key = key_of item.key in
    let keys' = c.push_first.new.keys in
    let log' = c.push_first.new.log.items in
    let groups' = seen_groups c.push_first.new.groups.items in
    let e = entry_with_key item.event item.side (length groups) in
    let room : length log < most_items = subst (λ (n : ℕ). n < most_items) (length-map log (item_by keys)) (subst (λ (items : List SeenItem). length items < most_items) (sym c.self.view_is) c.requires) in
    let told = c.push_first.ensures in
    either3 c.push_first.result (AreGrouped keys' log' groups') told.keys_ok told.groups_ok told.log_ok told.keys_err told.groups_err told.log_err
    (λ same_keys same_groups same_log.
    kept_as (keys ++ key ∷ []) keys' (log ++ e ∷ []) log' (groups ++ with_entry (empty_group key) item.side item.event ∷ []) groups' same_keys
    (same_log ∙ ap (λ (n : ℕ). log ++ entry_with_key item.event item.side n ∷ []) (sym (length-map held seen_group))) same_groups
    (kept_first keys log groups key item.event item.side c.self.invariant c.in-None.ensures.none room))
    (λ same_keys same_groups same_log. kept_as keys keys' log log' groups groups' same_keys same_log (ap seen_groups same_groups) c.self.invariant)

pub returns-in-Some-clause-ok : goal.returns-in-Some-clause-ok
returns-in-Some-clause-ok c =
    let keys = c.self.inside.keys in
    let log = c.self.inside.log.items in
    let item = c.args.item.now in
    then_ok c.push_at.result (items_by keys c.push_at.new.log.items ≡ c.args.self.now ++ seen_item item ∷ []) c.push_at.ensures.log_ok
    (λ same_log.
    ap (items_by keys) same_log ∙ items_at keys log c.in-Some.place item.event item.side (key_of item.key) c.in-Some.ensures.some ∙ ap (λ (items : List SeenItem). items ++ seen_item item ∷ []) c.self.view_is)

pub returns-in-None-clause-ok : goal.returns-in-None-clause-ok
returns-in-None-clause-ok c =
    let keys = c.self.inside.keys in
    let log = c.self.inside.log.items in
    let held = c.self.inside.groups.items in
    let item = c.args.item.now in
    let key = key_of item.key in
    then_ok2 c.push_first.result (items_by c.push_first.new.keys c.push_first.new.log.items ≡ c.args.self.now ++ seen_item item ∷ []) c.push_first.ensures.keys_ok c.push_first.ensures.log_ok
    (λ same_keys same_log.
    ap (λ (ks : List EventKey). items_by ks c.push_first.new.log.items) same_keys
    ∙ ap (items_by (keys ++ key ∷ [])) (same_log ∙ ap (λ (n : ℕ). log ++ entry_with_key item.event item.side n ∷ []) (sym (length-map held seen_group)))
    ∙ items_first keys log (seen_groups held) key item.event item.side c.self.invariant
    ∙ ap (λ (items : List SeenItem). items ++ seen_item item ∷ []) c.self.view_is)
