use Rattle.std.proofs.Common.{◌≡◌, ◌++◌, List, length, sym, ◌∙◌, ap, subst, arith}
use Rattle.std.proofs.lemmas.List.{length-map}
use Rattle.problem_graph.proofs.OneMore.{on_ok}
use Rattle.traces.specs.Seen.{seen_events}
use Rattle.msg_match.specs.Groups.{SeenItem}
use Rattle.msg_match.specs.Held.{seen_item, seen_items}
use Rattle.msg_match.specs.Changes.{HaveOwnNumbers}
use Rattle.msg_match.specs.Ends.{items_from}
use Rattle.session_graph.proofs.kept.rematch.Goals as goal

pub add-requires-clause-few : goal.add-requires-clause-few
add-requires-clause-few c =
    let seen : seen_items c.deref.result.now ≡ items_from c.args.first (seen_events c.args.events.now) = ap seen_items c.deref.ensures.value ∙ c.in_ok-items.ensures in
    let few = c.requires.few in
    omega (arith, few, ap length seen, length-map c.deref.result.now seen_item)

pub add-requires-clause-differ : goal.add-requires-clause-differ
add-requires-clause-differ c =
    let seen : seen_items c.deref.result.now ≡ items_from c.args.first (seen_events c.args.events.now) = ap seen_items c.deref.ensures.value ∙ c.in_ok-items.ensures in
    subst (λ (l : List SeenItem). HaveOwnNumbers (c.args.matcher.now ++ l)) (sym seen) c.requires.differ

pub returns-clause-ok : goal.returns-clause-ok
returns-clause-ok c =
    let seen : seen_items c.deref.result.now ≡ items_from c.args.first (seen_events c.args.events.now) = ap seen_items c.deref.ensures.value ∙ c.in_ok-items.ensures in
    on_ok c.add.result c.add.ensures.ok (λ is. is ∙ ap (λ (l : List SeenItem). c.args.matcher.now ++ l) seen)
