use Rattle.std.proofs.Common.{◌≡◌, ◌≤◌, ◌<◌, ◌++◌, List, length, sym, ap, subst, ◌∙◌, arith, rules}
use Rattle.std.specs.Prelude.{slice_set}
use Rattle.std.proofs.lemmas.List.{length-map}
use Rattle.decl.specs.Declaration.{Declaration}
use Rattle.traces.specs.declared.event.Event.{Event}
use Rattle.traces.specs.Seen.{seen_event, seen_events}
use Rattle.traces.specs.declared.accepted.Accepted.{Accepted}
use Rattle.traces.specs.Held.{seen_in}
use Rattle.msg_match.specs.Groups.{SeenItem}
use Rattle.msg_match.specs.Held.{seen_item, seen_items}
use Rattle.msg_match.specs.Ends.{items_from}
use Rattle.msg_match.proofs.Grown.{few_more}
use Rattle.roster.specs.Readings.{stamps_of}
use Rattle.roster.specs.Roster.{RosterLists, IsGrown}
use Rattle.reference_traces.specs.Added.{AreAllAdded}
use Rattle.reference_traces.proofs.Added.{added_more, items_few, labels_many, own_numbers, seen_more}
use Rattle.reference_traces.proofs.additions.Additions.add.Goals as goal

pub add-requires-clause-few : goal.add-requires-clause-few
add-requires-clause-few c =
    let more : List Event = c.args.events.items in
    let found : seen_items c.deref-2.result.now ≡ items_from c.len-first.result (seen_events more) =
    ap seen_items c.deref-2.ensures.value ∙ c.in_ok-items.ensures ∙ ap (λ (l : List Event). items_from c.len-first.result (seen_events l)) c.deref.ensures.value in
    let few : length c.args.self.now.matcher ≤ length c.args.self.now.roster.came = items_few c.args.self.now.roster c.decl.ensures.lawful c.args.self.now.matcher c.args.self.now.labels.items c.requires in
    let many : c.len-else-label-len.result ≡ length more = search rules in
    omega (arith, few, many, ap length found, length-map c.deref-2.result.now seen_item, few_more c.len-first.result (seen_events more), length-map more seen_event, c.if-len-first.false, c.len-first.ensures.count, c.len-first.ensures.few)

pub add-requires-clause-differ : goal.add-requires-clause-differ
add-requires-clause-differ c =
    let more : List Event = c.args.events.items in
    let found : seen_items c.deref-2.result.now ≡ items_from c.len-first.result (seen_events more) =
    ap seen_items c.deref-2.ensures.value ∙ c.in_ok-items.ensures ∙ ap (λ (l : List Event). items_from c.len-first.result (seen_events l)) c.deref.ensures.value in
    own_numbers c.args.self.now.roster c.decl.ensures.lawful c.args.self.now.matcher c.args.self.now.labels.items c.requires more c.len-first.result (seen_items c.deref-2.result.now) c.len-first.ensures.count found

pub returns-clause-added : goal.returns-clause-added
returns-clause-added c =
    let r : RosterLists = c.args.self.now.roster in
    let accepted : List Accepted = c.args.self.now.labels.items in
    let more : List Event = c.args.events.items in
    let found : seen_items c.deref-2.result.now ≡ items_from c.len-first.result (seen_events more) =
    ap seen_items c.deref-2.ensures.value ∙ c.in_ok-items.ensures ∙ ap (λ (l : List Event). items_from c.len-first.result (seen_events l)) c.deref.ensures.value in
    let declared : c.len.result ≡ length c.decl.result.now.labels.items = search rules in
    let labels = ap (λ (d : Declaration). length d.labels) c.decl.ensures.same in
    let inside : c.args.label < length accepted = omega (arith, declared, labels, labels_many r c.decl.ensures.lawful c.args.self.now.matcher accepted c.requires, c.if-label-len.false) in
    let under : Accepted = c.index_mut.result.now in
    let after : Accepted = record { events = c.append.new.self; size = under.size; stream = under.stream } in
    let appended : c.append.new.self.items ≡ under.events.items ++ more = search rules in
    let grown : IsGrown r c.push.new.self c.args.label (stamps_of more) = subst (λ (l : List Event). IsGrown r c.push.new.self c.args.label (stamps_of l)) c.deref-3.ensures.value c.in_ok-_first.ensures.grown in
    subst (λ (l : List SeenItem). AreAllAdded c.push.new.self l (seen_in (slice_set accepted c.args.label after))) (sym c.in_ok-change.ensures.ok)
    (added_more r c.decl.ensures.lawful c.args.self.now.matcher accepted c.requires more c.len-first.result (seen_items c.deref-2.result.now) c.len-first.ensures.count found c.push.new.self c.args.label under after inside
    c.index_mut.ensures.value grown appended)

pub returns-clause-events : goal.returns-clause-events
returns-clause-events c =
    let r : RosterLists = c.args.self.now.roster in
    let accepted : List Accepted = c.args.self.now.labels.items in
    let more : List Event = c.args.events.items in
    let declared : c.len.result ≡ length c.decl.result.now.labels.items = search rules in
    let labels = ap (λ (d : Declaration). length d.labels) c.decl.ensures.same in
    let inside : c.args.label < length accepted = omega (arith, declared, labels, labels_many r c.decl.ensures.lawful c.args.self.now.matcher accepted c.requires, c.if-label-len.false) in
    let under : Accepted = c.index_mut.result.now in
    let after : Accepted = record { events = c.append.new.self; size = under.size; stream = under.stream } in
    let appended : c.append.new.self.items ≡ under.events.items ++ more = search rules in
    seen_more accepted more c.args.label under after inside c.index_mut.ensures.value appended
