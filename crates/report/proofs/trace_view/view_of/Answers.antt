use Rattle.std.proofs.Common.{◌≡◌, ◌≤◌, ℕ, List, All, length, map, ap, sym, subst, ◌∙◌}
use Rattle.std.proofs.lemmas.List.{length-map}
use Rattle.decl.specs.Declaration.{declaration_of}
use Rattle.traces.specs.Seen.{seen_events}
use Rattle.traces.specs.declared.accepted.Accepted.{Accepted}
use Rattle.traces.specs.Traces.{events_of}
use Rattle.traces.specs.Windows.{grouped}
use Rattle.traces.specs.Held.{missed_in, seen_in}
use Rattle.msg_match.specs.declared.change.Tallies.{Tallies}
use Rattle.report.specs.Report.{reported_drops, reported_key}
use Rattle.msg_match.specs.Ends.{ends_among}
use Rattle.msg_match.specs.Ambiguous.{EndGroup, ambiguous_ends, tallies_of}
use Rattle.report.specs.Reports.{named_key}
use Rattle.report.specs.Inside.{HasLabels, ids_in, seen_ambiguous}
use Rattle.report.proofs.Ended.{counts_told, items_few, keys_labelled}
use Rattle.report.proofs.Matched.{messages_many}
use Rattle.report.proofs.Whole.{counted, made_is}
use Rattle.report.proofs.trace_view.view_of.Goals as goal

pub keys_alone-requires : goal.keys_alone-requires
keys_alone-requires c = items_few (ids_in c.args.roster.now) c.args.matcher.now (seen_in c.args.accepted.now) c.requires.ends c.requires.few

pub keys_in_order-requires : goal.keys_in_order-requires
keys_in_order-requires c = c.requires.ends.within

pub named_keys-requires-clause-labels : goal.named_keys-requires-clause-labels
named_keys-requires-clause-labels c =
    let d = declaration_of c.args.decl.now in
    let seen = seen_in c.args.accepted.now in
    let keys : map seen_ambiguous c.deref.result.now ≡ ambiguous_ends (ends_among (grouped (events_of seen))) = ap (map seen_ambiguous) c.deref.ensures.value ∙ c.in_ok-keys.ensures seen c.requires.ends in
    subst (λ (l : List EndGroup). All (HasLabels d) l) (sym keys) (keys_labelled d seen (length-map c.args.accepted.now (λ (a : Accepted). seen_events a.events.items) ∙ c.requires.labels))

pub passed_sums-requires : goal.passed_sums-requires
passed_sums-requires c =
    let many : length c.args.accepted.now ≤ 65536 = subst (λ (n : ℕ). n ≤ 65536) (sym c.requires.labels) c.requires.declared.limits.label_limit in
    many

pub returns-clause-view : goal.returns-clause-view
returns-clause-view c =
    let d = declaration_of c.args.decl.now in
    let seen = seen_in c.args.accepted.now in
    let keys : map seen_ambiguous c.deref.result.now ≡ ambiguous_ends (ends_among (grouped (events_of seen))) = ap (map seen_ambiguous) c.deref.ensures.value ∙ c.in_ok-keys.ensures seen c.requires.ends in
    let told : c.tallies-tallies.result ≡ tallies_of (ends_among (grouped (events_of seen))) = c.tallies-tallies.ensures ∙ counts_told (ids_in c.args.roster.now) c.args.matcher.now seen c.requires.ends in
    made_is d seen (missed_in c.args.accepted.now) c.args.consistent c.in_ok-alone.alone c.event_count.result c.tallies-tallies.result.messages c.tallies-tallies.result.unmatched (map reported_drops c.in_ok-dropped.dropped.items) c.nokeys_of.result c.passed_sums.result (map reported_key c.in_ok-groups.groups.items)
    (c.in_ok-alone.ensures (ids_in c.args.roster.now) seen c.requires.ends)
    (counted seen c.event_count.result c.event_count.ensures c.requires.few)
    (ap (λ (t : Tallies). t.messages) told ∙ messages_many (grouped (events_of seen)))
    (ap (λ (t : Tallies). t.unmatched) told)
    c.in_ok-dropped.ensures
    c.nokeys_of.ensures
    c.passed_sums.ensures
    (c.in_ok-groups.ensures.named ∙ ap (map (named_key d)) keys)
