use Rattle.std.proofs.Common.{◌≡◌, ◌≤◌, List, length, ap, sym, subst, ◌∙◌, arith, take, take_all}
use Rattle.std.specs.Prelude.{sum_by}
use Rattle.std.proofs.lemmas.List.{length-map}
use Rattle.problem_model.specs.Limits.{most_events}
use Rattle.traces.specs.declared.event.Event.{Event}
use Rattle.traces.specs.Seen.{Seen, seen_events}
use Rattle.traces.specs.declared.accepted.Accepted.{Accepted}
use Rattle.traces.specs.Held.{seen_in}
use Rattle.report.specs.Inside.{lacking}
use Rattle.report.proofs.Counted.{all_lacking, count_fits, few_under, label_more}
use Rattle.report.proofs.nokey_counts.count_without.Goals as goal

pub count_under-count-requires : goal.count_under-count-requires
count_under-count-requires c =
    subst (λ (l : List Event). length l ≤ most_events) (sym c.deref.ensures.value) (few_under c.args.accepted.now c.args.reason c.loop-under.under-index c.under-item.result c.loop-under-test.true c.under-item.is c.requires)

pub overflow_add-count : goal.overflow_add-count
overflow_add-count c =
    let fits = count_fits c.args.accepted.now c.args.reason c.loop-under.under-index c.under-item.result c.loop-under-test.true c.under-item.is c.loop-under.count c.count_under-count.result c.loop-under.invariant
    (c.count_under-count.ensures ∙ ap (λ (l : List Event). lacking c.args.reason (seen_events l)) c.deref.ensures.value) c.requires in
    omega (arith, fits)

pub loop-under-preserved : goal.loop-under-preserved
loop-under-preserved c =
    label_more c.args.accepted.now c.args.reason c.loop-under.under-index c.under-item.result c.loop-under-test.true c.under-item.is c.loop-under.count c.count_under-count.result c.loop-under.invariant
    (c.count_under-count.ensures ∙ ap (λ (l : List Event). lacking c.args.reason (seen_events l)) c.deref.ensures.value)

pub returns : goal.returns
returns c =
    let seen = seen_in c.args.accepted.now in
    let all : take c.loop-under.under-index seen ≡ seen =
    take_all c.loop-under.under-index seen (omega (arith, length-map c.args.accepted.now (λ (a : Accepted). seen_events a.events.items), c.loop-under-test.false)) in
    c.loop-under.invariant ∙ ap (λ (l : List (List Seen)). sum_by (lacking c.args.reason) l) all ∙ sym (all_lacking c.args.reason seen)
