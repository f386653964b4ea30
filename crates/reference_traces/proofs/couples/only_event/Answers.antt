use Rattle.std.proofs.Common.{◌≡◌, ◌+◌, ◌∙◌, ◌∷◌, List, Option, None, drop, true, false, ap, sym, rules}
use Rattle.std.proofs.lemmas.List.{at_drop_more}
use Rattle.traces.specs.declared.event_id.EventId.{EventId}
use Rattle.traces.specs.Seen.{EventKey, is_mark}
use Rattle.traces.specs.Traces.{Placed}
use Rattle.traces.specs.Messages.{with_mark}
use Rattle.reference_traces.specs.Groups.{group_of, grouped_event, grouped_events}
use Rattle.reference_traces.specs.declared.groups.GroupedEvent.{GroupedEvent}
use Rattle.reference_traces.proofs.Only.{only_behind, only_passed, only_taken}
use Rattle.reference_traces.proofs.couples.only_event.Goals.{then-is_end+else-is_some, else-is_end}
use Rattle.reference_traces.proofs.couples.only_event.Goals as goal

pub loop-event-preserved : goal.loop-event-preserved
loop-event-preserved c =
    let i = c.loop-event.event-index in
    let key : EventKey = group_of c.args.message.now c.args.moment in
    let events : List GroupedEvent = c.args.events.now in
    let event : GroupedEvent = c.event-item.result in
    let rest : List Placed = with_mark key c.args.side (grouped_events (drop (i + 1) events)) in
    let only : List GroupedEvent → Option EventId = λ xs. only_behind c.loop-event.found (with_mark key c.args.side (grouped_events xs)) in
    let next : only (drop i events) ≡ only (event ∷ drop (i + 1) events) =
    at_drop_more only events i event c.loop-event-test.true ∙ ap (λ (e : GroupedEvent). only (e ∷ drop (i + 1) events)) (sym c.event-item.is) in
    elim c.if-is_end.branch [
      | then-is_end+else-is_some w ↦
          let on : is_mark key c.args.side (grouped_event event).seen.mark ≡ true = search rules in
          let none : c.loop-event.found ≡ None = search rules in
          ap (λ (found : Option EventId). only_behind found rest) w.found-is
          ∙ sym (only_taken (is_mark key c.args.side (grouped_event event).seen.mark) (grouped_event event) rest c.loop-event.found on none)
          ∙ sym next ∙ c.loop-event.invariant
      | else-is_end w ↦
          let off : is_mark key c.args.side (grouped_event event).seen.mark ≡ false = search rules in
          ap (λ (found : Option EventId). only_behind found rest) w.found-is
          ∙ sym (only_passed (is_mark key c.args.side (grouped_event event).seen.mark) (grouped_event event) rest c.loop-event.found off)
          ∙ sym next ∙ c.loop-event.invariant
    ]
