use Rattle.std.proofs.Common.{◌+◌, ◌++◌, ◌∙◌, ap, List}
use Rattle.traces.specs.Seen.{mark_of}
use Rattle.msg_match.specs.Groups.{SeenItem}
use Rattle.msg_match.specs.Ends.{item_of}
use Rattle.msg_match.proofs.Grown.{items_next}
use Rattle.msg_match.proofs.message_items.items_of.Goals as goal

pub loop-place-preserved : goal.loop-place-preserved
loop-place-preserved c =
    let place = c.loop-place.place in
    let event = c.index-events-place.result in
    c.in_ok-push_end.ensures
    ∙ ap (λ (l : List SeenItem). l ++ item_of (c.args.first + place) (mark_of event.mark)) c.loop-place.invariant
    ∙ items_next c.args.first c.args.events.now place event c.loop-place-test.true c.index-events-place.is
