use Rattle.std.proofs.Common.{◌≡◌, ◌<◌, length, get_or, slice_get, Some, ◌∙◌, arith}
use Rattle.std.proofs.Math.ListN.{length-set}
use Rattle.std.proofs.lemmas.Option.{slice_get-get_or}
use Rattle.problem_model.specs.declared.items.Event.{Event}
use Rattle.thinning.proofs.Edging.{edges_more}
use Rattle.thinning.proofs.edges.clock_edges.Goals as goal

pub loop-place-preserved : goal.loop-place-preserved
loop-place-preserved c =
    let events = c.args.events.now in
    let k = c.loop-place.place in
    let v : Event = get_or events k c.index-events-place.result in
    let inside : k < length events = omega arith in
    let at : slice_get events k ≡ Some v = slice_get-get_or events k c.index-events-place.result inside in
    let on : v.clock < c.args.clocks = c.requires.clocks k c.index-events-place.result inside in
    record {
      each = length-set c.loop-place.edges.items v.clock (Some c.with_event.result) ∙ c.loop-place.invariant.each;
      edges = edges_more events k v c.loop-place.edges.items c.with_event.result at (omega (arith, on, c.loop-place.invariant.each)) c.loop-place.invariant.edges (c.with_event.ensures v at);
    }
