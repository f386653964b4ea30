use Rattle.std.proofs.Common.{length, ap, sym, ◌∙◌}
use Rattle.problem.proofs.AllReadings.{length-event_places}
use Rattle.problem.proofs.listing.ProblemListing.event_count.Goals as goal

pub returns : goal.returns
returns c = ap length c.events.ensures.value ∙ sym (length-event_places 0 c.args.self.now.events)
