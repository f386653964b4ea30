use Rattle.std.proofs.Common.{◌<◌, length, arith}
use Rattle.std.proofs.lemmas.List.{length-map}
use Rattle.problem.proofs.AllReadings.{event_places-at, length-event_places}
use Rattle.problem.proofs.listing.ProblemListing.event_at.Goals as goal

pub returns-clause-value : goal.returns-clause-value
returns-clause-value c =
    let inside : c.args.place < length c.args.self.now.events = omega (arith, c.requires, length-event_places 0 c.args.self.now.events) in
    event_places-at 0 c.args.place c.args.place c.args.self.now.events inside (omega arith)

pub returns-clause-named : goal.returns-clause-named
returns-clause-named c =
    let inside : c.args.place < length c.args.self.now.events = omega (arith, c.requires, length-event_places 0 c.args.self.now.events) in
    omega (arith, inside, length-map c.args.self.now.events (λ e. e.name))
