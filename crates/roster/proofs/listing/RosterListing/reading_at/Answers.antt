use Rattle.std.proofs.Common.{◌<◌, length, sym, subst, arith}
use Rattle.roster.specs.Roster.{RosterLists, listed}
use Rattle.roster.proofs.Turns.{place_is}
use Rattle.roster.proofs.ListedPlaces.{readings_many, inside_clock, reading_listed, clock_named}
use Rattle.roster.proofs.listing.RosterListing.reading_at.Goals as goal

pub find-clock-requires : goal.find-clock-requires
find-clock-requires c =
    let asked = subst (λ (r : RosterLists). c.args.place < length (listed r).readings) (sym c.self.view_is) c.requires in
    let many = readings_many _ c.self.invariant in
    omega (arith, asked, many)

pub group-requires : goal.group-requires
group-requires c = (place_is c.self.inside.readings c.args.place c.find-clock.result.0 c.find-clock.result.1 c.find-clock.ensures).0

pub reading_of-reading-requires : goal.reading_of-reading-requires
reading_of-reading-requires c = inside_clock _ c.self.invariant c.args.place c.find-clock.result.0 c.find-clock.result.1 c.find-clock.ensures c.group.result.now c.group.ensures

pub returns-clause-value : goal.returns-clause-value
returns-clause-value c =
    rw (← c.self.view_is) (reading_listed _ c.self.invariant c.args.place c.find-clock.result.0 c.find-clock.result.1 c.find-clock.ensures c.group.result.now c.group.ensures c.reading_of-reading.result c.reading_of-reading.ensures)

pub returns-clause-named : goal.returns-clause-named
returns-clause-named c = rw (← c.self.view_is) (clock_named _ c.self.invariant c.args.place c.find-clock.result.0 c.find-clock.result.1 c.find-clock.ensures c.group.result.now c.group.ensures)
