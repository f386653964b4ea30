use Rattle.std.proofs.Common.{◌≡◌, ◌<◌, length, get_or, vec_len, refl, sym, subst, arith, rules}
use Rattle.roster.specs.Roster.{RosterLists, listed}
use Rattle.roster.proofs.Turns.{place_is}
use Rattle.roster.proofs.ListedPlaces.{events_many, inside_group, event_at_place, event_inside, event_listed, event_named, read_default}
use Rattle.roster.proofs.listing.RosterListing.event_at.Goals as goal

pub find-label-requires : goal.find-label-requires
find-label-requires c =
    let asked = subst (λ (r : RosterLists). c.args.place < length (listed r).events) (sym c.self.view_is) c.requires in
    let many = events_many _ c.self.invariant in
    omega (arith, asked, many)

pub group-requires : goal.group-requires
group-requires c = (place_is c.self.inside.under c.args.place c.find-label.result.0 c.find-label.result.1 c.find-label.ensures).0

pub bounds-group-k : goal.bounds-group-k
bounds-group-k c = inside_group _ c.self.invariant c.args.place c.find-label.result.0 c.find-label.result.1 c.find-label.ensures c.group.result.now c.group.ensures

pub index-requires : goal.index-requires
index-requires c =
    let v = get_or c.group.result.now c.find-label.result.1 0 in
    let here = event_at_place _ c.self.invariant c.args.place c.find-label.result.0 c.find-label.result.1 c.find-label.ensures c.group.result.now c.group.ensures v refl in
    let inside : v < length c.self.inside.came.items = event_inside _ c.self.invariant c.args.place c.find-label.result.0 c.find-label.result.1 c.find-label.ensures c.group.result.now c.group.ensures v here in
    let long : vec_len c.self.inside.came ≡ length c.self.inside.came.items = search rules in
    omega (arith, inside, long)

pub returns-clause-value : goal.returns-clause-value
returns-clause-value c =
    let v = get_or c.group.result.now c.find-label.result.1 0 in
    let here = event_at_place _ c.self.invariant c.args.place c.find-label.result.0 c.find-label.result.1 c.find-label.ensures c.group.result.now c.group.ensures v refl in
    let inside : v < length c.self.inside.came.items = event_inside _ c.self.invariant c.args.place c.find-label.result.0 c.find-label.result.1 c.find-label.ensures c.group.result.now c.group.ensures v here in
    rw (← c.self.view_is)
    (event_listed _ c.self.invariant c.args.place c.find-label.result.0 c.find-label.result.1 c.find-label.ensures c.group.result.now c.group.ensures v c.index.result.now.node here
    (read_default c.self.inside.came.items v c.index.result.now inside c.index.ensures))

pub returns-clause-named : goal.returns-clause-named
returns-clause-named c =
    let v = get_or c.group.result.now c.find-label.result.1 0 in
    let here = event_at_place _ c.self.invariant c.args.place c.find-label.result.0 c.find-label.result.1 c.find-label.ensures c.group.result.now c.group.ensures v refl in
    rw (← c.self.view_is) (event_named _ c.self.invariant c.args.place c.find-label.result.0 c.find-label.result.1 c.find-label.ensures c.group.result.now c.group.ensures v here)
