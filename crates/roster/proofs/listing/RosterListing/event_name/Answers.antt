use Rattle.std.proofs.Common.{◌≡◌, ◌<◌, length, Some, vec_len, sym, ◌∙◌, ap, subst, arith, rules}
use Rattle.roster.specs.Roster.{RosterLists, listed}
use Rattle.roster.proofs.ListedPlaces.{came_there, own_label, label_inside, label_named, name_listed}
use Rattle.roster.proofs.listing.RosterListing.event_name.Goals as goal

pub index-requires : goal.index-requires
index-requires c =
    let asked = subst (λ (r : RosterLists). c.args.e < length (listed r).event_names) (sym c.self.view_is) c.requires in
    let e = c.index-came.result.now in
    let there = came_there _ c.self.invariant c.args.e e asked c.index-came.ensures in
    let inside : e.label < length c.self.inside.decl.labels.items = label_inside _ c.self.invariant c.args.e e there in
    let long : vec_len c.self.inside.decl.labels ≡ length c.self.inside.decl.labels.items = search rules in
    omega (arith, inside, long)

pub event_name-requires : goal.event_name-requires
event_name-requires c =
    let asked = subst (λ (r : RosterLists). c.args.e < length (listed r).event_names) (sym c.self.view_is) c.requires in
    let e = c.index-came.result.now in
    let there = came_there _ c.self.invariant c.args.e e asked c.index-came.ensures in
    label_named _ c.self.invariant c.args.e e there c.index.result.now (own_label _ c.self.invariant c.args.e e there c.index.result.now c.index.ensures)

pub returns : goal.returns
returns c =
    let asked = subst (λ (r : RosterLists). c.args.e < length (listed r).event_names) (sym c.self.view_is) c.requires in
    let e = c.index-came.result.now in
    let there = came_there _ c.self.invariant c.args.e e asked c.index-came.ensures in
    rw (← c.self.view_is)
    (name_listed _ c.self.invariant c.args.e e there c.index.result.now (own_label _ c.self.invariant c.args.e e there c.index.result.now c.index.ensures) ∙ ap Some (sym c.event_name.ensures))
