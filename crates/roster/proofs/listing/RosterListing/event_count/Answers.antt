use Rattle.std.proofs.Common.{◌≡◌, length, sym, ◌∙◌, ap, subst, rules}
use Rattle.roster.specs.Roster.{RosterLists, IsRoster}
use Rattle.roster.proofs.ListedPlaces.{event_places}
use Rattle.roster.proofs.listing.RosterListing.event_count.Goals as goal

pub returns : goal.returns
returns c =
    let long : c.len.result ≡ length c.self.inside.came.items = search rules in
    long ∙ ap (λ (r : RosterLists). length r.came) c.self.view_is ∙ sym (event_places c.args.self.now (subst IsRoster c.self.view_is c.self.invariant))
