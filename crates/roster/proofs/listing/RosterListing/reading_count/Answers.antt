use Rattle.std.proofs.Common.{sym, ◌∙◌, ap, subst}
use Rattle.roster.specs.Groups.{total, sizes_of}
use Rattle.roster.specs.Roster.{RosterLists, IsRoster}
use Rattle.roster.proofs.ListedPlaces.{readings_many, few_nodes}
use Rattle.roster.proofs.listing.RosterListing.reading_count.Goals as goal

pub returns-clause-count : goal.returns-clause-count
returns-clause-count c =
    c.total.ensures ∙ ap (λ (r : RosterLists). total (sizes_of r.readings)) c.self.view_is ∙ sym (readings_many c.args.self.now (subst IsRoster c.self.view_is c.self.invariant))

pub returns-clause-few : goal.returns-clause-few
returns-clause-few c = few_nodes c.args.self.now (subst IsRoster c.self.view_is c.self.invariant)
