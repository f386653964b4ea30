use Rattle.std.proofs.Common.{ℕ, sym, subst}
use Rattle.roster.specs.Roster.{RosterLists, IsNumberUnder}
use Rattle.roster.proofs.Beside.{group_inside, under_of, is_under}
use Rattle.roster.proofs.roster.Roster.number_of.Goals as goal

pub group-requires : goal.group-requires
group-requires c =
    let r = subst (λ (r : RosterLists). (v : ℕ) × IsNumberUnder r.under c.args.id v) (sym c.self.view_is) c.requires in
    group_inside c.self.inside.under c.args.id.label r.1.0 r.0 r.1.2

pub event_numbered-requires : goal.event_numbered-requires
event_numbered-requires c =
    let r = subst (λ (r : RosterLists). (v : ℕ) × IsNumberUnder r.under c.args.id v) (sym c.self.view_is) c.requires in
    under_of c.self.inside.under c.args.id c.group.result.now r.0 c.group.ensures r.1

pub returns : goal.returns
returns c = rw (← c.self.view_is) (is_under c.self.inside.under c.args.id c.group.result.now c.event_numbered.result c.group.ensures c.event_numbered.ensures)
