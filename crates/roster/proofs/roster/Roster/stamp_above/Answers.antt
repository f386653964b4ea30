use Rattle.std.proofs.Common.{List, [], sym, subst}
use Rattle.std.proofs.lemmas.Option.{get_or_from_slice_get}
use Rattle.roster.specs.Groups.{group_at}
use Rattle.roster.specs.Readings.{Stamped, Rise, HasStamp, IsFirstOver}
use Rattle.roster.specs.Roster.{RosterLists}
use Rattle.roster.proofs.roster.Roster.stamp_above.Goals as goal

pub stamp_above-requires-clause-rise : goal.stamp_above-requires-clause-rise
stamp_above-requires-clause-rise c = subst Rise (get_or_from_slice_get c.self.inside.readings c.args.clock c.group.result.now [] c.group.ensures) (c.self.invariant.on_clocks.rise c.args.clock)

pub stamp_above-requires-clause-there : goal.stamp_above-requires-clause-there
stamp_above-requires-clause-there c =
    subst (λ (rs : List Stamped). HasStamp rs c.args.stamp) (get_or_from_slice_get c.self.inside.readings c.args.clock c.group.result.now [] c.group.ensures)
    (subst (λ (r : RosterLists). HasStamp (group_at r.readings c.args.clock) c.args.stamp) (sym c.self.view_is) c.requires.shown)

pub returns : goal.returns
returns c =
    rw (← c.self.view_is)
    (subst (λ (rs : List Stamped). IsFirstOver rs c.args.stamp c.stamp_above.result) (sym (get_or_from_slice_get c.self.inside.readings c.args.clock c.group.result.now [] c.group.ensures)) c.stamp_above.ensures)
