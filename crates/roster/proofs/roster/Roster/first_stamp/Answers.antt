use Rattle.std.proofs.Common.{List, [], sym, subst}
use Rattle.std.proofs.lemmas.Option.{get_or_from_slice_get}
use Rattle.roster.specs.Readings.{Stamped, Rise, IsFirstStamp}
use Rattle.roster.proofs.roster.Roster.first_stamp.Goals as goal

pub first_stamp-requires : goal.first_stamp-requires
first_stamp-requires c = subst Rise (get_or_from_slice_get c.self.inside.readings c.args.clock c.group.result.now [] c.group.ensures) (c.self.invariant.on_clocks.rise c.args.clock)

pub returns : goal.returns
returns c =
    rw (← c.self.view_is)
    (subst (λ (rs : List Stamped). IsFirstStamp rs c.first_stamp.result) (sym (get_or_from_slice_get c.self.inside.readings c.args.clock c.group.result.now [] c.group.ensures)) c.first_stamp.ensures)
