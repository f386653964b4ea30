use Rattle.std.proofs.Common.{sym, subst, rules}
use Rattle.std.proofs.lemmas.Int.{to_z-of_z}
use mir.Syntax.{w128}
use mir.Val.{SFits}
use Rattle.roster.specs.Roster.{listed}
use Rattle.session.specs.Dates.{IsDateOf}
use Rattle.session.proofs.StartDates.{asked_time, date_known, date_own}
use Rattle.session.proofs.starts.date_of.Goals as goal

pub source_date-requires : goal.source_date-requires
source_date-requires c =
    asked_time (listed c.args.names.now) c.args.solver.now c.requires.asked.0 c.requires.asked.1 c.requires.asked.2 _ c.args.came.now.node c.requires.none c.requires.asked.3 (rw c.in-Some.is at c.requires.asked.4) c.requires.asked.5

pub returns-in-Some : goal.returns-in-Some
returns-in-Some c = λ p declared place solution keeps at_place.
    let fits : SFits w128 c.source_date.result = search rules in
    subst (IsDateOf p declared place c.args.came.now.stamp) (sym (to_z-of_z w128 c.source_date.result fits))
    (date_known (listed c.args.names.now) c.args.solver.now p declared place _ c.args.came.now.stamp c.source_date.result solution (rw c.in-Some.is at keeps) (λ clock source. c.source_date.ensures p clock place solution source at_place))

pub returns-in-None : goal.returns-in-None
returns-in-None c = λ p declared place solution keeps at_place.
    let fits : SFits w128 c.delay_units.result = search rules in
    subst (IsDateOf p declared place c.args.came.now.stamp) (sym (to_z-of_z w128 c.delay_units.result fits))
    (date_own (listed c.args.names.now) c.args.solver.now p declared place c.args.came.now.stamp c.delay_units.result (rw c.in-None.is at keeps) c.delay_units.ensures.exact)
