use Rattle.std.proofs.Common.{rules}
use Rattle.std.proofs.lemmas.Fn.{always_returns_same}
use Rattle.roster.specs.Readings.{Stamped}
use Rattle.roster.proofs.Stamps.{found, not_there}
use Rattle.roster.proofs.readings.place_of.Goals as goal

pub returns-in-Ok-clause-some : goal.returns-in-Ok-clause-some
returns-in-Ok-clause-some c =
    found c.args.readings.now c.in-Ok.place c.args.stamp c.in-Ok.ensures.bound (c.in-Ok.ensures.position (λ (r : Stamped). r.0) (always_returns_same _ _ _ (λ a r f called. (search rules, search rules))))

pub returns-in-Err-clause-none : goal.returns-in-Err-clause-none
returns-in-Err-clause-none c =
    not_there c.args.readings.now c.in-Err.field-0 c.args.stamp c.requires (c.in-Err.ensures.position (λ (r : Stamped). r.0) (always_returns_same _ _ _ (λ a r f called. (search rules, search rules))))
