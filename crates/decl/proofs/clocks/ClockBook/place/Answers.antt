use Rattle.std.proofs.Common.{◌∙◌}
use Rattle.decl.proofs.ClockPlaces.{place_is}
use Rattle.decl.proofs.clocks.ClockBook.place.Goals as goal

pub returns-in-Some : goal.returns-in-Some
returns-in-Some c = rw (← c.self.view_is) (c.in-Some.ensures.place ∙ place_is c.args.name.now c.self.inside.names c.self.inside.clocks.items c.self.invariant.0)

pub returns-in-None : goal.returns-in-None
returns-in-None c = rw (← c.self.view_is) (c.in-None.ensures.place ∙ place_is c.args.name.now c.self.inside.names c.self.inside.clocks.items c.self.invariant.0)
