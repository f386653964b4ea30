use Rattle.std.specs.Str.{bytes_eq}
use Rattle.problem.proofs.Places.{exact_names, found, missed}
use Rattle.problem.proofs.names.Names.place.Goals as goal

pub returns-clause-some : goal.returns-clause-some
returns-clause-some c = rw (← c.self.view_is) (found bytes_eq exact_names c.args.name.now c.self.inside.places _ c.place.ensures.place)

pub returns-clause-none : goal.returns-clause-none
returns-clause-none c = rw (← c.self.view_is) (missed bytes_eq exact_names c.args.name.now c.self.inside.places _ c.place.ensures.place)
