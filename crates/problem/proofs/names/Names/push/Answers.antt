use Rattle.std.specs.Str.{bytes_eq}
use Rattle.problem.proofs.Places.{exact_names, absent}
use Rattle.problem.proofs.names.Names.push.Goals as goal

pub push-requires : goal.push-requires
push-requires c = record { new = absent bytes_eq exact_names c.args.name.now c.self.inside.places (rw (← c.self.view_is) at c.requires) }
