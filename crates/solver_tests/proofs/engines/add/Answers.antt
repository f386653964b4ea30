use Rattle.std.proofs.Common.{refl}
use Rattle.problem_model.specs.declared.items.Node.TheVariants.{Event}
use Rattle.solver_tests.proofs.engines.add.Goals as goal

pub push_arc-requires-clause-named : goal.push_arc-requires-clause-named
push_arc-requires-clause-named g c = record {
  tail = Event c.args.from;
  head = Event c.args.to;
  from = c.requires.from;
  to = c.requires.to;
  joins = (refl, refl);
}
