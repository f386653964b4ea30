use Rattle.std.proofs.Common.{rules}
use Rattle.problem_model.proofs.Names.{name_made}
use Rattle.problem_model.proofs.name.Name.new.Goals as goal

pub invariant_of-result : goal.invariant_of-result
invariant_of-result c = name_made c.args.text.now _ c.copy_from_slice.ensures.after (search rules)
