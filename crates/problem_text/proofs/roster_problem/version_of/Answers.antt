use Rattle.problem_text.proofs.Follows.{few_owners}
use Rattle.problem_text.proofs.roster_problem.version_of.Goals as goal

pub plain_version-requires : goal.plain_version-requires
plain_version-requires c = few_owners _ c.args.roster.now c.decl.ensures.same c.decl.ensures.lawful
