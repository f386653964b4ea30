use Rattle.std.proofs.Common.{sym, subst}
use Rattle.decl.specs.Declaration.{IsDeclaration}
use Rattle.report_tests.proofs.trace_reports.report_on.Goals as goal

pub view_of-requires-clause-declared : goal.view_of-requires-clause-declared
view_of-requires-clause-declared c = subst IsDeclaration (sym c.decl-decl.ensures.same) c.decl-decl.ensures.lawful.declared
