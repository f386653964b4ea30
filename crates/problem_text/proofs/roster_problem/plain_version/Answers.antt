use Rattle.std.proofs.Common.{sym, ◌∙◌}
use Rattle.decl.specs.Declaration.{declaration_of}
use Rattle.problem_text.proofs.Follows.{none_more, version_two}
use Rattle.problem_text.proofs.roster_problem.plain_version.Goals as goal

pub returns-then-is_some-clause-head : goal.returns-then-is_some-clause-head
returns-then-is_some-clause-head c = version_two (declaration_of c.args.decl.now) c.loop-place.place c.follow_from.result c.follow_from.ensures (sym c.is_some.ensures ∙ c.if-is_some.true)

pub loop-place-preserved : goal.loop-place-preserved
loop-place-preserved c = none_more (declaration_of c.args.decl.now) c.loop-place.place c.follow_from.result c.follow_from.ensures (sym c.is_some.ensures ∙ c.if-is_some.false) c.loop-place.invariant
