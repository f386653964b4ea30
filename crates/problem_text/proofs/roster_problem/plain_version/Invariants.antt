use Rattle.std.proofs.Common.{◌≡◌, []}
use Rattle.decl.specs.Declaration.{declaration_of}
use Rattle.traces.proofs.Follows.{follows_before}
use Rattle.problem_text.proofs.roster_problem.plain_version.Given as goal

-- there is no follow from a place before
abbrev pub invariant-loop-place : goal.invariant-loop-place
invariant-loop-place l = follows_before (declaration_of l.decl) l.place ≡ []
