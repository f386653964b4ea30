use Rattle.std.proofs.Common.{inr, sym}
use Rattle.ports.proofs.Writing.{such_failed, such_written}
use Rattle.decl.specs.Declaration.{declaration_of}
use Rattle.traces.specs.Held.{seen_in}
use Rattle.traces.specs.Messages.{problem_of_seen}
use Rattle.queries.specs.Replies.{Replies}
use Rattle.replies.specs.Merged.{IsMergeText}
use Rattle.replies.proofs.Stopping.{not_memory}
use Rattle.replies.proofs.merge.write_held.Goals as goal

pub write_contradiction-requires : goal.write_contradiction-requires
write_contradiction-requires g c =
    (problem_of_seen (declaration_of c.args.decl.now) (seen_in c.args.accepted.now), (c.args.solver.now, c.requires.solution, c.requires.held, sym c.contradiction.ensures.value))

pub returns-in_err-write_contradiction-clause-writes : goal.returns-in_err-write_contradiction-clause-writes
returns-in_err-write_contradiction-clause-writes g c =
    let d = declaration_of c.args.decl.now in
    let seen = seen_in c.args.accepted.now in
    let p = problem_of_seen d seen in
    let text = c.in_err-write_contradiction.ensures p (c.args.solver.now, c.requires.solution, c.requires.held, sym c.contradiction.ensures.value) in
    such_failed (Replies p (IsMergeText d seen)) (inr text.1) c.from_residual.ensures.0 text.2

pub returns-clause-writes : goal.returns-clause-writes
returns-clause-writes g c =
    let d = declaration_of c.args.decl.now in
    let seen = seen_in c.args.accepted.now in
    let p = problem_of_seen d seen in
    let text = c.in_ok-write_contradiction.ensures p (c.args.solver.now, c.requires.solution, c.requires.held, sym c.contradiction.ensures.value) in
    such_written (Replies p (IsMergeText d seen)) (inr text.1) text.2

pub returns-in_err-write_contradiction-clause-untouched : goal.returns-in_err-write_contradiction-clause-untouched
returns-in_err-write_contradiction-clause-untouched g c = λ fails. not_memory c.from_residual.result c.from_residual.ensures.1 fails
