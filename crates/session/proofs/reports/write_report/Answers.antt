use Rattle.std.proofs.Common.{◌∙◌, length, sym, ap, subst}
use Rattle.decl.specs.Declaration.{Declaration, IsDeclaration}
use Rattle.report.specs.Report.{report_line}
use Rattle.report.specs.Reports.{report_of}
use Rattle.traces.specs.Held.{missed_in, seen_in}
use Rattle.traces.specs.Messages.{problem_of_seen}
use Rattle.ports.proofs.Writing.{such_of}
use Rattle.replies.specs.Reply.{IsReport}
use Rattle.session.proofs.Telling.{never_memory}
use Rattle.session.proofs.reports.write_report.Goals as goal

pub view_of-requires-clause-declared : goal.view_of-requires-clause-declared
view_of-requires-clause-declared g c = subst IsDeclaration (sym c.decl.ensures.same) c.decl.ensures.lawful.declared

pub view_of-requires-clause-labels : goal.view_of-requires-clause-labels
view_of-requires-clause-labels g c = c.requires.labels ∙ ap (λ (d : Declaration). length d.labels) (sym c.decl.ensures.same)

pub returns-clause-writes : goal.returns-clause-writes
returns-clause-writes g c =
    let d = c.args.roster.now.declaration in
    let seen = seen_in c.args.accepted.now in
    let missed = missed_in c.args.accepted.now in
    let consistent = c.is_consistent-consistent.result in
    let view = c.in_ok-view.ensures.view ∙ ap (λ (x : Declaration). report_of x seen missed consistent) c.decl.ensures.same in
    such_of (IsReport d seen missed)
    (consistent, c.is_consistent-consistent.ensures c.requires.solution.0 (problem_of_seen d seen) c.requires.solution.1, c.deref.ensures.value ∙ c.in_ok-line.ensures ∙ ap report_line view) c.write_line.ensures.writes

pub returns-clause-untouched : goal.returns-clause-untouched
returns-clause-untouched g c = λ fails. never_memory c.write_line.result c.write_line.ensures.only fails
