use Rattle.std.proofs.Common.{◌≡◌, true, sym, subst, rules}
use Rattle.std.specs.Prelude.{OnOk}
use Rattle.line_format.specs.Format.{Takes}
use Rattle.problem.specs.Line.{IsInOrder, are_own, problem_format}
use Rattle.problem.specs.Written.{event_body}
use Rattle.problem.specs.declared.version.Version.{Version}
use Rattle.problem.proofs.Taking.{only_third}
use Rattle.problem.proofs.lines.any_event_line.Goals as goal

pub own_line-requires : goal.own_line-requires
own_line-requires c =
    let own : are_own c.args.version ≡ true = search rules in
    rw own at c.requires.1

pub returns-then-has_bounds-clause-taken : goal.returns-then-has_bounds-clause-taken
returns-then-has_bounds-clause-taken c =
    let own : are_own c.args.version ≡ true = search rules in
    subst (λ (v : Version). Takes (problem_format v) c.args.items.now (event_body c.args.rest.now) c.own_line.result c.own_line.new.items) (sym (only_third c.args.version own)) c.own_line.ensures.taken

pub returns-then-has_bounds-clause-ordered : goal.returns-then-has_bounds-clause-ordered
returns-then-has_bounds-clause-ordered c =
    let own : are_own c.args.version ≡ true = search rules in
    subst (λ (v : Version). OnOk c.own_line.result (IsInOrder v c.own_line.new.items)) (sym (only_third c.args.version own)) c.own_line.ensures.ordered
