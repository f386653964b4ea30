use Rattle.std.proofs.Common.{◌≡◌, ◌≢◌, [], None, arith, rules, sym}
use Rattle.line_format.specs.Cut.{cut}
use Rattle.line_format.proofs.Cutting.{cut_shorter}
use Rattle.line_format.proofs.Reading.{stands_on}
use Rattle.problem.specs.Line.{problem_format}
use Rattle.problem.proofs.OneLine.{line_lacks}
use Rattle.problem.proofs.Answering.{end_reads, more_reads, fault_reads, cut_reads, number_fits}
use Rattle.problem.proofs.read.read_lines.Goals as goal

pub returns-then-is_end : goal.returns-then-is_end
returns-then-is_end c =
    let none : c.in-Some.after.now ≡ [] = search rules in
    end_reads c.args.version c.args.lines.now _ _ _ _ _ _ c.loop-body.invariant (sym c.in-Some.ensures) (rw c.in-Ok-End.field-0-is at c.in-Ok-End.ensures.taken) none

pub returns-in-Ok-End : goal.returns-in-Ok-End
returns-in-Ok-End c =
    let some : c.in-Some.after.now ≢ [] = search rules in
    more_reads c.args.version c.args.lines.now _ _ _ _ _ _ c.loop-body.invariant (sym c.in-Some.ensures) (rw c.in-Ok-End.field-0-is at c.in-Ok-End.ensures.taken) some

pub returns-in-Err : goal.returns-in-Err
returns-in-Err c = rw c.fault_at.ensures (fault_reads c.args.version c.args.lines.now _ _ _ _ _ _ c.in-Err.fault c.loop-body.invariant (sym c.in-Some.ensures) c.in-Err.ensures.taken)

pub loop-body-smaller : goal.loop-body-smaller
loop-body-smaller c = cut_shorter _ _ _ _ (sym c.in-Some.ensures)

pub loop-body-preserved : goal.loop-body-preserved
loop-body-preserved c = stands_on (problem_format c.args.version) line_lacks _ _ _ _ _ _ _ c.loop-body.invariant (sym c.in-Some.ensures) (rw c.in-Ok-Line.field-0-is at c.in-Ok-Line.ensures.taken) (c.in-Ok-Line.ensures.said c.loop-body.invariant.sound)

pub returns : goal.returns
returns c =
    let none : cut 10 c.loop-body.rest.now ≡ None = search rules in
    cut_reads c.args.version c.args.lines.now _ _ _ c.loop-body.invariant none

pub overflow_add-result : goal.overflow_add-result
overflow_add-result c = let few = number_fits c.args.version c.args.lines.now _ _ _ c.loop-body.invariant in omega (arith, few)

pub overflow_add-line : goal.overflow_add-line
overflow_add-line c = let few = number_fits c.args.version c.args.lines.now _ _ _ c.loop-body.invariant in omega (arith, few)

pub take-requires : goal.take-requires
take-requires c = c.loop-body.invariant.sound.1
