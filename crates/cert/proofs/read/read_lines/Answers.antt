use Rattle.std.proofs.Common.{◌≡◌, ◌≢◌, [], None, length, rules, arith, ap, sym}
use Rattle.std.proofs.lemmas.List.{nil_from_length}
use Rattle.line_format.specs.Cut.{cut}
use Rattle.line_format.proofs.Cutting.{cut_shorter}
use Rattle.line_format.proofs.Reading.{more_answers, cut_answers}
use Rattle.cert.proofs.Forms.{line_lacks}
use Rattle.cert.proofs.Reading.{first_stands, fault_reads, end_reads, more_stands}
use Rattle.cert.proofs.read.read_lines.Goals as goal

pub loop-body-init : goal.loop-body-init
loop-body-init c = let n = c.args.nodes.now in rw c.new-values.ensures (first_stands n.problem n.readings _ c.requires)

pub returns-then-is_empty : goal.returns-then-is_empty
returns-then-is_empty c =
    let n = c.args.nodes.now in
    let none : c.in-Some.after.now ≡ [] = nil_from_length _ (grind (arith, c.is_empty.ensures, c.if-is_empty.true)) in
    end_reads n.problem n.readings _ _ _ _ _ _ _ c.loop-body.invariant (sym c.in-Some.ensures) (rw c.in-Ok-End.field-0-is at c.in-Ok-End.ensures.takes) none

pub returns-in-Ok-End : goal.returns-in-Ok-End
returns-in-Ok-End c =
    let some : c.in-Some.after.now ≢ [] = λ is. let none = ap length is in grind (arith, none, c.is_empty.ensures, c.if-is_empty.false) in
    rw c.line_behind-line.ensures.is (more_answers _ line_lacks _ _ _ _ _ _ _ c.loop-body.invariant (sym c.in-Some.ensures) (rw c.in-Ok-End.field-0-is at c.in-Ok-End.ensures.takes) some)

pub returns-in-Err : goal.returns-in-Err
returns-in-Err c =
    let n = c.args.nodes.now in
    rw (c.error_at.ensures, c.line_behind-line.ensures.is) (fault_reads n.problem n.readings _ _ _ _ _ _ _ c.in-Err.fault c.loop-body.invariant (sym c.in-Some.ensures) c.in-Err.ensures.takes)

pub loop-body-smaller : goal.loop-body-smaller
loop-body-smaller c = cut_shorter _ _ _ _ (sym c.in-Some.ensures)

pub loop-body-preserved : goal.loop-body-preserved
loop-body-preserved c =
    let n = c.args.nodes.now in
    more_stands n.problem n.readings _ _ _ _ _ _ c.loop-body.invariant (sym c.in-Some.ensures) (rw c.in-Ok-Line.field-0-is at c.in-Ok-Line.ensures.takes) c.in-Ok-Line.ensures.sound

pub returns : goal.returns
returns c =
    let none : cut 10 c.loop-body.rest.now ≡ None = search rules in
    rw c.line_behind.ensures.is (cut_answers _ line_lacks _ _ _ _ c.loop-body.invariant none)
