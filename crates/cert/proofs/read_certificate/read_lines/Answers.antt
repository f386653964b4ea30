use Rattle.std.proofs.Common.{◌≡◌, ◌≢◌, ◌<◌, [], None, length, rules, arith, ap, sym}
use Rattle.std.proofs.lemmas.List.{nil_from_length}
use Rattle.line_format.specs.Cut.{cut}
use Rattle.line_format.proofs.Cutting.{cut_shorter}
use Rattle.line_format.proofs.Reading.{more_answers, cut_answers, stands_on}
use Rattle.problem_model.specs.Nodes.{AreReadings}
use Rattle.problem.specs.Listing.{all_readings}
use Rattle.cert.proofs.Certificates.{own_readings}
use Rattle.cert.specs.CertificateFormat.{certificate_format}
use Rattle.cert.specs.TakesPart.{parts_said}
use Rattle.cert.proofs.CertLines.{cert_lacks}
use Rattle.cert.proofs.CertReading.{fault_reads, end_reads}
use Rattle.cert.proofs.read_certificate.read_lines.Goals as goal

pub returns-then-is_empty : goal.returns-then-is_empty
returns-then-is_empty c =
    let p = c.args.p.now in
    let are : AreReadings p (all_readings p.events) = own_readings p c.readings.result.now c.readings.ensures in
    let none : c.in-Some.after.now ≡ [] = nil_from_length _ (grind (arith, c.is_empty.ensures, c.if-is_empty.true)) in
    end_reads p (all_readings p.events) are _ _ _ _ (parts_said c.loop-body.parts) c.in-Ok-Done.cert _ c.loop-body.invariant.0 (sym c.in-Some.ensures) (rw c.in-Ok-Done.field-0-is at c.in-Ok-Done.ensures) none

pub returns-in-Ok-Done : goal.returns-in-Ok-Done
returns-in-Ok-Done c =
    let p = c.args.p.now in
    let some : c.in-Some.after.now ≢ [] = λ is. let none = ap length is in grind (arith, none, c.is_empty.ensures, c.if-is_empty.false) in
    more_answers (certificate_format p (all_readings p.events)) cert_lacks _ _ _ _ (parts_said c.loop-body.parts) _ _ c.loop-body.invariant.0 (sym c.in-Some.ensures) (rw c.in-Ok-Done.field-0-is at c.in-Ok-Done.ensures) some

pub returns-in-Err : goal.returns-in-Err
returns-in-Err c =
    let p = c.args.p.now in
    rw c.error_at.ensures (fault_reads p (all_readings p.events) _ _ _ _ (parts_said c.loop-body.parts) _ _ c.in-Err.fault c.loop-body.invariant.0 (sym c.in-Some.ensures) c.in-Err.ensures)

pub loop-body-smaller : goal.loop-body-smaller
loop-body-smaller c = cut_shorter _ _ _ _ (sym c.in-Some.ensures)

pub loop-body-preserved : goal.loop-body-preserved
loop-body-preserved c =
    let p = c.args.p.now in
    let shorter : length c.in-Some.after.now < length c.loop-body.rest.now = cut_shorter _ _ _ _ (sym c.in-Some.ensures) in
    let gives = rw c.in-Ok-More.field-0-is at c.in-Ok-More.ensures in (
      stands_on (certificate_format p (all_readings p.events)) cert_lacks _ _ _ _ (parts_said c.loop-body.parts) (parts_said c.in-Ok-More.more) _ c.loop-body.invariant.0 (sym c.in-Some.ensures) gives.0 gives.1,
      omega (arith, shorter, c.loop-body.invariant.1),
    )

pub returns : goal.returns
returns c =
    let p = c.args.p.now in
    let none : cut 10 c.loop-body.rest.now ≡ None = search rules in
    cut_answers (certificate_format p (all_readings p.events)) cert_lacks _ _ (parts_said c.loop-body.parts) _ c.loop-body.invariant.0 none
