use Rattle.problem.specs.Listing.{all_readings}
use Rattle.cert.specs.CertificateFormat.{certificate_format}
use Rattle.cert.specs.CertificateFormat.Said.{CycleSaid}
use Rattle.cert.proofs.CertTaking.{fault_keeps}
use Rattle.cert.proofs.read_certificate.cycle_line.Goals as goal

pub returns-in-Ok-Line : goal.returns-in-Ok-Line
returns-in-Ok-Line c = (rw c.in-Ok-Line.field-0-is at c.in-Ok-Line.ensures.takes, c.in-Ok-Line.ensures.sound c.requires)

pub returns-in-Err : goal.returns-in-Err
returns-in-Err c =
    let p = c.args.p.now in
    fault_keeps (certificate_format p (all_readings p.events)) (CycleSaid c.args.steps) (CycleSaid c.take_in_cycle.new.steps) (CycleSaid c.args.steps) c.args.body.now c.in-Err.fault c.in-Err.ensures.takes
