use Rattle.problem.specs.Listing.{all_readings}
use Rattle.cert.proofs.CertTaking.{run_fault}
use Rattle.cert.proofs.read_certificate.run_line.Goals as goal

pub returns-in-Err : goal.returns-in-Err
returns-in-Err c =
    let p = c.args.p.now in
    run_fault p (all_readings p.events) c.args.values c.take_value.new.values c.args.body.now c.in-Err.fault c.in-Err.ensures.takes
