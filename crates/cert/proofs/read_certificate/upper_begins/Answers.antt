use Rattle.problem.specs.Listing.{all_readings}
use Rattle.cert.proofs.CertTaking.{upper_taken, upper_not}
use Rattle.cert.proofs.read_certificate.upper_begins.Goals as goal

pub returns-in-Ok : goal.returns-in-Ok
returns-in-Ok c = λ problem known. upper_taken problem (all_readings problem.events) c.args.p c.args.q c.in-Ok.upper c.args.body.now known c.in-Ok.ensures

pub returns-in-Err : goal.returns-in-Err
returns-in-Err c = λ problem known. upper_not problem (all_readings problem.events) c.args.p c.args.q c.args.body.now c.in-Err.fault c.in-Err.ensures
