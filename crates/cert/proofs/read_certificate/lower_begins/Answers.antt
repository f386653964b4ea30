use Rattle.problem.specs.Listing.{all_readings}
use Rattle.cert.specs.CertificateFormat.{}
use Rattle.cert.specs.EndLists.{end_lists}
use Rattle.cert.proofs.CertTaking.{lower_taken, lower_not}
use Rattle.cert.proofs.read_certificate.lower_begins.Goals as goal

pub returns-in-Ok : goal.returns-in-Ok
returns-in-Ok c = λ problem sound whole. lower_taken problem (all_readings problem.events) c.args.p c.args.q (end_lists c.args.upper) c.in-Ok.lower c.args.body.now sound whole c.in-Ok.ensures

pub returns-in-Err : goal.returns-in-Err
returns-in-Err c = λ problem sound whole. lower_not problem (all_readings problem.events) c.args.p c.args.q (end_lists c.args.upper) c.args.body.now c.in-Err.fault sound whole c.in-Err.ensures
