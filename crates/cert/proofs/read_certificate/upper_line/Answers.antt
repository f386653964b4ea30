use Rattle.problem.specs.Listing.{all_readings}
use Rattle.cert.specs.CertificateFormat.{}
use Rattle.cert.specs.EndLists.{end_lists}
use Rattle.cert.proofs.CertTaking.{upper_fault}
use Rattle.cert.proofs.read_certificate.upper_line.Goals as goal

pub returns-in-Err : goal.returns-in-Err
returns-in-Err c =
    let p = c.args.problem.now in
    upper_fault p (all_readings p.events) c.args.p c.args.q (end_lists c.args.upper) (end_lists c.take_in_end.new.end) c.args.body.now c.in-Err.fault c.requires.more c.in-Err.ensures.takes
