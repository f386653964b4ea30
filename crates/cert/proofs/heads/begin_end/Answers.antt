use Rattle.std.proofs.Common.{◌≡◌, rules, sym}
use Rattle.cert.specs.CertificateFormat.{side_word}
use Rattle.cert.proofs.CertTaking.{side_begins}
use Rattle.cert.proofs.heads.begin_end.Goals as goal

pub returns : goal.returns
returns c =
    let is : c.in-Some.word.now ≡ side_word c.args.side = search rules in
    side_begins c.args.body.now c.in-Some.word.now c.in-Some.limit.now c.args.side (sym c.in-Some.ensures) is c.limit_of.result c.limit_of.ensures
