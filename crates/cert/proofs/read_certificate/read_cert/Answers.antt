use Rattle.std.proofs.Common.{List, sym, subst}
use Rattle.problem_model.specs.Nodes.{Reading}
use Rattle.problem.proofs.AllReadings.{readings_are}
use Rattle.cert.specs.ReadsCert.{ReadsCertOver}
use Rattle.cert.proofs.read_certificate.read_cert.Goals as goal

pub returns : goal.returns
returns c = λ readings are.
    subst (λ (rs : List Reading). ReadsCertOver c.args.p.now rs c.args.text.now c.read_text.result) (sym (readings_are c.args.p.now readings are)) c.read_text.ensures
