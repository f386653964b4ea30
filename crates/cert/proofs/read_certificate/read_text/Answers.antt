use Rattle.std.proofs.Common.{codes, refl}
use Rattle.line_format.proofs.Lacking.{lacks_test}
use Rattle.cert.proofs.read_certificate.read_text.Goals as goal

pub behind-requires : goal.behind-requires
behind-requires c = lacks_test 10 (codes "certificate 1") refl
