use Rattle.std.proofs.Common.{refl}
use Rattle.cert.proofs.CertReadable.{certificate_one}
use Rattle.cert.proofs.CertReading.{found_is, read_again}
use Rattle.cert.proofs.read_certificate.certificate_answers_are_one.Goals as goal

pub returns-clause-one : goal.returns-clause-one
returns-clause-one c = certificate_one

pub returns-clause-found : goal.returns-clause-found
returns-clause-found c = λ p readings text cert are. found_is p readings are cert text

pub returns-clause-read_again : goal.returns-clause-read_again
returns-clause-read_again c = λ p readings cert result lawful are of_p fits short reads. read_again p readings cert _ result lawful are (short, of_p, fits, refl) reads
