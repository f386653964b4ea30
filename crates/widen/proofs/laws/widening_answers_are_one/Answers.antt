use Rattle.widen.proofs.Reading.{found_is}
use Rattle.widen.proofs.Readable.{widening_one, read_again}
use Rattle.widen.proofs.laws.widening_answers_are_one.Goals as goal

pub returns-clause-one : goal.returns-clause-one
returns-clause-one c = λ p readings text a b lawful are x y. widening_one p readings text a b lawful are x y

pub returns-clause-found : goal.returns-clause-found
returns-clause-found c = λ p readings text what w are. found_is p readings are what w text

pub returns-clause-read_again : goal.returns-clause-read_again
returns-clause-read_again c = λ p readings text w result lawful are is reads. read_again p readings lawful are w text result is reads
