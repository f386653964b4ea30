use Rattle.cert_check.proofs.Answering.{no_reason}
use Rattle.cert_check.proofs.OneAnswer.{answer_one}
use Rattle.cert_check.proofs.laws.reasons.Goals as goal

pub returns-clause-none : goal.returns-clause-none
returns-clause-none c = λ p cert part reason lawful of so shows. no_reason p lawful cert part reason of so shows

pub returns-clause-one : goal.returns-clause-one
returns-clause-one c = λ p cert a b lawful of is is'. answer_one p lawful cert a b of is is'
