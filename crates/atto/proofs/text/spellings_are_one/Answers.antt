use Rattle.atto.proofs.OneSpelling.{decimal_of_injective}
use Rattle.atto.proofs.Signs.{ns_text_injective}
use Rattle.atto.proofs.text.spellings_are_one.Goals as goal

pub returns-clause-decimal : goal.returns-clause-decimal
returns-clause-decimal c = decimal_of_injective

pub returns-clause-ns : goal.returns-clause-ns
returns-clause-ns c = ns_text_injective
