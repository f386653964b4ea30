use Rattle.widen.proofs.FoundTexts.{least_found, never_found, text_of, accepted}
use Rattle.widen.proofs.laws.found_widenings.Goals as goal

pub returns-clause-least : goal.returns-clause-least
returns-clause-least c = λ what p extra execution cycle found. least_found what p extra execution cycle found

pub returns-clause-never : goal.returns-clause-never
returns-clause-never c = λ what p cycle found. never_found what p cycle found

pub returns-clause-fits : goal.returns-clause-fits
returns-clause-fits c = λ what p readings w lawful are named found. text_of what p readings lawful are named w found

pub returns-clause-accepted : goal.returns-clause-accepted
returns-clause-accepted c = λ what p readings w result lawful are named found judged. accepted what p readings lawful are named w result found judged
