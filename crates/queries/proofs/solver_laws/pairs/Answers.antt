use Rattle.queries.proofs.ListedPairs.{pair_of, pair_fits}
use Rattle.queries.proofs.solver_laws.pairs.Goals as goal

pub returns-clause-pair : goal.returns-clause-pair
returns-clause-pair c = λ l p readings s j k m n pair are is none by by' told. pair_of l p readings s j k m n pair are is by by' told

pub returns-clause-fits : goal.returns-clause-fits
returns-clause-fits c = λ l p s j k pair is none below below' told. pair_fits l p s j k pair is none below below' told
