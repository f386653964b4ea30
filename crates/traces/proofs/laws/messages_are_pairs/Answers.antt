use Rattle.traces.specs.Traces.{events_of}
use Rattle.traces.proofs.MessageEnds.{order_of, pair_from, pairs_of}
use Rattle.traces.proofs.laws.messages_are_pairs.Goals as goal

pub returns-clause-pairs : goal.returns-clause-pairs
returns-clause-pairs c = λ seen m. pair_from (events_of seen) m

pub returns-clause-all : goal.returns-clause-all
returns-clause-all c = pairs_of

pub returns-clause-order : goal.returns-clause-order
returns-clause-order c = order_of
