use Rattle.msg_match.proofs.MessageEnds.{matched_ends, unmatched_ends}
use Rattle.msg_match.proofs.laws.matched_events_are_ends.Goals as goal

pub returns-clause-ends : goal.returns-clause-ends
returns-clause-ends c = matched_ends

pub returns-clause-others : goal.returns-clause-others
returns-clause-others c = unmatched_ends
