use Rattle.decl.proofs.Following.{follows_lead, earliers_differ, laters_differ, gaps_fit, comes_exactly}
use Rattle.decl.proofs.laws.clocks_of_a_host_follow.Goals as goal

pub returns-clause-lead : goal.returns-clause-lead
returns-clause-lead c = follows_lead

pub returns-clause-earliers : goal.returns-clause-earliers
returns-clause-earliers c = earliers_differ

pub returns-clause-laters : goal.returns-clause-laters
returns-clause-laters c = laters_differ

pub returns-clause-gaps : goal.returns-clause-gaps
returns-clause-gaps c = gaps_fit

pub returns-clause-come : goal.returns-clause-come
returns-clause-come c = comes_exactly
