use Rattle.commands.proofs.program.run_counted.Goals as goal

pub returns-in-Ends-clause-answers : goal.returns-in-Ends-clause-answers
returns-in-Ends-clause-answers g c = rw c.in-Ends.is c.ends.ensures.answered

pub returns-in-WidenLinks-clause-answers : goal.returns-in-WidenLinks-clause-answers
returns-in-WidenLinks-clause-answers g c = rw c.in-WidenLinks.is c.widen.ensures.found

pub returns-in-WidenClocks-clause-answers : goal.returns-in-WidenClocks-clause-answers
returns-in-WidenClocks-clause-answers g c = rw c.in-WidenClocks.is c.widen-in-WidenClocks.ensures.found

pub returns-in-WidenLink-clause-answers : goal.returns-in-WidenLink-clause-answers
returns-in-WidenLink-clause-answers g c = rw c.in-WidenLink.is c.widen-in-WidenLink.ensures.found

pub returns-in-WidenClock-clause-answers : goal.returns-in-WidenClock-clause-answers
returns-in-WidenClock-clause-answers g c = rw c.in-WidenClock.is c.widen-in-WidenClock.ensures.found

pub returns-in-Thin-clause-answers : goal.returns-in-Thin-clause-answers
returns-in-Thin-clause-answers g c = rw c.in-Thin.is c.thin.ensures.thinned

pub returns-in-MergeSince-clause-answers : goal.returns-in-MergeSince-clause-answers
returns-in-MergeSince-clause-answers g c = rw c.in-MergeSince.is c.mergecap_since.ensures.dated
