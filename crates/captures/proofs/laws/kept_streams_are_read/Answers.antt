use Rattle.captures.proofs.Standing.{stands_dropped, stands_passed, stands_reads, stands_size, stands_waiting}
use Rattle.captures.proofs.laws.kept_streams_are_read.Goals as goal

pub returns-clause-reads : goal.returns-clause-reads
returns-clause-reads c = stands_reads

pub returns-clause-passed : goal.returns-clause-passed
returns-clause-passed c = stands_passed

pub returns-clause-waiting : goal.returns-clause-waiting
returns-clause-waiting c = stands_waiting

pub returns-clause-size : goal.returns-clause-size
returns-clause-size c = stands_size

pub returns-clause-dropped : goal.returns-clause-dropped
returns-clause-dropped c = stands_dropped
