use Rattle.std.proofs.Common.{arith}
use Rattle.event_log.proofs.Fifth.{fifth_begins, fifth_few, goes_further, walked_none, whole_few}
use Rattle.event_log.proofs.front.before_fifth.Goals as goal

pub bytes-init : goal.bytes-init
bytes-init c = (walked_none, omega arith)

pub bytes-preserved : goal.bytes-preserved
bytes-preserved c =
    goes_further c.args.text.now c.bytes.i c.bytes.progress.place c.after-progress.result.place c.bytes.progress.ended c.after-progress.result.ended c.bytes-test.true c.bytes.invariant.1 c.bytes.invariant.0
    c.after-progress.ensures.state c.after-progress.ensures.ended c.if-progress-eq4.false

pub returns-then-progress-eq4-clause-front : goal.returns-then-progress-eq4-clause-front
returns-then-progress-eq4-clause-front c =
    fifth_begins c.args.text.now c.bytes.i c.bytes.progress.place c.after-progress.result.place c.bytes.progress.ended c.after-progress.result.ended c.bytes-test.true c.bytes.invariant.1 c.bytes.invariant.0
    c.after-progress.ensures.state c.after-progress.ensures.ended c.if-progress-eq4.true

pub returns-then-progress-eq4-clause-few : goal.returns-then-progress-eq4-clause-few
returns-then-progress-eq4-clause-few c =
    fifth_few c.args.text.now c.bytes.i c.bytes.progress.place c.after-progress.result.place c.bytes.progress.ended c.after-progress.result.ended c.bytes-test.true c.bytes.invariant.1 c.bytes.invariant.0
    c.after-progress.ensures.state c.after-progress.ensures.ended c.if-progress-eq4.true

pub returns-clause-few : goal.returns-clause-few
returns-clause-few c = whole_few c.args.text.now c.bytes.i _ _ c.bytes-test.false c.bytes.invariant.1 c.bytes.invariant.0
