use Rattle.replies.proofs.OneReply.{Below, one_line}
use Rattle.replies.proofs.laws.replies_are_one.Goals as goal

pub returns-clause-text : goal.returns-clause-text
returns-clause-text c =
    let below : Below = record {
      rows = c.log_answers_are_one.ensures.rows;
      fault = c.log_answers_are_one.ensures.fault;
      either = c.log_answers_are_one.ensures.either;
      interval = c.replies_are_one.ensures.interval;
      order = c.replies_are_one.ensures.order;
      time = c.replies_are_one.ensures.time;
      times = c.times_are_one.ensures.by_clock;
      since = c.times_are_one.ensures.since;
      merge = c.merges_are_one.ensures;
      blame = c.blames_are_one.ensures;
      capture = c.captures_are_one.ensures;
      capture_fault = c.faults_are_one.ensures;
      judged = c.refused_or_read.ensures;
    } in
    λ d files s after other line a b found declared state x y. (one_line below d files s line found declared state a b after other x y).0

pub returns-clause-next : goal.returns-clause-next
returns-clause-next c =
    let below : Below = record {
      rows = c.log_answers_are_one.ensures.rows;
      fault = c.log_answers_are_one.ensures.fault;
      either = c.log_answers_are_one.ensures.either;
      interval = c.replies_are_one.ensures.interval;
      order = c.replies_are_one.ensures.order;
      time = c.replies_are_one.ensures.time;
      times = c.times_are_one.ensures.by_clock;
      since = c.times_are_one.ensures.since;
      merge = c.merges_are_one.ensures;
      blame = c.blames_are_one.ensures;
      capture = c.captures_are_one.ensures;
      capture_fault = c.faults_are_one.ensures;
      judged = c.refused_or_read.ensures;
    } in
    λ d files s after other line a b found declared state x y. (one_line below d files s line found declared state a b after other x y).1
