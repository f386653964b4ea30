use Rattle.queries.specs.Replies.{IsIntervalLine, IsOrderLine, IsTimeLine}
use Rattle.queries.proofs.OneReply.{one_interval, one_order_line, one_time_line, reply_says}
use Rattle.queries.proofs.reply_laws.replies_are_one.Goals as goal

pub returns-clause-interval : goal.returns-clause-interval
returns-clause-interval c = one_interval

pub returns-clause-order : goal.returns-clause-order
returns-clause-order c = one_order_line

pub returns-clause-interval_reply : goal.returns-clause-interval_reply
returns-clause-interval_reply c = λ p first second. reply_says p (IsIntervalLine p first second)

pub returns-clause-order_reply : goal.returns-clause-order_reply
returns-clause-order_reply c = λ p first second. reply_says p (IsOrderLine p first second)

pub returns-clause-time : goal.returns-clause-time
returns-clause-time c = one_time_line

pub returns-clause-time_reply : goal.returns-clause-time_reply
returns-clause-time_reply c = λ p clock event. reply_says p (IsTimeLine p clock event)
