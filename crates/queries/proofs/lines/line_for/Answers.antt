use Rattle.queries.proofs.Showing.{interval_shows, order_shows}
use Rattle.queries.proofs.lines.line_for.Goals as goal

pub returns-in-Interval : goal.returns-in-Interval
returns-in-Interval c = rw c.in-Interval.is (λ p first second is. interval_shows p first second c.args.pair is c.ends_from-ends.result c.ends_from-ends.ensures.value _ c.interval_line.ensures)

pub returns-in-Order : goal.returns-in-Order
returns-in-Order c = rw c.in-Order.is (λ p first second is. order_shows p first second c.args.pair is c.ends_from-ends.result c.ends_from-ends.ensures.value _ c.order_of.result c.order_of.ensures c.order_line.ensures)
