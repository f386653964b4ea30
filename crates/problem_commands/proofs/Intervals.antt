-- The line of an interval shows what it should.
use Rattle.std.proofs.Common.{inl, ℕ, Option, Some, None, refl}
use Rattle.std.specs.Prelude.{IfNone}
use Rattle.ports.specs.Content.{SinkTold}
use Rattle.problem_model.specs.declared.items.Node.TheVariants as nodes
use Rattle.problem_model.specs.Problem.{ProblemLists}
use Rattle.row_pool.specs.declared.cell.Pair.{Pair}
use Rattle.intervals.specs.declared.order.Order.{Order}
use Rattle.intervals.specs.Ends.{ends_of}
use Rattle.intervals.specs.Orders.{IsOrder}
use Rattle.intervals.specs.Executions.{IsPairOf}
use Rattle.intervals.proofs.NodeOrders.{orders}
use Rattle.intervals.proofs.Times.{ends_are}
use Rattle.problem_commands.specs.Printing.{Closes, Prints}
use Rattle.problem_commands.specs.Intervals.{IsIntervalAndOrderLine, interval_line, TellsInterval}
use Rattle.problem_commands.specs.declared.status.Status.{Status}
use Rattle.problem_commands.specs.declared.status.Status.TheVariants as statuses
use Rattle.problem_commands.proofs.Printing.{closes_prints}

module _ (p : ProblemLists) (from to : ℕ) (pair : Pair) (is : IsPairOf p (nodes.Event from) (nodes.Event to) pair) (order : Order) (ordered : IsOrder (ends_of pair) order) where
  line_shows : IsIntervalAndOrderLine p from to (interval_line (ends_of pair) order)
  line_shows = (ends_of pair, order, ends_are p (nodes.Event from) (nodes.Event to) pair is, (orders p (nodes.Event from) (nodes.Event to) pair is order).0 ordered, refl)

  pub answered : (old new : SinkTold) (result : Status) → Closes (interval_line (ends_of pair) order) statuses.Done old new result → Prints (TellsInterval p from to) old new result
  answered old new result closes = closes_prints (TellsInterval p from to) (interval_line (ends_of pair) order) statuses.Done result old new (refl, inl line_shows) closes

-- what holds where there is none
pub where_none : {A : Type 0} (r : Option A) (P : Type 0) → P → IfNone r P
where_none None P p = p
where_none (Some a) P p = tt
