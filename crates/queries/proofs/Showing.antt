-- The line of a pair shows what is asked.
use Rattle.std.proofs.Common.{◌≡◌, ◌∷◌, [], ℕ, List, subst, codes}
use Rattle.line_format.specs.Words.{line_of}
use Rattle.problem_model.specs.declared.items.Node.TheVariants as nodes
use Rattle.problem_model.specs.Problem.{ProblemLists}
use Rattle.row_pool.specs.declared.cell.Pair.{Pair}
use Rattle.intervals.specs.declared.ends.Ends.{Ends}
use Rattle.intervals.specs.declared.order.Order.{Order}
use Rattle.intervals.specs.Ends.{ends_of}
use Rattle.intervals.specs.Orders.{IsOrder}
use Rattle.intervals.specs.Executions.{IsPairOf}
use Rattle.intervals.proofs.NodeOrders.{orders}
use Rattle.intervals.proofs.Times.{ends_are}
use Rattle.queries.specs.Words.{end_word, order_word}
use Rattle.queries.specs.Replies.{IsIntervalLine, IsOrderLine}

module _ (p : ProblemLists) (first second : ℕ) (pair : Pair) (is : IsPairOf p (nodes.Event first) (nodes.Event second) pair) (ends : Ends) (ends_is : ends ≡ ends_of pair) (text : List ℕ) where
  pub interval_shows : text ≡ line_of (codes "interval" ∷ end_word (codes "-inf") ends.least ∷ end_word (codes "+inf") ends.greatest ∷ []) → IsIntervalLine p first second text
  interval_shows line = (ends, rw ends_is (ends_are p (nodes.Event first) (nodes.Event second) pair is), line)

  pub order_shows : (order : Order) → IsOrder ends order → text ≡ line_of (codes "order" ∷ order_word order ∷ []) → IsOrderLine p first second text
  order_shows order ordered line =
      let ordered' : IsOrder (ends_of pair) order = subst (λ (e : Ends). IsOrder e order) ends_is ordered in
      (order, (orders p (nodes.Event first) (nodes.Event second) pair is order).0 ordered', line)
