use Rattle.std.proofs.Common.{◌≡◌, ◌∙◌, ℕ, List, ap, subst}
use Rattle.intervals.specs.declared.ends.Ends.{Ends}
use Rattle.intervals.specs.Ends.{ends_of}
use Rattle.intervals.specs.Orders.{IsOrder}
use Rattle.problem_commands.specs.Printing.{Closes}
use Rattle.problem_commands.specs.Intervals.{interval_line}
use Rattle.problem_commands.specs.declared.status.Status.TheVariants.{Done}
use Rattle.problem_commands.proofs.Intervals.{answered}
use Rattle.problem_commands.proofs.ends.answer.Goals as goal

pub returns : goal.returns
returns g c = λ p from to is.
    let order = c.order_of-order.result in
    let ends : c.ends_from-ends.result ≡ ends_of c.args.pair = c.ends_from-ends.ensures.value in
    let ordered : IsOrder (ends_of c.args.pair) order = subst (λ (e : Ends). IsOrder e order) ends c.order_of-order.ensures in
    let line : c.as_slice.result.now ≡ interval_line (ends_of c.args.pair) order = c.as_slice.ensures.value ∙ c.interval_line.ensures ∙ ap (λ (e : Ends). interval_line e order) ends in
    answered p from to c.args.pair is order ordered _ _ c.finish.result
    (subst (λ (l : List ℕ). Closes l Done (g.O.Sink.told c.args.out.now) (g.O.Sink.told c.finish.new.out) c.finish.result) line c.finish.ensures)
