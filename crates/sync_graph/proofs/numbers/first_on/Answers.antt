use Rattle.std.proofs.Common.{ℕ}
use Rattle.std.specs.BTreeMap.Range.{IsLeBy}
use Rattle.sync_graph.specs.Keys.{key_cmp}
use Rattle.sync_graph.proofs.Nearest.{of_first, IsEntryOn, first_on_some, none_on}
use Rattle.sync_graph.proofs.numbers.first_on.Goals as goal

pub returns-in-Some : goal.returns-in-Some
returns-in-Some c =
    let index = c.args.index.now in
    let place = c.args.place in
    let key = c.in-Some.field-0-0.now in
    let number = c.in-Some.number.now in
    let part = c.range.ensures.in_range tt in
    first_on_some index place key number
    (of_first (IsEntryOn index place) c.range.result (key, number) _ c.in-Some.ensures.steps part.1)
    (λ q inside there. of_first (λ (e : (ℕ × ℕ) × ℕ). IsLeBy key_cmp e.0 q) c.range.result (key, number) _ c.in-Some.ensures.steps (part.2 q inside there))

pub returns-in-None : goal.returns-in-None
returns-in-None c = none_on c.args.index.now c.args.place ((c.range.ensures.in_range tt).5 c.in-None.ensures.steps.0)
