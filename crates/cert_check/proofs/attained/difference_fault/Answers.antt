use Rattle.std.proofs.Common.{◌≡◌, ◌≢◌, ◌∙◌, sym, arith, rules}
use Rattle.std.specs.Prelude.{◌-ℤ◌}
use Rattle.std.proofs.lemmas.Int.{ints, to_z-of_z}
use mir.Syntax.{w128}
use mir.Val.{SFits}
use Rattle.problem_model.specs.declared.items.Node.TheVariants as nodes
use Rattle.problem_model.proofs.OneList.{listed}
use Rattle.cert_check.specs.Verdict.{AreTimes}
use Rattle.cert_check.proofs.Agreeing.{difference_first}
use Rattle.cert_check.proofs.attained.difference_fault.Goals as goal

pub returns-then-difference-get-clause-found : goal.returns-then-difference-get-clause-found
returns-then-difference-get-clause-found c = λ part x lists.
    let times : AreTimes c.args.p.now x lists.0 c.args.execution.now = record { are_readings = lists.1; listed = lists.2 } in
    let from : x (nodes.Event c.args.first) ≡ c.event_time-from.result = c.event_time-from.ensures x lists.0 times in
    let to : x (nodes.Event c.args.second) ≡ c.event_time-to.result = c.event_time-to.ensures x lists.0 times in
    let is : c.difference-difference.result ≡ c.event_time-to.result -ℤ c.event_time-from.result = c.difference-difference.ensures.exact in
    let same : c.difference-difference.result ≡ c.get.result = search rules in
    let value : c.get.result ≡ c.args.value = c.get.ensures.value in
    omega (arith, ints)

pub returns-else-difference-get-clause-found : goal.returns-else-difference-get-clause-found
returns-else-difference-get-clause-found c = λ part.
    let some = listed c.args.p.now c.requires.each.0 c.args.execution.now c.requires.each.1 c.requires.each.2 in
    let x = some.0 in
    let lists = some.1 in
    let times : AreTimes c.args.p.now x lists.0 c.args.execution.now = record { are_readings = lists.1; listed = lists.2 } in
    let from : x (nodes.Event c.args.first) ≡ c.event_time-from.result = c.event_time-from.ensures x lists.0 times in
    let to : x (nodes.Event c.args.second) ≡ c.event_time-to.result = c.event_time-to.ensures x lists.0 times in
    let is : c.difference-difference.result ≡ c.event_time-to.result -ℤ c.event_time-from.result = c.difference-difference.ensures.exact in
    let has : c.difference-difference.result ≡ x (nodes.Event c.args.second) -ℤ x (nodes.Event c.args.first) = omega (arith, ints) in
    let apart : c.difference-difference.result ≢ c.get.result = search rules in
    let value : c.get.result ≡ c.args.value = c.get.ensures.value in
    let fits : SFits w128 c.difference-difference.result = search rules in
    simp to_z-of_z (difference_first c.args.p.now part c.args.first c.args.second c.args.value c.args.execution.now c.difference-difference.result (x, lists, has) (λ e. apart (e ∙ sym value)))
