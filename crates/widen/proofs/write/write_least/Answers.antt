use Rattle.std.proofs.Common.{◌∙◌}
use Rattle.ports.proofs.Writing.{writes_as, writes_then, writes_front, writes_failed}
use Rattle.problem_model.specs.Nodes.{nodes_of}
use Rattle.problem_model.specs.ExecutionText.{value_lines}
use Rattle.problem.specs.Listing.{all_readings}
use Rattle.widen.specs.WideningText.{cycle_lines}
use Rattle.widen.proofs.write.write_least.Goals as goal

pub returns-in_err-write_whole : goal.returns-in_err-write_whole
returns-in_err-write_whole g c =
    let p = c.args.p.now in
    let times = value_lines p (nodes_of p (all_readings p.events)) c.args.execution.now in
    writes_failed c.from_residual.ensures.0
    (writes_front (cycle_lines p c.args.cycle.now) (writes_front times (writes_as (c.as_slice.ensures.value ∙ c.least_line-line.ensures) c.in_err-write_whole.ensures)))

pub returns-in_err-write_values : goal.returns-in_err-write_values
returns-in_err-write_values g c =
    writes_failed c.from_residual-in_err-write_values.ensures.0
    (writes_front (cycle_lines c.args.p.now c.args.cycle.now) (writes_then (writes_as (c.as_slice.ensures.value ∙ c.least_line-line.ensures) c.in_ok-write_whole.ensures) c.in_err-write_values.ensures))

pub returns : goal.returns
returns g c =
    writes_then (writes_then (writes_as (c.as_slice.ensures.value ∙ c.least_line-line.ensures) c.in_ok-write_whole.ensures) c.in_ok-write_values.ensures) c.write_below.ensures
