use Rattle.std.proofs.Common.{Some, ◌∙◌}
use Rattle.ports.proofs.Writing.{writes_as, writes_then, writes_front, writes_failed}
use Rattle.widen.specs.WideningText.{cycle_lines}
use Rattle.widen.proofs.write.write_never.Goals as goal

pub returns-in_err-write_whole : goal.returns-in_err-write_whole
returns-in_err-write_whole g c =
    writes_failed c.from_residual.ensures.0 (writes_front (cycle_lines c.args.p.now (Some c.args.cycle.now)) (writes_as (c.as_slice.ensures.value ∙ c.never_line-line.ensures) c.in_err-write_whole.ensures))

pub returns : goal.returns
returns g c = writes_then (writes_as (c.as_slice.ensures.value ∙ c.never_line-line.ensures) c.in_ok-write_whole.ensures) c.write_cycle.ensures
