use Rattle.std.proofs.Common.{◌∙◌}
use Rattle.ports.proofs.Writing.{writes_as, writes_failed, writes_front, writes_then}
use Rattle.replies.proofs.lines.write_ordered.Goals as goal

pub returns-in_err-write_whole : goal.returns-in_err-write_whole
returns-in_err-write_whole g c =
    writes_failed c.from_residual.ensures.0 (writes_front _ (writes_as (c.as_slice.ensures.value ∙ c.count_line-line.ensures) c.in_err-write_whole.ensures))

pub returns : goal.returns
returns g c = writes_then (writes_as (c.as_slice.ensures.value ∙ c.count_line-line.ensures) c.in_ok-write_whole.ensures) c.write_lines.ensures
