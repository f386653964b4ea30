use Rattle.std.proofs.Common.{◌∙◌, ap}
use Rattle.ports.proofs.Writing.{writes_as, writes_failed, writes_front, writes_then}
use Rattle.session_answers.specs.TimesTexts.{times_head}
use Rattle.session_answers.proofs.times_lines.write_times.Goals as goal

pub returns-in_err-write_whole : goal.returns-in_err-write_whole
returns-in_err-write_whole g c =
    let head = c.as_slice.ensures.value ∙ c.head_line-head.ensures ∙ ap times_head c.event_count.ensures in
    writes_failed c.from_residual.ensures.0 (writes_front _ (writes_as head c.in_err-write_whole.ensures))

pub returns : goal.returns
returns g c =
    let head = c.as_slice.ensures.value ∙ c.head_line-head.ensures ∙ ap times_head c.event_count.ensures in
    writes_then (writes_as head c.in_ok-write_whole.ensures) c.write_lines.ensures
