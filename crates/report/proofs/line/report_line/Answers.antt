use Rattle.std.proofs.Common.{◌∙◌}
use Rattle.report.specs.Report.{reported}
use Rattle.report.proofs.Text.{line_is}
use Rattle.report.proofs.line.report_line.Goals as goal

pub returns : goal.returns
returns c = c.in_ok-push.ensures.items ∙ line_is (reported c.args.v.now) _ _ c.in_ok-report_value.ensures c.in_ok-line.ensures.text
