use Rattle.std.proofs.Common.{◌∙◌, sym}
use Rattle.report.proofs.Text.{none_put, some_put}
use Rattle.report.proofs.values.put_passed.Goals as goal

pub returns-then-passes_none : goal.returns-then-passes_none
returns-then-passes_none c = none_put c.args.passed.now _ (sym c.passes_none.ensures ∙ c.if-passes_none.true)

pub returns : goal.returns
returns c = some_put c.put.result _ c.args.passed.now _ _ (sym c.passes_none.ensures ∙ c.if-passes_none.false) c.in_ok-passed_value.ensures c.put.ensures.ok
