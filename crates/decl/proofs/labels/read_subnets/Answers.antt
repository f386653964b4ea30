use Rattle.std.proofs.Common.{◌≡◌, length, rules, sym, ◌∙◌}
use Rattle.std.proofs.lemmas.Result.{IfOk-weaker}
use Rattle.toml.specs.View.{items_view, table_view}
use Rattle.decl.proofs.SubnetTurns.{side_early, side_late}
use Rattle.decl.proofs.labels.read_subnets.Goals as goal

pub returns-in-Some-clause-cause : goal.returns-in-Some-clause-cause
returns-in-Some-clause-cause c =
    let from : c.len-from.result ≡ length c.args.subnets.now.items = search rules in
    side_early (table_view c.args.table.now) c.args.subnets.now.items c.len-from.result (items_view c.items_or_none-near.result.now) (items_view c.items_or_none-near6.result.now) from c.items_or_none-near.ensures c.items_or_none-near6.ensures
    c.in-Some.cause (sym c.in-Some.is ∙ c.in_ok-cause.ensures.cause)

pub returns-clause-cause : goal.returns-clause-cause
returns-clause-cause c =
    let from : c.len-from.result ≡ length c.args.subnets.now.items = search rules in
    IfOk-weaker c.add_side-2.result _ _
    (λ cause e. side_late (table_view c.args.table.now) c.args.subnets.now.items c.len-from.result (items_view c.items_or_none-near.result.now) (items_view c.items_or_none-near6.result.now) from c.items_or_none-near.ensures c.items_or_none-near6.ensures
    (items_view c.items_or_none-beyond.result.now) (items_view c.items_or_none-beyond6.result.now) c.add_side.new.subnets.items cause c.items_or_none-beyond.ensures c.items_or_none-beyond6.ensures
    (sym c.in_default.is ∙ c.in_ok-cause.ensures.cause) (c.in_ok-cause.ensures.added c.in_default.is) e)
    c.add_side-2.ensures.cause
