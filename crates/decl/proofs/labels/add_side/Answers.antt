use Rattle.std.proofs.Common.{sym, ◌∙◌}
use Rattle.std.proofs.lemmas.Result.{IfOk-weaker}
use Rattle.toml.specs.View.{items_view}
use Rattle.decl.specs.Subnets.{given_by}
use Rattle.decl.specs.declared.items.IpVersion.TheVariants.{V4, V6}
use Rattle.decl.proofs.SubnetTurns.{cause_early, cause_late}
use Rattle.decl.proofs.labels.add_side.Goals as goal

pub returns-in-Some-clause-cause : goal.returns-in-Some-clause-cause
returns-in-Some-clause-cause c =
    cause_early _ (given_by V4 c.args.beyond (items_view c.args.narrow.now)) (given_by V6 c.args.beyond (items_view c.args.wide.now)) c.in-Some.cause (sym c.in-Some.is ∙ c.in_ok-cause.ensures.cause)

pub returns-clause-cause : goal.returns-clause-cause
returns-clause-cause c =
    let none = sym c.in_default.is ∙ c.in_ok-cause.ensures.cause in
    let added = c.in_ok-cause.ensures.added c.in_default.is in
    IfOk-weaker c.add_subnets-2.result _ _
    (λ cause e. cause_late c.args.from c.args.subnets.now.items c.add_subnets.new.subnets.items (given_by V4 c.args.beyond (items_view c.args.narrow.now)) (given_by V6 c.args.beyond (items_view c.args.wide.now)) cause c.requires none added e)
    c.add_subnets-2.ensures.cause
