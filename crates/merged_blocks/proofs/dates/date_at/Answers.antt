use Rattle.std.proofs.Common.{rules}
use Rattle.std.proofs.lemmas.Int.{to_z-of_z}
use mir.Syntax.{w128}
use mir.Val.{SFits}
use Rattle.merged_blocks.proofs.Stamping.{at_date, at_none}
use Rattle.merged_blocks.proofs.dates.date_at.Goals as goal

pub returns-clause-some : goal.returns-clause-some
returns-clause-some c =
    let date : SFits w128 c.args.start.date = search rules in
    let value : SFits w128 c.args.value = search rules in
    let time : SFits w128 c.args.start.time = search rules in
    let gone : SFits w128 c.passed.result = search rules in
    at_date c.args.start.date c.args.value c.args.start.time c.passed.result _ (simp to_z-of_z at c.passed.ensures) (simp to_z-of_z at c.checked_add.ensures)

pub returns-clause-none : goal.returns-clause-none
returns-clause-none c =
    let date : SFits w128 c.args.start.date = search rules in
    let value : SFits w128 c.args.value = search rules in
    let time : SFits w128 c.args.start.time = search rules in
    let gone : SFits w128 c.passed.result = search rules in
    at_none c.args.start.date c.args.value c.args.start.time c.passed.result _ (simp to_z-of_z at c.passed.ensures) (simp to_z-of_z at c.checked_add.ensures)
