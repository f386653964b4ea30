use Rattle.std.proofs.Common.{◌≡◌, ◌∙◌, refl, codes, rules}
use Rattle.std.proofs.lemmas.Int.{to_z-of_z}
use mir.Syntax.{w128}
use mir.Val.{SFits}
use Rattle.problem_model.specs.BoundText.{broken_line}
use Rattle.problem_commands.specs.Printing.{IsOnlyText}
use Rattle.problem_commands.specs.declared.status.Status.TheVariants.{Done, No}
use Rattle.problem_commands.proofs.Printing.{closes_prints, line_prints}
use Rattle.problem_commands.proofs.obey.answer.Goals as goal

pub returns-in-Obeys : goal.returns-in-Obeys
returns-in-Obeys g c =
    rw c.in-Obeys.is (closes_prints (IsOnlyText (codes "obeys\n") Done) (codes "obeys\n") Done c.finish.result (g.O.Sink.told c.args.out.now) (g.O.Sink.told c.finish.new.out) (refl, refl) c.finish.ensures)

pub returns-in-Broken : goal.returns-in-Broken
returns-in-Broken g c =
    let line = broken_line c.args.p.now c.in-Broken.bound c.in-Broken.weight c.in-Broken.difference in
    let weight_fits : SFits w128 c.in-Broken.weight = search rules in
    let difference_fits : SFits w128 c.in-Broken.difference = search rules in
    let composed : c.broken_line.result.items ≡ line = simp to_z-of_z at c.broken_line.ensures in
    rw c.in-Broken.is (line_prints (IsOnlyText line No) line c.as_slice.result.now No c.finish-in-Broken.result (g.O.Sink.told c.args.out.now) (g.O.Sink.told c.finish-in-Broken.new.out)
    (c.as_slice.ensures.value ∙ composed) (refl, refl) c.finish-in-Broken.ensures)
