use Rattle.std.proofs.Common.{◌<◌, ◌∷◌, [], ◌++◌, ◌∙◌, ap, ℕ, List, length, arith}
use Rattle.std.proofs.lemmas.Int.{to_z-of_z}
use Rattle.ports.proofs.Writing.{writes_as}
use Rattle.report.proofs.MergeLines.{with_text}
use mir.Syntax.{w128}
use mir.Val.{SFits}
use Rattle.report.proofs.merge.write_merge_line.Goals as goal

pub returns : goal.returns
returns g c =
    let fits : SFits w128 c.args.value = c.ranges.value in
    let words = simp to_z-of_z at c.merge_head-line.ensures.words in
    let text = c.args.text.now in
    let some : 0 < length text = grind (arith, c.is_empty.ensures, c.if-is_empty.false) in
    let whole = ap (λ (l : List ℕ). (l ++ text) ++ 10 ∷ []) (c.as_slice-2.ensures.value ∙ c.push-2.ensures.items)
    ∙ with_text c.args.value c.args.name.now c.merge_head-line.result.items text words some in
    writes_as whole c.write_text.ensures
