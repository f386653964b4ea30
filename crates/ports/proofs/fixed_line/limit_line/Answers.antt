use Rattle.std.proofs.Common.{◌∷◌, [], ◌++◌, ◌∙◌, ap, ℕ, List}
use Rattle.std.proofs.lemmas.Int.{to_z-of_z}
use mir.Syntax.{w128}
use mir.Val.{SFits}
use Rattle.ports.proofs.fixed_line.limit_line.Goals as goal

pub returns : goal.returns
returns c =
    let fits : SFits w128 c.args.value = c.ranges.value in
    let value = simp to_z-of_z at (c.push_ns.ensures.appended c.args.part.now [] c.first_word-line.ensures) in
    c.push.ensures.items ∙ ap (λ (l : List ℕ). l ++ 10 ∷ []) value
