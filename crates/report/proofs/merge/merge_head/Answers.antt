use Rattle.std.proofs.Common.{◌∷◌, [], ◌∙◌, ap, ℕ, List, length, arith}
use Rattle.std.proofs.lemmas.Int.{to_z-of_z}
use Rattle.atto.specs.NsText.{ns_text}
use Rattle.line_format.specs.Words.{words}
use mir.Syntax.{w128}
use mir.Val.{SFits}
use Rattle.report.proofs.merge.merge_head.Goals as goal

pub push_word-requires-clause-short : goal.push_word-requires-clause-short
push_word-requires-clause-short c = omega (arith, c.bytes.ensures.named.short, ap length c.bytes.ensures.value)

pub returns-clause-words : goal.returns-clause-words
returns-clause-words c =
    let fits : SFits w128 c.args.value = c.ranges.value in
    let text = simp to_z-of_z at c.write_ns.ensures in
    let first = c.first_word-line.ensures ∙ c.as_slice.ensures.value ∙ text in
    c.push_word.ensures.appended (ns_text c.args.value) [] first ∙ ap (λ (w : List ℕ). words (ns_text c.args.value ∷ w ∷ [])) c.bytes.ensures.value
