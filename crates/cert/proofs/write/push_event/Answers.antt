use Rattle.std.proofs.Common.{◌++◌, ◌∷◌, [], ◌∙◌, ap, ℕ, List, length, arith}
use Rattle.line_format.specs.Words.{words}
use Rattle.cert.proofs.Lines.{name_found}
use Rattle.cert.proofs.write.push_event.Goals as goal

pub push_word-requires-clause-short : goal.push_word-requires-clause-short
push_word-requires-clause-short g c = omega (arith, c.bytes.ensures.named.short, ap length c.bytes.ensures.value)

pub returns-clause-appended : goal.returns-clause-appended
returns-clause-appended g c = λ first ws is.
    c.push_word.ensures.appended first ws is ∙ ap (λ (w : List ℕ). words (first ∷ ws ++ w ∷ [])) (c.bytes.ensures.value ∙ name_found (g.N.Listing.listed c.args.names.now).event_names c.args.event _ c.event_name-name.ensures)
