use Rattle.std.proofs.Common.{◌++◌, ◌∷◌, [], ◌∙◌, sym, ap, ℕ, Option}
use Rattle.atto.specs.Decimal.{decimal_of}
use Rattle.line_format.specs.Words.{words}
use Rattle.widen.specs.Blame.{healing_words}
use Rattle.widen.proofs.Blaming.{healing_is}
use Rattle.widen.proofs.blame.push_healing.Goals as goal

pub returns-in-Some-clause-appended : goal.returns-in-Some-clause-appended
returns-in-Some-clause-appended c = λ first ws is.
    let w = c.args.what in
    c.push_word.ensures.appended first (ws ++ decimal_of c.get.result ∷ []) (c.push_decimal.ensures.appended first ws is)
    ∙ healing_is first ws w c.get.result c.in-Some.extra c.unit_of.result.now c.get.ensures.value c.unit_of.ensures.word
    ∙ ap (λ (extra : Option ℕ). words (first ∷ ws ++ healing_words w extra)) (sym c.in-Some.is)

pub returns-in-None-clause-appended : goal.returns-in-None-clause-appended
returns-in-None-clause-appended c = λ first ws is.
    c.push_word-in-None.ensures.appended first ws is ∙ ap (λ (extra : Option ℕ). words (first ∷ ws ++ healing_words c.args.what extra)) (sym c.in-None.is)
