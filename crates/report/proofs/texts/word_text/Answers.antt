use Rattle.std.proofs.Common.{◌∷◌, [], ◌∙◌, sym, subst, ap, ℕ, List}
use Rattle.std.specs.Prelude.{codes}
use Rattle.std.specs.Str.{IsAscii}
use Rattle.line_format.specs.Words.{words}
use Rattle.report.proofs.AsciiKeys.{ascii_log}
use Rattle.report.proofs.texts.word_text.Goals as goal

pub returns-clause-text : goal.returns-clause-text
returns-clause-text c =
    c.in_ok-push_word.ensures (codes "log") [] c.in_ok-text.ensures.items ∙ ap (λ (w : List ℕ). words (codes "log" ∷ w ∷ [])) c.bytes.ensures.value

pub returns-clause-ascii : goal.returns-clause-ascii
returns-clause-ascii c = subst IsAscii (sym (returns-clause-text c)) (ascii_log c.args.word.now c.bytes.ensures.key)
