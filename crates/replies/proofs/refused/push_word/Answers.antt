use Rattle.std.proofs.Common.{◌++◌, ◌∙◌, ap, ℕ, List}
use Rattle.ports.proofs.Composing.{words_more}
use Rattle.replies.proofs.refused.push_word.Goals as goal

pub returns-clause-appended : goal.returns-clause-appended
returns-clause-appended c = λ first ws is.
    c.push_bytes.ensures ∙ ap (λ (l : List ℕ). l ++ c.args.word.now) c.push.ensures.items ∙ words_more first ws c.args.word.now c.args.text.now.items is
