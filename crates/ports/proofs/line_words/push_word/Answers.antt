use Rattle.std.proofs.Common.{◌++◌, ◌∙◌, ap, ℕ, List}
use Rattle.ports.proofs.Composing.{words_more}
use Rattle.ports.proofs.line_words.push_word.Goals as goal

pub returns : goal.returns
returns c = λ first ws is.
    c.in_ok-extend_from_slice.ensures.items ∙ ap (λ (l : List ℕ). l ++ c.args.word.now) c.in_ok-push.ensures.items ∙ words_more first ws c.args.word.now c.args.line.now.items is
