use Rattle.std.proofs.Common.{◌++◌, ◌∙◌, ap, ℕ, List}
use Rattle.report.specs.KeyTexts.{dotted}
use Rattle.ports.proofs.Composing.{words_more}
use Rattle.report.proofs.fragments.push_address.Goals as goal

pub returns : goal.returns
returns c = λ first ws is.
    c.in_ok-push_dotted.ensures ∙ ap (λ (l : List ℕ). l ++ dotted c.args.address) c.in_ok-push.ensures.items ∙ words_more first ws (dotted c.args.address) c.args.text.now.items is
