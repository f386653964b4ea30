use Rattle.std.proofs.Common.{◌++◌, ◌∙◌, ap, ℕ, List}
use Rattle.report.specs.KeyTexts.{endpoint}
use Rattle.ports.proofs.Composing.{words_more}
use Rattle.report.proofs.texts.push_end.Goals as goal

pub returns : goal.returns
returns c = λ first ws is.
    c.in_ok-push_endpoint.ensures ∙ ap (λ (l : List ℕ). l ++ endpoint c.args.address c.args.port) c.in_ok-push.ensures.items ∙ words_more first ws (endpoint c.args.address c.args.port) c.args.text.now.items is
