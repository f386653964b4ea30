use Rattle.std.proofs.Common.{◌++◌, ◌∙◌, ap, ℕ, List}
use Rattle.report.specs.KeyTexts.{wide_endpoint}
use Rattle.ports.proofs.Composing.{words_more}
use Rattle.report.proofs.texts.push_wide_end.Goals as goal

pub returns : goal.returns
returns c = λ first ws is.
    c.in_ok-push_wide_endpoint.ensures ∙ ap (λ (l : List ℕ). l ++ wide_endpoint c.args.address c.args.port) c.in_ok-push.ensures.items ∙ words_more first ws (wide_endpoint c.args.address c.args.port) c.args.text.now.items is
