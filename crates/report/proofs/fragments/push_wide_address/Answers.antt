use Rattle.std.proofs.Common.{◌++◌, ◌∙◌, ap, ℕ, List}
use Rattle.report.specs.KeyTexts.{groups}
use Rattle.ports.proofs.Composing.{words_more}
use Rattle.report.proofs.fragments.push_wide_address.Goals as goal

pub returns : goal.returns
returns c = λ first ws is.
    c.in_ok-push_groups.ensures ∙ ap (λ (l : List ℕ). l ++ groups c.args.address) c.in_ok-push.ensures.items ∙ words_more first ws (groups c.args.address) c.args.text.now.items is
