use Rattle.std.proofs.Common.{◌++◌, ◌∷◌, [], ◌∙◌, ap, ℕ, List}
use Rattle.report.specs.KeyTexts.{payload_word}
use Rattle.ports.proofs.Composing.{two_more, words_more}
use Rattle.report.proofs.texts.push_bytes.Goals as goal

pub returns-clause-text : goal.returns-clause-text
returns-clause-text c = λ first ws is.
    let name = c.in_ok-push_word.ensures first ws is in
    two_more first ws c.args.name.now (payload_word c.args.bytes.now) _
    (c.in_ok-push_payload.ensures.text ∙ ap (λ (l : List ℕ). l ++ payload_word c.args.bytes.now) c.in_ok-push.ensures.items ∙ words_more first (ws ++ c.args.name.now ∷ []) (payload_word c.args.bytes.now) _ name)
