use Rattle.std.proofs.Common.{◌∷◌, [], ◌++◌, ◌∙◌, ap, ℕ, List}
use Rattle.std.specs.Prelude.{codes}
use Rattle.atto.specs.Decimal.{decimal_of}
use Rattle.line_format.specs.Words.{words}
use Rattle.replies.specs.Reply.{passed_words}
use Rattle.replies.proofs.outcome.added_line.Goals as goal

pub returns : goal.returns
returns c =
    let events = codes "events" ∷ decimal_of c.args.added.events ∷ [] in
    let messages = events ++ codes "messages" ∷ decimal_of c.args.added.messages ∷ [] in
    let withdrawn = messages ++ codes "withdrawn" ∷ decimal_of c.args.added.withdrawn ∷ [] in
    let pending = withdrawn ++ codes "pending" ∷ decimal_of c.args.added.aside.pending ∷ [] in
    let passed = pending ++ passed_words c.args.added.aside.passed in
    let one = c.push_count.ensures.appended (codes "added") [] c.first_word-line.ensures in
    let two = c.push_count-2.ensures.appended (codes "added") events one in
    let three = c.push_count-3.ensures.appended (codes "added") messages two in
    let four = c.push_count-4.ensures.appended (codes "added") withdrawn three in
    let five = c.push_passed.ensures.appended (codes "added") pending four in
    let six = c.push_word.ensures.appended (codes "added") passed five in
    c.push.ensures.items ∙ ap (λ (l : List ℕ). l ++ 10 ∷ []) (six ∙ ap (λ (w : List ℕ). words (codes "added" ∷ passed ++ w ∷ [])) c.state_word.ensures.word)
