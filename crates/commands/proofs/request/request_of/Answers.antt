use Rattle.std.proofs.Common.{◌≡◌, ◌∙◌, true, false, codes, sym}
use Rattle.std.specs.Str.{bytes_eq}
use Rattle.commands.proofs.Requests.{few, by_thin}
use Rattle.commands.proofs.request.request_of.Goals as goal

pub returns-then-is_thin : goal.returns-then-is_thin
returns-then-is_thin c = c.asked_of_thin.ensures ∙ by_thin c.args.words.now c.word.result.now c.word.ensures (sym c.is_thin.ensures ∙ c.if-is_thin.true)

pub returns-else-is_thin : goal.returns-else-is_thin
returns-else-is_thin c = c.asked_of_few.ensures ∙ few c.args.words.now c.word.result.now c.word.ensures (sym c.is_thin.ensures ∙ c.if-is_thin.false)
