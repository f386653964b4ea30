use Rattle.std.proofs.Common.{◌≡◌, length, ◌∙◌, sym, ap, rules}
use Rattle.commands.specs.Asked.{asked_few}
use Rattle.commands.proofs.Requests.{four, three}
use Rattle.commands.proofs.request.asked_of_few.Goals as goal

pub returns-in-3 : goal.returns-in-3
returns-in-3 c =
    let count : length c.args.words.now ≡ 3 = search rules in
    c.asked_of_two.ensures ∙ ap asked_few (sym (three c.args.words.now _ _ _ count c.word-in-3.ensures c.word-in-3-2.ensures c.word-in-3-3.ensures))

pub returns-in-4 : goal.returns-in-4
returns-in-4 c =
    let count : length c.args.words.now ≡ 4 = search rules in
    c.asked_of_three.ensures ∙ ap asked_few (sym (four c.args.words.now _ _ _ _ count c.word-in-4.ensures c.word-in-4-2.ensures c.word-in-4-3.ensures c.word-in-4-4.ensures))
