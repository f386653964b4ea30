use Rattle.std.proofs.Common.{codes}
use Rattle.std.proofs.lemmas.List.Elements.{All-tail}
use Rattle.replies.specs.Commands.{IsWord, spaced}
use Rattle.replies.proofs.command.thin_behind.Goals as goal

pub returns-in-None : goal.returns-in-None
returns-in-None c = λ command all same. c.in-None.ensures.none (All-tail IsWord (codes "thin") (spaced c.args.text.now) all)
