use Rattle.std.proofs.Common.{sym, ◌∙◌, ap}
use Rattle.captures.specs.Capture.{of_format}
use Rattle.captures.proofs.Formats.{captures_one}
use Rattle.captures.proofs.laws.captures_are_one.Goals as goal

pub returns : goal.returns
returns c = λ s a b x y. x.says ∙ ap of_format (captures_one s x.read y.read x.reads y.reads) ∙ sym y.says
