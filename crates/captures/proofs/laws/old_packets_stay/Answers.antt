use Rattle.std.proofs.Common.{◌++◌, sym, ◌∙◌, ap}
use Rattle.captures.specs.Capture.{Capture}
use Rattle.captures.proofs.Formats.{packets_stay}
use Rattle.captures.proofs.laws.old_packets_stay.Goals as goal

pub returns : goal.returns
returns c = λ s t a b x y.
    let more = packets_stay s t x.read y.read x.reads y.reads in
    (more.0, ap (λ (z : Capture). z.packets) y.says ∙ more.1 ∙ ap (λ (z : Capture). z.packets ++ more.0) (sym x.says))
