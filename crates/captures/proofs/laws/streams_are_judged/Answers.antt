use Rattle.std.proofs.Common.{refl, inl, inr}
use Rattle.captures.specs.Capture.{of_format}
use Rattle.captures.proofs.Formats.{judged}
use Rattle.captures.proofs.laws.streams_are_judged.Goals as goal

pub returns : goal.returns
returns c = λ s.
    elim (judged s) [
      | inl read ↦ inl (of_format read.0, record { read = read.0; reads = read.1; says = refl })
      | inr refused ↦ inr refused
    ]
