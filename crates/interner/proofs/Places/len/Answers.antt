use Rattle.std.proofs.Common.{length, sym, ◌∙◌, ap}
use Rattle.interner.proofs.Numbering.{length-by_number}
use Rattle.interner.proofs.Places.len.Goals as goal

pub returns : goal.returns
returns g c = c.len.ensures.len ∙ sym (length-by_number c.self.inside.numbers.entries c.self.invariant.0) ∙ ap length c.self.view_is
