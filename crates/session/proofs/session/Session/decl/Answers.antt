use Rattle.std.proofs.Common.{◌∙◌, ap}
use Rattle.session.specs.Stands.{Held}
use Rattle.session.proofs.session.Session.decl.Goals as goal

pub returns : goal.returns
returns c = c.decl_of.ensures.same ∙ ap (λ (h : Held). h.declaration) c.self.view_is
