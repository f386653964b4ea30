use Rattle.std.proofs.Common.{◌∙◌, List, length, map, ap, sym}
use Rattle.std.proofs.lemmas.List.{length-map}
use Rattle.traces.specs.declared.accepted.Accepted.{Accepted}
use Rattle.session.specs.Stands.{Held, under_of}
use Rattle.session.proofs.session.Session.under.Goals as goal

pub returns-clause-held : goal.returns-clause-held
returns-clause-held c = ap (λ (l : List Accepted). map under_of l) c.deref.ensures.value ∙ ap (λ (h : Held). h.under) c.self.view_is

pub returns-clause-each : goal.returns-clause-each
returns-clause-each c =
    ap (λ (l : List Accepted). length l) c.deref.ensures.value
    ∙ sym (length-map c.self.inside.accepted.items under_of)
    ∙ c.self.invariant.0.each
    ∙ ap (λ (h : Held). length h.declaration.labels) c.self.view_is
