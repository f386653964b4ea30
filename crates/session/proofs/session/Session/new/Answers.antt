use Rattle.std.proofs.Common.{◌∙◌, List, map, ap, subst}
use Rattle.decl.specs.declared.items.Label.{Label}
use Rattle.decl.specs.Declaration.{Declaration}
use Rattle.session.specs.Stands.{under_of}
use Rattle.session.specs.Inside.{AreEmpty}
use Rattle.session.proofs.Opening.{whole_start}
use Rattle.session.proofs.Starting.{starts}
use Rattle.session_answers.specs.Ready.{declared}
use Rattle.session.proofs.session.Session.new.Goals as goal

pub invariant_of-result : goal.invariant_of-result
invariant_of-result c =
    let a = c.in_ok-answers.answers in
    let accepted = c.in_ok-accepted.accepted.items in
    let empty : AreEmpty (map under_of accepted) (declared a).labels =
    subst (λ (labels : List Label). AreEmpty (map under_of accepted) labels) (c.deref.ensures.value ∙ ap (λ (d : Declaration). d.labels) c.decl_of.ensures.same) c.in_ok-accepted.ensures in
    whole_start accepted c.new.result.items a empty c.in_ok-answers.ensures.ready c.new.ensures.items

pub returns-clause-stands : goal.returns-clause-stands
returns-clause-stands c =
    let accepted = c.in_ok-accepted.accepted.items in
    let empty = subst (λ (labels : List Label). AreEmpty (map under_of accepted) labels) (c.deref.ensures.value ∙ ap (λ (d : Declaration). d.labels) (c.decl_of.ensures.same ∙ c.in_ok-answers.ensures.declaration)) c.in_ok-accepted.ensures in
    starts c.nothing_reads.ensures c.new_stands.ensures _ _ c.in_ok-answers.ensures.declaration empty c.new.ensures.items

pub returns-clause-current : goal.returns-clause-current
returns-clause-current c =
    let a = c.in_ok-answers.answers in
    let accepted = c.in_ok-accepted.accepted.items in
    let empty : AreEmpty (map under_of accepted) (declared a).labels =
    subst (λ (labels : List Label). AreEmpty (map under_of accepted) labels) (c.deref.ensures.value ∙ ap (λ (d : Declaration). d.labels) c.decl_of.ensures.same) c.in_ok-accepted.ensures in
    (whole_start accepted c.new.result.items a empty c.in_ok-answers.ensures.ready c.new.ensures.items).0.kept_up
