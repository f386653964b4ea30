use Rattle.std.proofs.Common.{◌≡◌, List, sym, ap, ◌∙◌}
use Rattle.std.specs.List.{position}
use Rattle.msg_match.specs.declared.change.Couple.{Couple}
use Rattle.msg_match.specs.Parts.{is_same_couple, noted}
use Rattle.msg_match.proofs.Coupling.{comes, stays}
use Rattle.msg_match.proofs.TableLemmas.{then_ok}
use Rattle.msg_match.proofs.couples.Couples.note.Goals as goal

pub returns-in-Some-place : goal.returns-in-Some-place
returns-in-Some-place c =
    let m = c.in-Some.couple in
    let same : c.self.inside.places ≡ c.args.self.now = c.self.invariant ∙ c.self.view_is in
    stays c.args.self.now c.args.couple m c.in-Some-place.field-0 c.in-Some.is (ap (λ (l : List Couple). position (is_same_couple m) l) (sym same) ∙ sym c.place.ensures.place ∙ c.in-Some-place.is)

pub returns-in-None-place : goal.returns-in-None-place
returns-in-None-place c =
    let m = c.in-Some.couple in
    let same : c.self.inside.places ≡ c.args.self.now = c.self.invariant ∙ c.self.view_is in
    then_ok c.push.result (c.push.new.self ≡ noted c.args.self.now c.args.couple) c.push.ensures
    (λ is. is ∙ comes c.args.self.now c.args.couple m c.in-Some.is (ap (λ (l : List Couple). position (is_same_couple m) l) (sym same) ∙ sym c.place.ensures.place ∙ c.in-None-place.is))
