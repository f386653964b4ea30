use Rattle.std.proofs.Common.{◌≡◌, List, ap, ◌∙◌}
use Rattle.std.specs.Prelude.{is_some}
use Rattle.std.specs.List.{list_any}
use Rattle.msg_match.specs.declared.change.Couple.{Couple}
use Rattle.msg_match.specs.Parts.{is_same_couple}
use Rattle.msg_match.proofs.Placing.{placed}
use Rattle.msg_match.proofs.couples.Couples.has.Goals as goal

pub returns : goal.returns
returns c =
    let m = c.args.couple.now in
    let same : c.self.inside.places ≡ c.args.self.now = c.self.invariant ∙ c.self.view_is in
    c.is_some.ensures ∙ ap is_some c.place.ensures.place ∙ placed (is_same_couple m) c.self.inside.places ∙ ap (λ (l : List Couple). list_any (is_same_couple m) l) same
