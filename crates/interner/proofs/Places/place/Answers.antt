use Rattle.std.proofs.Common.{◌∙◌, sym}
use Rattle.interner.specs.Numbers.{by_number}
use Rattle.interner.proofs.Numbering.{place_by}
use Rattle.interner.proofs.Positions.{place_within}
use Rattle.interner.proofs.Places.place.Goals as goal

pub returns-in-Some-clause-place : goal.returns-in-Some-clause-place
returns-in-Some-clause-place g c =
    let is = place_by g.T.PartialEq.eq g.T.Ord.cmp g.met.T.Ord.total g.met.T.Ord.matches_eq c.self.inside.numbers c.self.invariant.0 c.self.invariant.1 c.args.value.now in
    rw (← c.self.view_is) (c.in-Some.ensures.value ∙ is)

pub returns-in-Some-clause-within : goal.returns-in-Some-clause-within
returns-in-Some-clause-within g c =
    let is = place_by g.T.PartialEq.eq g.T.Ord.cmp g.met.T.Ord.total g.met.T.Ord.matches_eq c.self.inside.numbers c.self.invariant.0 c.self.invariant.1 c.args.value.now in
    rw (← c.self.view_is) (place_within (g.T.PartialEq.eq c.args.value.now) (by_number c.self.inside.numbers.entries) c.in-Some.number.now (sym (c.in-Some.ensures.value ∙ is)))

pub returns-in-None-clause-place : goal.returns-in-None-clause-place
returns-in-None-clause-place g c =
    let is = place_by g.T.PartialEq.eq g.T.Ord.cmp g.met.T.Ord.total g.met.T.Ord.matches_eq c.self.inside.numbers c.self.invariant.0 c.self.invariant.1 c.args.value.now in
    rw (← c.self.view_is) (c.in-None.ensures.value ∙ is)
