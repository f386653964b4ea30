use Rattle.std.proofs.Common.{◌≡◌, ◌+◌, [], ◌∷◌, ◌++◌, length, sym, ◌∙◌, ap, subst, None, position, is_some, cond}
use Rattle.interner.specs.Numbers.{by_number, HaveNumbers}
use Rattle.interner.proofs.Numbering.{one_more, more_numbered}
use Rattle.interner.proofs.Places.push.Goals as goal
use Rattle.interner.proofs.Places.push.Goals.{in-Ok, in-Err}

pub invariant_of-self : goal.invariant_of-self
invariant_of-self g c =
    let m = c.self.inside.numbers in
    let E = g.T.PartialEq.eq in
    let v = c.args.value in
    let new : position (E v) (by_number m.entries) ≡ None = ap (position (E v)) c.self.view_is ∙ c.requires.new in
    elim c.match-insert.branch [
      | in-Ok w ↦ (
          let longer = w.in-Ok.ensures.len ∙ ap (λ r. length m.entries + cond (is_some r) 0 1) w.in-Ok.ensures.old in
          (more_numbered E g.T.Ord.cmp g.met.T.Ord.total g.met.T.Ord.matches_eq m c.insert.new.self c.self.invariant.0 c.self.invariant.1 v new c.len-number.result c.len-number.ensures.len w.in-Ok.ensures.entries longer, c.insert.ensures.ordered))
      | in-Err w ↦ (subst HaveNumbers (sym w.in-Err.ensures.err) c.self.invariant.0, c.insert.ensures.ordered)
    ]

pub returns-clause-ok : goal.returns-clause-ok
returns-clause-ok g c =
    let m = c.self.inside.numbers in
    let E = g.T.PartialEq.eq in
    let v = c.args.value in
    let new : position (E v) (by_number m.entries) ≡ None = ap (position (E v)) c.self.view_is ∙ c.requires.new in
    elim c.match-insert.branch [
      | in-Ok w ↦ (
          let longer = w.in-Ok.ensures.len ∙ ap (λ r. length m.entries + cond (is_some r) 0 1) w.in-Ok.ensures.old in
          let more = one_more E g.T.Ord.cmp g.met.T.Ord.total g.met.T.Ord.matches_eq m c.insert.new.self c.self.invariant.0 c.self.invariant.1 v new c.len-number.result c.len-number.ensures.len w.in-Ok.ensures.entries longer in
          rw (w.result-is) (more ∙ ap (λ xs. xs ++ v ∷ []) c.self.view_is))
      | in-Err w ↦ rw (w.result-is) tt
    ]
