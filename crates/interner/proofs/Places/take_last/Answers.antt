use Rattle.std.proofs.Common.{◌≡◌, ◌∙◌, ◌+◌, ◌-◌, length, take, sym, ap, subst, cond, is_some}
use Rattle.std.specs.BTreeMap.{get}
use Rattle.interner.specs.Numbers.{by_number, IsLast}
use Rattle.interner.proofs.Numbering.{less_numbered, last_taken}
use Rattle.interner.proofs.Places.take_last.Goals as goal

pub invariant_of-self : goal.invariant_of-self
invariant_of-self g c =
    let m = c.self.inside.numbers in
    let E = g.T.PartialEq.eq in
    let q = c.args.value.now in
    let last : IsLast (E q) (by_number m.entries) = subst (IsLast (E q)) (sym c.self.view_is) c.requires.last in
    let shorter : length c.remove.new.self.entries + cond (is_some (get g.T.Ord.cmp m q)) 1 0 ≡ length m.entries =
    ap (λ r. length c.remove.new.self.entries + cond (is_some r) 1 0) (sym c.remove.ensures.value) ∙ c.remove.ensures.len in
    (less_numbered E g.T.Ord.cmp g.met.T.Ord.total g.met.T.Ord.matches_eq m c.remove.new.self c.self.invariant.0 c.self.invariant.1 q last c.remove.ensures.entries shorter, c.remove.ensures.ordered)

pub returns : goal.returns
returns g c =
    let m = c.self.inside.numbers in
    let E = g.T.PartialEq.eq in
    let q = c.args.value.now in
    let last : IsLast (E q) (by_number m.entries) = subst (IsLast (E q)) (sym c.self.view_is) c.requires.last in
    let shorter : length c.remove.new.self.entries + cond (is_some (get g.T.Ord.cmp m q)) 1 0 ≡ length m.entries =
    ap (λ r. length c.remove.new.self.entries + cond (is_some r) 1 0) (sym c.remove.ensures.value) ∙ c.remove.ensures.len in
    last_taken E g.T.Ord.cmp g.met.T.Ord.total g.met.T.Ord.matches_eq m c.remove.new.self c.self.invariant.0 c.self.invariant.1 q last c.remove.ensures.entries shorter
    ∙ ap (λ xs. take (length xs - 1) xs) c.self.view_is
