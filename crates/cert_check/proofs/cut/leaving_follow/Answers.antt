use Rattle.std.proofs.Common.{◌∷◌, [], List, None, refl, sym, ◌∙◌, ap, subst}
use Rattle.std.specs.Prelude.{Contains}
use Rattle.std.proofs.lemmas.List.Elements.{All-nil}
use Rattle.problem_model.specs.declared.items.Bound.{Bound}
use Rattle.problem_model.specs.Bounds.{Constraint, Declares}
use Rattle.problem.specs.Nearest.{listed_follow, gap_between}
use Rattle.cert_check.specs.Faults.{StaysInside, FindsLeaving}
use Rattle.cert_check.proofs.cut.leaving_follow.Goals as goal

pub returns-in-Some : goal.returns-in-Some
returns-in-Some c = λ readings are.
    let p = c.args.p.now in
    let inside = c.args.inside.now in
    let later = c.args.later in
    let f = c.in-Some.follow in
    let a : Constraint = gap_between f.earlier f.s later f.t f.gap in
    let named = c.listed_bound.ensures in
    let declares = rw c.in-Some.is at c.nearest_follow.ensures.declared in
    let from = c.has_clock-from.ensures in
    let to = c.has_clock-to.ensures in
    let found = c.crossing.ensures p inside a c.clocks.ensures.lawful.formed (subst (λ (b : Bound). Declares p b a) (sym named) declares)
    (λ yes. (later, refl, from.0 yes), λ there. from.1 (subst (Contains inside) (sym there.1) there.2))
    (λ yes. (f.earlier, refl, to.0 yes), λ there. to.1 (subst (Contains inside) (sym there.1) there.2)) in
    subst (λ (bs : List Bound). FindsLeaving p inside bs c.crossing.result) (sym (c.nearest_follow.ensures.bound readings are ∙ ap (listed_follow later) c.in-Some.is))
    (subst (λ (b : Bound). FindsLeaving p inside (b ∷ []) c.crossing.result) named found)

pub returns-in-None : goal.returns-in-None
returns-in-None c = λ readings are.
    let p = c.args.p.now in
    let inside = c.args.inside.now in
    subst (λ (bs : List Bound). FindsLeaving p inside bs None) (sym (c.nearest_follow.ensures.bound readings are ∙ ap (listed_follow c.args.later) c.in-None.is)) (All-nil (StaysInside p inside))
