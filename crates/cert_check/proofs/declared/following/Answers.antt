use Rattle.std.proofs.Common.{◌≡◌, ◌∙◌, ◌*◌, to_z, of_z, refl, sym, ap, subst, arith}
use Rattle.std.specs.Prelude.{ℤ, pos, neg_ℤ, ◌-ℤ◌}
use Rattle.std.proofs.lemmas.Int.{ints}
use mir.Syntax.{w128}
use Rattle.problem_model.specs.declared.items.Bound.TheVariants as bounds
use Rattle.problem_model.specs.declared.items.Node.TheVariants as nodes
use Rattle.problem_model.specs.Bounds.{Constraint, Declares}
use Rattle.cert_check.specs.Widened.{gap_left, widened}
use Rattle.cert_check.proofs.Widening.{follow_on}
use Rattle.cert_check.proofs.declared.following.Goals as goal

pub gap_to-requires : goal.gap_to-requires
gap_to-requires c = let d = c.requires.1 in (d.0, (d.1, d.2))

pub returns-clause-declares : goal.returns-clause-declares
returns-clause-declares c =
    let p = c.args.p.now in
    let w = c.args.what in
    let e = c.args.extra in
    let d = c.requires.1 in
    let gap : c.gap_to.result ≡ d.0.gap = c.gap_to.ensures d.0 (d.1, d.2) in
    let left : c.gap_left.result ≡ gap_left w e d.0.gap = c.gap_left.ensures ∙ ap (gap_left w e) gap in
    let weight : to_z w128 (of_z w128 (pos 0 -ℤ to_z w128 (of_z w128 c.delay_units.result))) ≡ neg_ℤ (pos (gap_left w e d.0.gap * 1000000000)) = omega (arith, ints, left, c.delay_units.ensures.exact, c.delay_units.ensures.below) in
    let weighed = λ (n : ℤ). (let a : Constraint = record { from = nodes.Reading c.args.later c.args.t; to = nodes.Reading c.args.earlier c.args.s; weight = n } in a) in
    subst (Declares (widened w p e) (bounds.Follow c.args.earlier c.args.s c.args.later c.args.t)) (sym (ap weighed weight))
    (follow_on w p e c.args.earlier c.args.s c.args.later c.args.t d.0.gap (d.0, d.1, d.2, d.3, d.4, d.5, refl))
