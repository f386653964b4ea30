use Rattle.std.proofs.Common.{ℕ, subst, sym, rules}
use Rattle.std.specs.Prelude.{IsTrue}
use Rattle.problem_model.specs.declared.items.Node.TheVariants as nodes
use Rattle.cert.specs.Shows.{IsInside}
use Rattle.cert_check.specs.Reasons.{away_of}
use Rattle.cert_check.proofs.Cutting.{leaves_first, cut_is}
use Rattle.cert_check.proofs.cut.cut_fault.Goals as goal

pub returns-in-Some-clause-found : goal.returns-in-Some-clause-found
returns-in-Some-clause-found c =
    let p = c.args.p.now in
    let inside = c.args.inside.now in
    let readings = c.readings-readings.result.now in
    let are = c.readings-readings.ensures in
    let yes : IsTrue c.is_inside.result = search rules in
    let no : IsTrue c.is_inside-2.result → ⊥ = search rules in
    let home = subst (λ (e : ℕ). IsInside p inside (nodes.Event e)) c.home_of.ensures (c.is_inside.ensures.0 yes) in
    let away = λ (there : IsInside p inside (nodes.Event (away_of c.args.part c.args.first c.args.second))). no (c.is_inside-2.ensures.1 (subst (λ (e : ℕ). IsInside p inside (nodes.Event e)) (sym c.away_of.ensures) there)) in
    leaves_first p c.args.part c.args.first c.args.second inside c.in-Some.bound home away (readings, are, rw c.in-Some.is at (c.first_leaving.ensures readings are))

pub returns-in-None-clause-found : goal.returns-in-None-clause-found
returns-in-None-clause-found c =
    let p = c.args.p.now in
    let inside = c.args.inside.now in
    let readings = c.readings-readings.result.now in
    let are = c.readings-readings.ensures in
    let yes : IsTrue c.is_inside.result = search rules in
    let no : IsTrue c.is_inside-2.result → ⊥ = search rules in
    record {
      home = subst (λ (e : ℕ). IsInside p inside (nodes.Event e)) c.home_of.ensures (c.is_inside.ensures.0 yes);
      away = λ there. no (c.is_inside-2.ensures.1 (subst (λ (e : ℕ). IsInside p inside (nodes.Event e)) (sym c.away_of.ensures) there));
      cut = cut_is p inside readings c.events.ensures.lawful.formed are (rw c.in-None.is at (c.first_leaving.ensures readings are));
    }
