use Rattle.std.proofs.Common.{◌≡◌, ◌++◌, ◌∷◌, [], List, length, All, sym, ap, subst, arith, rules, length-append}
use Rattle.std.specs.Prelude.{IsTrue}
use Rattle.std.proofs.lemmas.List.Elements.{All-push}
use Rattle.cert.specs.declared.chain.Step.{Step}
use Rattle.cert.specs.CertificateText.{IsStepOf}
use Rattle.cert_check.proofs.Named.{on_ok}
use Rattle.cert_tests.proofs.parts.chain.Goals as goal

pub push-requires : goal.push-requires
push-requires c = omega (arith, c.loop-bound.invariant.1, c.loop-bound-test.true, c.requires)

pub loop-bound-preserved : goal.loop-bound-preserved
loop-bound-preserved c =
    let p = c.args.p.now in
    let old : List Step = c.loop-bound.chain in
    let new : List Step = c.push.new.self in
    let step : Step = record { bound = c.loop-bound-item.result.0; weight = c.in_ok-new.field-0 } in
    let pushed : new ≡ old ++ step ∷ [] = on_ok c.push.result _ c.push.ensures.ok c.in_ok-ok.ensures.variant in
    let yes : IsTrue c.is_declared.result = search rules in
    (subst (All (IsStepOf p)) (sym pushed) (All-push (IsStepOf p) old step c.loop-bound.invariant.0 (c.is_declared.ensures yes)), omega (arith, ap length pushed, length-append old (step ∷ []), c.loop-bound.invariant.1))
