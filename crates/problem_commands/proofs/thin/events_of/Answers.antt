use Rattle.std.proofs.Common.{◌≤◌, ◌+◌, ◌-◌, ℕ, List, [], arith, subst, sym, length, take, drop}
use Rattle.problem.specs.Line.{HasEvent, IsUnknown}
use Rattle.thinning.specs.Named.{AreNamed}
use Rattle.problem_commands.proofs.Thinning.{named_more, all_named, one_unknown}
use Rattle.problem_commands.proofs.thin.events_of.Goals as goal

pub loop-k-init : goal.loop-k-init
loop-k-init c = (omega arith, subst (λ (places : List ℕ). AreNamed c.args.p.now [] places) (sym c.new-places.ensures.items) tt)

pub returns-in-None-clause-err : goal.returns-in-None-clause-err
returns-in-None-clause-err c = one_unknown c.args.p.now c.args.words.now c.loop-k.k c.word.result.now c.loop-k.invariant.0 c.word.ensures (subst (IsUnknown c.args.p.now) c.as_bytes.ensures.value c.in-None.ensures.none)

pub loop-k-preserved : goal.loop-k-preserved
loop-k-preserved c =
    let p = c.args.p.now in
    let words = c.args.words.now in
    let k = c.loop-k.k in
    let two : 2 ≤ k = c.loop-k.invariant.0 in
    let has : HasEvent p c.in-Some.place c.word.result.now = subst (HasEvent p c.in-Some.place) c.as_bytes.ensures.value c.in-Some.ensures.some in (
      omega (arith, two),
      subst (λ (places : List ℕ). AreNamed p (take (k + 1 - 2) (drop 2 words)) places) (sym c.in_ok-push-in-Some.ensures.items)
          (named_more p words k c.word.result.now c.loop-k.places.items c.in-Some.place two c.word.ensures c.loop-k.invariant.1 has),
    )

pub returns-clause-ok : goal.returns-clause-ok
returns-clause-ok c =
    let le : length c.args.words.now ≤ c.loop-k.k = omega (arith, c.loop-k-test.false, c.len-k-end.ensures) in
    all_named c.args.p.now c.args.words.now c.loop-k.k _ le c.loop-k.invariant.1
