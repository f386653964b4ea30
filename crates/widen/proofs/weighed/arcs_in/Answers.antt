use Rattle.std.proofs.Common.{◌≡◌, ◌<◌, ◌∙◌, ◌^◌, ◌++◌, ◌∷◌, [], ℕ, length, take, map, sym, ap, subst, arith}
use Rattle.std.specs.Prelude.{All, unsigned_abs}
use Rattle.std.proofs.Math.Seq.{take-length}
use Rattle.std.proofs.lemmas.List.Elements.{All-push}
use Rattle.sync_graph.specs.declared.arc.Arc.{Arc}
use Rattle.cert_check.specs.Widened.{widened}
use Rattle.widen.specs.Weighed.{IsNameOf, IsWeighed, unweighed}
use Rattle.widen.proofs.Weighing.{arcs_more}
use Rattle.widen.proofs.weighed.arcs_in.Goals as goal

pub arc_in-requires : goal.arc_in-requires
arc_in-requires c = subst (IsNameOf c.args.p.now) (sym c.arc-item.is) (c.requires c.loop-arc.arc-index c.arc-item.result c.loop-arc-test.true)

pub loop-arc-preserved : goal.loop-arc-preserved
loop-arc-preserved c =
    let so_far = c.loop-arc.others.items in
    let b = c.arc_in.result in
    let pushed : c.push.new.self.items ≡ so_far ++ b ∷ [] = c.in_ok-push.ensures.items in
    record {
      same = ap (map unweighed) pushed ∙ arcs_more c.args.arcs.now so_far c.loop-arc.arc-index c.arc-item.result b c.loop-arc-test.true c.arc-item.is c.loop-arc.invariant.same c.arc_in.ensures.same;
      weighed = subst (All (IsWeighed (widened c.args.what c.args.p.now c.args.extra))) (sym pushed) (All-push (IsWeighed (widened c.args.what c.args.p.now c.args.extra)) so_far b c.loop-arc.invariant.weighed c.arc_in.ensures.weighed);
      small = subst (All (λ (a : Arc). unsigned_abs a.weight < 2 ^ 93)) (sym pushed) (All-push (λ (a : Arc). unsigned_abs a.weight < 2 ^ 93) so_far b c.loop-arc.invariant.small c.arc_in.ensures.small);
    }

pub returns-clause-same : goal.returns-clause-same
returns-clause-same c =
    let all : c.loop-arc.arc-index ≡ length c.args.arcs.now = omega (arith, c.loop-arc-test.false, c.loop-arc.auto.arc-index-end) in
    c.loop-arc.invariant.same ∙ ap (λ (n : ℕ). map unweighed (take n c.args.arcs.now)) all ∙ ap (map unweighed) (take-length c.args.arcs.now)
