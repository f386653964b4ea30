use Rattle.std.proofs.Common.{◌≡◌, ◌<◌, ◌+◌, ◌∙◌, ℕ, List, length, sym, ap, subst, arith}
use Rattle.problem_model.specs.declared.items.Node.{Node}
use Rattle.sync_graph.specs.Graph.{IsSound, arc_at}
use Rattle.sync_graph.specs.Names.{IsNamed}
use Rattle.sync_graph.proofs.InForce.{no_arc}
use Rattle.cert_check.specs.Widened.{widened}
use Rattle.widen.specs.Weighed.{IsNameOf, unweighed}
use Rattle.widen.proofs.Weighing.{IsWeighedUpTo, named_as, sound_as, weighed_more}
use Rattle.widen.proofs.weighed.widened_graph.Goals as goal

pub arc_in-requires : goal.arc_in-requires
arc_in-requires c =
    let inside : c.loop-k.k < length c.args.g.now.arcs = omega (arith, c.loop-k-test.true, c.arcs-k-end.ensures) in
    subst (IsNameOf c.args.p.now) (sym c.arc.ensures) (c.requires c.loop-k.k no_arc inside)

pub push_arc-requires-clause-sound : goal.push_arc-requires-clause-sound
push_arc-requires-clause-sound c =
    let inside : c.loop-k.k < length c.args.g.now.arcs = omega (arith, c.loop-k-test.true, c.arcs-k-end.ensures) in
    let same : unweighed c.arc_in.result ≡ unweighed (arc_at c.args.g.now.arcs c.loop-k.k) = c.arc_in.ensures.same ∙ ap unweighed c.arc.ensures in
    subst (λ (n : ℕ). IsSound n c.arc_in.result) (sym (ap length c.loop-k.invariant.nodes))
    (sound_as (length c.args.g.now.nodes) (arc_at c.args.g.now.arcs c.loop-k.k) c.arc_in.result same (c.exact.ensures.sound c.loop-k.k no_arc inside) c.arc_in.ensures.small)

pub push_arc-requires-clause-named : goal.push_arc-requires-clause-named
push_arc-requires-clause-named c =
    let inside : c.loop-k.k < length c.args.g.now.arcs = omega (arith, c.loop-k-test.true, c.arcs-k-end.ensures) in
    let same : unweighed c.arc_in.result ≡ unweighed (arc_at c.args.g.now.arcs c.loop-k.k) = c.arc_in.ensures.same ∙ ap unweighed c.arc.ensures in
    subst (λ (ns : List Node). IsNamed ns c.arc_in.result) (sym c.loop-k.invariant.nodes)
    (named_as c.args.g.now.nodes (arc_at c.args.g.now.arcs c.loop-k.k) c.arc_in.result same (c.exact.ensures.named c.loop-k.k no_arc inside))

pub push_arc-requires-clause-room : goal.push_arc-requires-clause-room
push_arc-requires-clause-room c = omega (arith, c.loop-k.invariant.long, c.loop-k-test.true, c.arcs-k-end.ensures, c.exact.ensures.arc_limit)

pub loop-k-preserved : goal.loop-k-preserved
loop-k-preserved c =
    let inside : c.loop-k.k < length c.args.g.now.arcs = omega (arith, c.loop-k-test.true, c.arcs-k-end.ensures) in
    let same : unweighed c.arc_in.result ≡ unweighed (arc_at c.args.g.now.arcs c.loop-k.k) = c.arc_in.ensures.same ∙ ap unweighed c.arc.ensures in
    let q = widened c.args.what c.args.p.now c.args.extra in
    subst (IsWeighedUpTo q (c.loop-k.k + 1) c.args.g.now) (sym c.in_ok-push_arc.ensures.ok)
    (weighed_more q c.loop-k.k c.args.g.now c.loop-k.h c.arc_in.result c.loop-k.invariant inside same c.arc_in.ensures.weighed)
