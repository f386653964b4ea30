use Rattle.std.proofs.Common.{◌≡◌, ◌<◌, length, ap, arith, rules, ℤ}
use mir.Syntax.{w128}
use mir.Val.{SFits}
use Rattle.std.specs.Prelude.{vec_len}
use Rattle.std.proofs.lemmas.Int.{to_z-of_z}
use Rattle.sync_graph.proofs.Compact.{length-joined, got}
use Rattle.sync_graph.proofs.arcs.Arcs.get.Goals as goal

pub index-ends-requires : goal.index-ends-requires
index-ends-requires c =
    let s = c.self.inside in
    let below : c.args.k < length s.ends.items = omega (arith, ap length c.self.view_is, length-joined s.ends.items s.weights.items s.kinds.items, c.requires) in
    let n : vec_len s.ends ≡ length s.ends.items = s.ends.ok.0 in
    omega (arith, n, below)

pub index-requires : goal.index-requires
index-requires c =
    let s = c.self.inside in
    let below : c.args.k < length s.ends.items = omega (arith, ap length c.self.view_is, length-joined s.ends.items s.weights.items s.kinds.items, c.requires) in
    let n : vec_len s.weights ≡ length s.weights.items = s.weights.ok.0 in
    let m : length s.weights.items ≡ length s.ends.items = c.self.invariant.0 in
    omega (arith, n, m, below)

pub index-requires-2 : goal.index-requires-2
index-requires-2 c =
    let s = c.self.inside in
    let below : c.args.k < length s.ends.items = omega (arith, ap length c.self.view_is, length-joined s.ends.items s.weights.items s.kinds.items, c.requires) in
    let n : vec_len s.kinds ≡ length s.kinds.items = s.kinds.ok.0 in
    let m : length s.kinds.items ≡ length s.ends.items = c.self.invariant.1 in
    omega (arith, n, m, below)

pub returns : goal.returns
returns c =
    let s = c.self.inside in
    let fits : SFits w128 c.index.result.now = search rules in
    got s.ends.items s.weights.items s.kinds.items c.args.self.now c.args.k c.index-ends.result.now c.index.result.now c.index-2.result.now c.self.invariant.0 c.self.invariant.1 c.self.view_is c.requires c.index-ends.ensures c.index.ensures c.index-2.ensures
    _ (ap (λ (w : ℤ). record { from = c.index-ends.result.now.from; to = c.index-ends.result.now.to; weight = w; kind = c.index-2.result.now }) (to_z-of_z w128 c.index.result.now fits))
