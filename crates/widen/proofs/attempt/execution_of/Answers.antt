use Rattle.std.proofs.Common.{◌≡◌, ◌<◌, ◌++◌, ◌∷◌, [], ◌∙◌, ℕ, List, length, take, get_or, sym, ap, subst, arith, length-append}
use Rattle.std.specs.Prelude.{◌+◌, ℤ, pos}
use Rattle.std.proofs.Math.Seq.{take-length}
use Rattle.std.proofs.lemmas.Option.{slice_get-get_or}
use Rattle.problem_model.specs.Numbers.{IsUpTo}
use Rattle.problem_model.specs.Limits.{path_bits}
use Rattle.sync_graph.proofs.Copies.{front_more}
use Rattle.widen.proofs.Summing.{units_fit, value_is}
use Rattle.widen.proofs.attempt.execution_of.Goals as goal

pub units-requires : goal.units-requires
units-requires c =
    let inside : c.loop-node.node < length c.args.e.now.values = omega (arith, c.loop-node-test.true, c.requires.one_each) in
    units_fit c.value.result (subst (IsUpTo (path_bits + 2)) (sym c.value.ensures) (c.requires.small c.loop-node.node (pos 0) inside))

pub loop-node-preserved : goal.loop-node-preserved
loop-node-preserved c =
    let k = c.loop-node.node in
    let values : List ℤ = c.args.e.now.values in
    let inside : k < length values = omega (arith, c.loop-node-test.true, c.requires.one_each) in
    let up : IsUpTo (path_bits + 2) c.value.result = subst (IsUpTo (path_bits + 2)) (sym c.value.ensures) (c.requires.small k (pos 0) inside) in
    let is : c.units.result ≡ get_or values k (pos 0) = c.units.ensures ∙ value_is c.value.result up ∙ c.value.ensures in
    record {
      values = c.in_ok-push.ensures.ok ∙ ap (λ (xs : List ℤ). xs ++ c.units.result ∷ []) c.loop-node.invariant.values ∙ ap (λ (v : ℤ). take k values ++ v ∷ []) is
          ∙ sym (front_more values k (get_or values k (pos 0)) (slice_get-get_or values k (pos 0) inside));
      long = ap length c.in_ok-push.ensures.ok ∙ omega (arith, c.loop-node.invariant.long, length-append c.loop-node.execution (c.units.result ∷ []));
    }

pub returns : goal.returns
returns c =
    let all : c.loop-node.node ≡ length c.args.e.now.values = omega (arith, c.loop-node-test.false, c.loop-node.auto.node-end, c.requires.one_each) in
    c.loop-node.invariant.values ∙ ap (λ (n : ℕ). take n c.args.e.now.values) all ∙ take-length c.args.e.now.values
