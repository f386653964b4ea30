use Rattle.std.proofs.Common.{◌≡◌, ◌∷◌, ◌++◌, [], ℕ, List, length, add-one, sym, ◌∙◌, ap, arith}
use Rattle.std.specs.List.{range_with_len}
use Rattle.widen.proofs.Ground.{range_more, as_they_stand}
use Rattle.widen.proofs.found.all_arcs.Goals as goal

pub loop-k-preserved : goal.loop-k-preserved
loop-k-preserved c =
    c.in_ok-push.ensures.items ∙ ap (λ (ks : List ℕ). ks ++ c.loop-k.k ∷ []) c.loop-k.invariant
    ∙ sym (range_more 0 c.loop-k.k c.loop-k.k (omega arith)) ∙ ap (λ (n : ℕ). range_with_len 0 n) (sym (add-one c.loop-k.k))

pub returns : goal.returns
returns c =
    let all : c.loop-k.k ≡ length c.args.g.now.arcs = omega (arith, c.loop-k-test.false, c.loop-k.auto.k-end, c.arcs-k-end.ensures) in
    as_they_stand c.args.g.now c.loop-k.order.items c.loop-k.k all c.loop-k.invariant
