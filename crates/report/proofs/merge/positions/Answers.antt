use Rattle.std.proofs.Common.{◌∷◌, [], ◌++◌, ℕ, List, ◌∙◌, ap, sym, add-one, arith}
use Rattle.std.specs.List.{range_with_len}
use Rattle.report.proofs.MergeOrders.{range_more}
use Rattle.report.proofs.merge.positions.Goals as goal

pub loop-position-preserved : goal.loop-position-preserved
loop-position-preserved c =
    let k = c.loop-position.position in
    c.in_ok-push.ensures.items ∙ ap (λ (all : List ℕ). all ++ k ∷ []) c.loop-position.invariant
    ∙ sym (range_more 0 k k (omega arith)) ∙ ap (λ (n : ℕ). range_with_len 0 n) (sym (add-one k))
