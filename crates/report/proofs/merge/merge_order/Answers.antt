use Rattle.std.proofs.Common.{◌≡◌, ℕ, List, subst, slice_get, rules}
use Rattle.std.specs.List.Sorted.{IsPermutation}
use Rattle.std.proofs.lemmas.Fn.{always_returns_same}
use Rattle.report.proofs.MergeOrders.{sorted_order}
use Rattle.report.proofs.merge.merge_order.Goals as goal

pub returns : goal.returns
returns c =
    let keys = c.args.keys.now in
    sorted_order keys c.requires.differ _
    (subst (λ (all : List ℕ). IsPermutation all c.sort_unstable_by_key.new.self.items) c.in_ok-order.ensures c.sort_unstable_by_key.ensures.permutation)
    (c.sort_unstable_by_key.ensures.sorted (slice_get keys) (always_returns_same _ (λ a r. r ≡ slice_get keys a.0.now) _ (λ a r q k. search rules)))
