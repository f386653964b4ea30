-- Of two keys at most one comes first.
use Rattle.std.proofs.Common.{◌≡◌, ◌<◌, arith, inl, inr}
use Rattle.std.proofs.lemmas.Int.{ints}
use Rattle.report.specs.declared.merge.MergeKey.{MergeKey}
use Rattle.report.specs.Merging.{ComesFirst, StandsBefore}

both_stand : (a b : MergeKey) → StandsBefore a b → StandsBefore b a → ⊥
both_stand a b (inl x) (inl y) = omega (arith, x, y)
both_stand a b (inl x) (inr y) = omega (arith, x, y.0)
both_stand a b (inr x) (inl y) = omega (arith, x.0, y)
both_stand a b (inr x) (inr y) = omega (arith, x.1, y.1)

pub both_first : (a b : MergeKey) → ComesFirst a b → ComesFirst b a → ⊥
both_first a b (inl x) (inl y) = omega (arith, ints, x, y)
both_first a b (inl x) (inr y) = omega (arith, ints, x, y.0)
both_first a b (inr x) (inl y) = omega (arith, ints, x.0, y)
both_first a b (inr x) (inr y) = both_stand a b x.1 y.1
