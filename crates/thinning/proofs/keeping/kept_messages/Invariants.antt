use Rattle.std.proofs.Common.{◌≡◌, ℕ, length, slice_get, Some, false}
use Rattle.thinning.specs.Keeping.{MayGo}
use Rattle.thinning.proofs.keeping.kept_messages.Given as goal

abbrev pub invariant-loop-place : goal.invariant-loop-place
invariant-loop-place l = record {
  each : length l.keeps.items ≡ l.place;
  goes : (k : ℕ) → slice_get l.keeps.items k ≡ Some false → MayGo l.p l.proposal.fixed.items l.shared.items l.asked k;
}
