use Rattle.std.proofs.Common.{◌≡◌, ◌+◌, ◌≤◌, suc, ℕ, Some, length, slice_get, subst, arith}
use Rattle.std.specs.Prelude.{IfSome, IfNone}
use Rattle.roster.specs.Readings.{Stamped}
use Rattle.roster.proofs.Beside.{first_over, found}
use Rattle.roster.proofs.readings.stamp_above.Goals as goal

pub returns : goal.returns
returns c =
    let at = found c.place_of.result c.unwrap-place.result (λ k. (node : ℕ) × (slice_get {X = Stamped} c.args.readings.now k ≡ Some (c.args.stamp, node))) c.unwrap-place.ensures c.place_of.ensures.some in
    let next : c.unwrap-place.result + 1 ≡ suc c.unwrap-place.result = omega arith in
    first_over c.args.readings.now c.requires.rise c.args.stamp at.0 c.unwrap-place.result at.1 c.stamp_at.result
    (subst (λ (k : ℕ). IfSome c.stamp_at.result (λ s. (n : ℕ) × (slice_get {X = Stamped} c.args.readings.now k ≡ Some (s, n)))) next c.stamp_at.ensures.some)
    (subst (λ (k : ℕ). IfNone c.stamp_at.result (length c.args.readings.now ≤ k)) next c.stamp_at.ensures.none)
