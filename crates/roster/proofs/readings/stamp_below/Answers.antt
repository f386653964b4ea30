use Rattle.std.proofs.Common.{◌≡◌, ◌-◌, suc, ℕ, Some, slice_get, arith}
use Rattle.roster.specs.Readings.{Stamped}
use Rattle.roster.proofs.Beside.{none_under, last_under, found, next_place}
use Rattle.roster.proofs.readings.stamp_below.Goals as goal

pub returns-then-place-eq0 : goal.returns-then-place-eq0
returns-then-place-eq0 c =
    let at = found c.place_of.result c.unwrap-place.result (λ k. (node : ℕ) × (slice_get {X = Stamped} c.args.readings.now k ≡ Some (c.args.stamp, node))) c.unwrap-place.ensures c.place_of.ensures.some in
    none_under c.args.readings.now c.requires.rise c.args.stamp at.0 (next_place c.args.readings.now c.unwrap-place.result 0 (c.args.stamp, at.0) c.if-place-eq0.true at.1)

pub returns : goal.returns
returns c =
    let at = found c.place_of.result c.unwrap-place.result (λ k. (node : ℕ) × (slice_get {X = Stamped} c.args.readings.now k ≡ Some (c.args.stamp, node))) c.unwrap-place.ensures c.place_of.ensures.some in
    let more = c.if-place-eq0.false in
    last_under c.args.readings.now c.requires.rise c.args.stamp at.0 (c.unwrap-place.result - 1)
    (next_place c.args.readings.now c.unwrap-place.result (suc (c.unwrap-place.result - 1)) (c.args.stamp, at.0) (omega (arith, more)) at.1) c.stamp_at.result c.stamp_at.ensures.some c.stamp_at.ensures.none
