use Rattle.std.proofs.Common.{◌≡◌, ◌<◌, ◌*◌, ℕ, List, [], length, get_or, slice_get, Some, Contains, sym, ap, subst, arith, rules}
use Rattle.std.proofs.lemmas.Option.{slice_get_within, get_or_from_slice_get}
use Rattle.roster.specs.Groups.{group_at}
use Rattle.roster.specs.Readings.{Stamped, Rise, HasStamp}
use Rattle.roster.proofs.EventNames.{if_none}
use Rattle.roster.proofs.Telling.{among}
use Rattle.roster.proofs.roster.Roster.reading_node.Goals as goal

node_among : (all : List (List Stamped)) (clock k stamp node : ℕ) (group : List Stamped) (d : Stamped) → slice_get all clock ≡ Some group → slice_get {X = Stamped} group k ≡ Some (stamp, node) → Contains {X = Stamped} (group_at all clock) (stamp, (get_or group k d).1)
node_among all clock k stamp node group d own at =
    let same : (get_or group k d).1 ≡ node = ap (λ (s : Stamped). s.1) (get_or_from_slice_get group k (stamp, node) d at) in
    subst (λ (rs : List Stamped). Contains {X = Stamped} rs (stamp, (get_or group k d).1)) (sym (get_or_from_slice_get all clock group [] own))
    (subst (λ (n : ℕ). Contains {X = Stamped} group (stamp, n)) (sym same) (among {X = Stamped} group k (stamp, node) at))

pub place_of-requires : goal.place_of-requires
place_of-requires c = subst Rise (get_or_from_slice_get c.self.inside.readings c.args.clock c.group-readings.result.now [] c.group-readings.ensures) (c.self.invariant.on_clocks.rise c.args.clock)

pub returns-in_err-place-clause-none : goal.returns-in_err-place-clause-none
returns-in_err-place-clause-none c =
    if_none c.from_residual.result _
    (rw (← c.self.view_is)
    (λ has. c.in_err-place.ensures.none (subst (λ (rs : List Stamped). HasStamp rs c.args.stamp) (get_or_from_slice_get c.self.inside.readings c.args.clock c.group-readings.result.now [] c.group-readings.ensures) has)))

pub bounds-readings-place : goal.bounds-readings-place
bounds-readings-place c = let at = c.in_ok-place.ensures.some in slice_get_within {A = Stamped} c.group-readings.result.now c.in_ok-place.place (c.args.stamp, at.0) at.1

pub bounds-readings-place-in_ok-place : goal.bounds-readings-place-in_ok-place
bounds-readings-place-in_ok-place c = let at = c.in_ok-place.ensures.some in slice_get_within {A = Stamped} c.group-readings.result.now c.in_ok-place.place (c.args.stamp, at.0) at.1

pub offset_bounds-readings-place : goal.offset_bounds-readings-place
offset_bounds-readings-place c =
    let at = c.in_ok-place.ensures.some in
    let inside : c.in_ok-place.place < length c.group-readings.result.now = slice_get_within {A = Stamped} c.group-readings.result.now c.in_ok-place.place (c.args.stamp, at.0) at.1 in
    let long : length c.group-readings.result.now * 16 < 9223372036854775808 = c.group-readings.type_inv.1 in
    let small : c.in_ok-place.place * 16 < 18446744073709551616 = omega (arith, inside, long) in
    search rules

pub returns-clause-some : goal.returns-clause-some
returns-clause-some c =
    let at = c.in_ok-place.ensures.some in
    rw (← c.self.view_is) (node_among c.self.inside.readings c.args.clock c.in_ok-place.place c.args.stamp at.0 c.group-readings.result.now c.index-readings-place.result c.group-readings.ensures at.1)
