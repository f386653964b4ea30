-- Leads of nodes, and the farthest of them.
use Rattle.std.proofs.Common.{◌≡◌, ◌<◌, ◌^◌, ℕ, true, false, List, length, get_or, refl, ap, ◌∙◌, arith, to_z, of_z}
use Rattle.std.specs.Prelude.{◌+◌, ℤ, pos, neg_ℤ, ◌+ℤ◌, ◌-ℤ◌, ◌≤ℤ◌}
use Rattle.std.proofs.lemmas.Int.{ints}
use Rattle.std.proofs.lemmas.List.{get_or_default}
use mir.Syntax.{w128}
use Rattle.problem_model.specs.Executions.{at}
use Rattle.problem_model.specs.Numbers.{IsUpTo}
use Rattle.problem_model.specs.Parents.{Cells}
use Rattle.problem_model.specs.Limits.{path_bits}
use Rattle.earliest.proofs.Bounds.{worth}
use Rattle.row_pool.specs.declared.cell.Cell.{Cell}
use Rattle.row_pool.specs.Row.{unknown, cell_at}
use Rattle.attain.specs.declared.side.Side.{Side}
use Rattle.attain.specs.declared.side.Side.TheVariants.{Upper, Lower}
use Rattle.attain.specs.Written.{AreMiddling}
use Rattle.attain.specs.Sides.{signed, differences, lead, IsAsFar, IsLeadOf}

-- what a cell that is not there is read as
abbrev pub no_cell : Cell
no_cell = record { value = pos 0; parent = 0; known = false }

pub cell_read : (row : List Cell) (k : ℕ) → k < length row → get_or row k no_cell ≡ cell_at row k
cell_read row k within = get_or_default row k no_cell unknown within

-- ---- sizes
sum_small : (side : Side) (m v x : ℤ) → neg_ℤ m ≤ℤ v → v ≤ℤ m → neg_ℤ m ≤ℤ x → x ≤ℤ m → (neg_ℤ (m +ℤ m) ≤ℤ (signed side v -ℤ x)) × ((signed side v -ℤ x) ≤ℤ (m +ℤ m))
sum_small Upper m v x low high low' high' = (omega (arith, ints), omega (arith, ints))
sum_small Lower m v x low high low' high' = (omega (arith, ints), omega (arith, ints))

pub signed_small : (side : Side) (v : ℤ) → IsUpTo path_bits v → IsUpTo path_bits (signed side v)
signed_small Upper v small = small
signed_small Lower v small = (omega (arith, ints, small.1), omega (arith, ints, small.0))

pub lead_least : (side : Side) (values : List ℤ) (c : Cells) (k : ℕ) → AreMiddling (length values) values c → k < length values → c.known k ≡ true → IsUpTo (path_bits + 1) (lead side c values k)
lead_least side values c k sizes within known =
    let v = sizes.distances k known in
    let x = sizes.at_nodes k within in
    sum_small side (pos (2 ^ path_bits)) (c.value k) (at values k) v.0 v.1 x.0 x.1

up_to_next : (x : ℤ) → IsUpTo (path_bits + 1) x → IsUpTo (path_bits + 2) x
up_to_next x small = (omega (arith, ints, small.0), omega (arith, ints, small.1))

pub lead_small : (side : Side) (values : List ℤ) (c : Cells) (k : ℕ) → AreMiddling (length values) values c → k < length values → c.known k ≡ true → IsUpTo (path_bits + 2) (lead side c values k)
lead_small side values c k sizes within known = up_to_next (lead side c values k) (lead_least side values c k sizes within known)

-- ---- the farthest
pub as_far_self : (side : Side) (a : ℤ) → IsAsFar side a a
as_far_self Upper a = omega (arith, ints)
as_far_self Lower a = omega (arith, ints)

pub as_far_then : (side : Side) (a b d : ℤ) → IsAsFar side a b → IsAsFar side b d → IsAsFar side a d
as_far_then Upper a b d one two = omega (arith, ints)
as_far_then Lower a b d one two = omega (arith, ints)

pub lead_is : (side : Side) (nodes : ℕ) (c : Cells) (values : List ℤ) (k : ℕ) → k < nodes → c.known k ≡ true
    → ((j : ℕ) → j < nodes → c.known j ≡ true → IsAsFar side (lead side c values k) (lead side c values j)) → IsLeadOf side nodes c values (lead side c values k)
lead_is Upper nodes c values k within known each = record { attained = (k, within, known, refl); most = each }
lead_is Lower nodes c values k within known each = record { attained = (k, within, known, refl); least_lead = each }

-- ---- as the code computes them
up_to_more : (x : ℤ) → IsUpTo (path_bits + 2) x → IsUpTo (path_bits + 3) x
up_to_more x small = (omega (arith, ints, small.0), omega (arith, ints, small.1))

pub sum_is : (side : Side) (values : List ℤ) (c : Cells) (k : ℕ) → AreMiddling (length values) values c → k < length values → c.known k ≡ true
    → (v x : ℤ) → v ≡ differences side c k → x ≡ at values k → to_z w128 (of_z w128 (v -ℤ x)) ≡ lead side c values k
sum_is side values c k sizes within known v x is is' =
    ap (λ (y : ℤ). to_z w128 (of_z w128 (y -ℤ x))) is ∙ ap (λ (y : ℤ). to_z w128 (of_z w128 (differences side c k -ℤ y))) is'
    ∙ worth (lead side c values k) (up_to_more (lead side c values k) (lead_small side values c k sizes within known))
