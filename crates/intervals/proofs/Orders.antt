-- The ends of an interval have one order.
use Rattle.std.proofs.Common.{◌≡◌, refl, arith}
use Rattle.std.specs.Prelude.{ℤ, pos, ◌≤ℤ◌, ◌<ℤ◌}
use Rattle.std.proofs.lemmas.Int.{ints}
use Rattle.intervals.specs.declared.ends.End.{End}
use Rattle.intervals.specs.declared.ends.End.TheVariants.{At, Unbounded}
use Rattle.intervals.specs.declared.ends.Ends.{Ends}
use Rattle.intervals.specs.declared.order.Order.{Order}
use Rattle.intervals.specs.declared.order.Order.TheVariants.{Before, After, Same, Undecided}
use Rattle.intervals.specs.Orders.{IsAbove, IsBelow, IsZero, AreInOrder, IsInterval, IsOrder}

-- numbers in order are not above and below 0
apart : (a b : ℤ) → a ≤ℤ b → pos 0 <ℤ a → b <ℤ pos 0 → ⊥
apart a b le above below = omega (arith, ints)

above_nonzero : (a : ℤ) → pos 0 <ℤ a → a ≡ pos 0 → ⊥
above_nonzero a above zero_is = omega (arith, ints)

below_nonzero : (a : ℤ) → a <ℤ pos 0 → a ≡ pos 0 → ⊥
below_nonzero a below zero_is = omega (arith, ints)

-- the same of ends
not_both_sides : (a b : End) → AreInOrder a b → IsAbove a → IsBelow b → ⊥
not_both_sides (At g) (At h) le above below = apart g h le above below
not_both_sides (At g) Unbounded le above below = below
not_both_sides Unbounded b le above below = above

above_not_zero : (a : End) → IsAbove a → IsZero a → ⊥
above_not_zero (At h) above is = above_nonzero h above is
above_not_zero Unbounded above is = above

below_not_zero : (a : End) → IsBelow a → IsZero a → ⊥
below_not_zero (At h) below is = below_nonzero h below is
below_not_zero Unbounded below is = below

pub one_order : (e : Ends) (a b : Order) → IsInterval e → IsOrder e a → IsOrder e b → a ≡ b
one_order e Before Before i a b = refl
one_order e Before After i a b = absurd (not_both_sides e.least e.greatest i a b)
one_order e Before Same i a b = absurd (above_not_zero e.least a b.0)
one_order e Before Undecided i a b = absurd (b.0 a)
one_order e After Before i a b = absurd (not_both_sides e.least e.greatest i b a)
one_order e After After i a b = refl
one_order e After Same i a b = absurd (below_not_zero e.greatest a b.1)
one_order e After Undecided i a b = absurd (b.1 a)
one_order e Same Before i a b = absurd (above_not_zero e.least b a.0)
one_order e Same After i a b = absurd (below_not_zero e.greatest b a.1)
one_order e Same Same i a b = refl
one_order e Same Undecided i a b = absurd (b.2 a)
one_order e Undecided Before i a b = absurd (a.0 b)
one_order e Undecided After i a b = absurd (a.1 b)
one_order e Undecided Same i a b = absurd (a.2 b)
one_order e Undecided Undecided i a b = refl
