-- The least and the greatest value of a time over all executions.
use Rattle.std.proofs.Common.{◌≡◌, ℕ, ◌*◌, refl, ap, subst, arith}
use Rattle.std.specs.Prelude.{ℤ, pos, neg_ℤ, ◌+ℤ◌, ◌-ℤ◌, ◌≤ℤ◌, ◌<ℤ◌, ◌↔◌}
use Rattle.std.proofs.lemmas.Int.{ints}
use Rattle.problem_model.specs.declared.items.Node.{Node}
use Rattle.problem_model.specs.declared.items.Node.TheVariants.{Reading}
use Rattle.problem_model.specs.Problem.{ProblemLists}
use Rattle.problem_model.specs.Bounds.{Times}
use Rattle.row_pool.specs.declared.cell.Reach.{Reach}
use Rattle.row_pool.specs.declared.cell.Reach.TheVariants as reaches
use Rattle.row_pool.specs.declared.cell.Pair.{Pair}
use Rattle.intervals.specs.declared.ends.End.{End}
use Rattle.intervals.specs.declared.ends.End.TheVariants.{At, Unbounded}
use Rattle.intervals.specs.declared.ends.Ends.{Ends}
use Rattle.intervals.specs.Ends.{greatest_end, least_end, ends_of, shifted_end, shifted}
use Rattle.intervals.specs.Orders.{AreInOrder, IsInterval}
use Rattle.intervals.specs.Executions.{IsReachOf, IsPairOf, time_difference, time_by, RisesPast, FallsPast, IsGreatestEnd, IsLeastEnd, AreEndsOf}

-- ---- sums and signs
turned_is : (a b h : ℤ) → b -ℤ a ≡ h → a -ℤ b ≡ neg_ℤ h
turned_is a b h is = omega (arith, ints)

turned_le : (a b h : ℤ) → (b -ℤ a) ≤ℤ h → neg_ℤ h ≤ℤ (a -ℤ b)
turned_le a b h le = omega (arith, ints)

turned_lt : (a b h : ℤ) → neg_ℤ h <ℤ (b -ℤ a) → (a -ℤ b) <ℤ h
turned_lt a b h lt = omega (arith, ints)

turned_order : (a b g h : ℤ) → b -ℤ a ≡ g → (a -ℤ b) ≤ℤ h → neg_ℤ h ≤ℤ g
turned_order a b g h is le = omega (arith, ints)

later_le : (d v h : ℤ) → v ≤ℤ h → (d +ℤ v) ≤ℤ (d +ℤ h)
later_le d v h le = omega (arith, ints)

later_past : (d v h : ℤ) → (h -ℤ d) <ℤ v → h <ℤ (d +ℤ v)
later_past d v h lt = omega (arith, ints)

later_short : (d v h : ℤ) → v <ℤ (h -ℤ d) → (d +ℤ v) <ℤ h
later_short d v h lt = omega (arith, ints)

one_value : (v w g h : ℤ) → v ≡ g → w ≡ h → v ≤ℤ h → w ≤ℤ g → g ≡ h
one_value v w g h v_is w_is le le' = omega (arith, ints)

one_value_down : (v w g h : ℤ) → v ≡ g → w ≡ h → g ≤ℤ w → h ≤ℤ v → g ≡ h
one_value_down v w g h v_is w_is le le' = omega (arith, ints)

not_past : (v h : ℤ) → h <ℤ v → v ≤ℤ h → ⊥
not_past v h lt le = omega (arith, ints)

-- ---- differences
greatest_is : (p : ProblemLists) (from to : Node) (r : Reach) → IsReachOf p from to r → IsGreatestEnd p (time_difference from to) (greatest_end r)
greatest_is p from to (reaches.At h) is = record { attained = is.attained; most = is.most }
greatest_is p from to reaches.Never past = past

least_is : (p : ProblemLists) (from to : Node) (r : Reach) → IsReachOf p to from r → IsLeastEnd p (time_difference from to) (least_end r)
least_is p from to (reaches.At h) is = record {
  attained = (is.attained.0, is.attained.1, turned_is (is.attained.0 to) (is.attained.0 from) h is.attained.2);
  least = λ x e. turned_le (x to) (x from) h (is.most x e);
}
least_is p from to reaches.Never past = λ h. (
  (past (neg_ℤ h)).0,
  (past (neg_ℤ h)).1,
  turned_lt ((past (neg_ℤ h)).0 to) ((past (neg_ℤ h)).0 from) h (past (neg_ℤ h)).2,
)

pub ends_are : (p : ProblemLists) (from to : Node) (pair : Pair) → IsPairOf p from to pair → AreEndsOf p (time_difference from to) (ends_of pair)
ends_are p from to pair is = record {
  below = least_is p from to pair.down is.back;
  above = greatest_is p from to pair.up is.there;
}

in_order : (p : ProblemLists) (from to : Node) (up down : Reach) → IsReachOf p from to up → IsReachOf p to from down → AreInOrder (least_end down) (greatest_end up)
in_order p from to (reaches.At g) (reaches.At h) there back =
    turned_order (there.attained.0 from) (there.attained.0 to) g h there.attained.2 (back.most there.attained.0 there.attained.1)
in_order p from to (reaches.At g) reaches.Never there back = tt
in_order p from to reaches.Never (reaches.At h) there back = tt
in_order p from to reaches.Never reaches.Never there back = tt

pub are_interval : (p : ProblemLists) (from to : Node) (pair : Pair) → IsPairOf p from to pair → IsInterval (ends_of pair)
are_interval p from to pair is = in_order p from to pair.up pair.down is.there is.back

-- ---- a time has one end on each side
pub one_greatest : (p : ProblemLists) (time : Times → ℤ) (a b : End) → IsGreatestEnd p time a → IsGreatestEnd p time b → a ≡ b
one_greatest p time (At g) (At h) a b =
    ap (λ (v : ℤ). At v) (one_value (time a.attained.0) (time b.attained.0) g h a.attained.2 b.attained.2 (b.most a.attained.0 a.attained.1) (a.most b.attained.0 b.attained.1))
one_greatest p time (At g) Unbounded a b = absurd (not_past (time (b g).0) g (b g).2 (a.most (b g).0 (b g).1))
one_greatest p time Unbounded (At h) a b = absurd (not_past (time (a h).0) h (a h).2 (b.most (a h).0 (a h).1))
one_greatest p time Unbounded Unbounded a b = refl

pub one_least : (p : ProblemLists) (time : Times → ℤ) (a b : End) → IsLeastEnd p time a → IsLeastEnd p time b → a ≡ b
one_least p time (At g) (At h) a b =
    ap (λ (v : ℤ). At v) (one_value_down (time a.attained.0) (time b.attained.0) g h a.attained.2 b.attained.2 (a.least b.attained.0 b.attained.1) (b.least a.attained.0 a.attained.1))
one_least p time (At g) Unbounded a b = absurd (not_past g (time (b g).0) (b g).2 (a.least (b g).0 (b g).1))
one_least p time Unbounded (At h) a b = absurd (not_past h (time (a h).0) (a h).2 (b.least (a h).0 (a h).1))
one_least p time Unbounded Unbounded a b = refl

pub none_above : (p : ProblemLists) (time : Times → ℤ) (e : Ends) → AreEndsOf p time e → (e.greatest ≡ Unbounded) ↔ RisesPast p time
none_above p time e are = (
  λ is. subst (λ (a : End). IsGreatestEnd p time a) is are.above,
  λ past. one_greatest p time e.greatest Unbounded are.above past,
)

pub none_below : (p : ProblemLists) (time : Times → ℤ) (e : Ends) → AreEndsOf p time e → (e.least ≡ Unbounded) ↔ FallsPast p time
none_below p time e are = (
  λ is. subst (λ (a : End). IsLeastEnd p time a) is are.below,
  λ past. one_least p time e.least Unbounded are.below past,
)

-- ---- a time that is later by so many units
module _ (p : ProblemLists) (time : Times → ℤ) (d : ℤ) where
  later_greatest : (e : End) → IsGreatestEnd p time e → IsGreatestEnd p (λ x. d +ℤ time x) (shifted_end d e)
  later_greatest (At h) is = record {
    attained = (is.attained.0, is.attained.1, ap (λ (v : ℤ). d +ℤ v) is.attained.2);
    most = λ x e. later_le d (time x) h (is.most x e);
  }
  later_greatest Unbounded past = λ h. ((past (h -ℤ d)).0, (past (h -ℤ d)).1, later_past d (time (past (h -ℤ d)).0) h (past (h -ℤ d)).2)

  later_least : (e : End) → IsLeastEnd p time e → IsLeastEnd p (λ x. d +ℤ time x) (shifted_end d e)
  later_least (At h) is = record {
    attained = (is.attained.0, is.attained.1, ap (λ (v : ℤ). d +ℤ v) is.attained.2);
    least = λ x e. later_le d h (time x) (is.least x e);
  }
  later_least Unbounded past = λ h. ((past (h -ℤ d)).0, (past (h -ℤ d)).1, later_short d (time (past (h -ℤ d)).0) h (past (h -ℤ d)).2)

  pub later_ends : (e : Ends) → AreEndsOf p time e → AreEndsOf p (λ x. d +ℤ time x) (shifted d e)
  later_ends e are = record { below = later_least e.least are.below; above = later_greatest e.greatest are.above }

pub source_ends : (p : ProblemLists) (clock stamp : ℕ) (node : Node) (pair : Pair)
    → IsPairOf p (Reading clock stamp) node pair
    → AreEndsOf p (time_by clock stamp node) (shifted (pos (stamp * 1000000000)) (ends_of pair))
source_ends p clock stamp node pair is =
    later_ends p (time_difference (Reading clock stamp) node) (pos (stamp * 1000000000)) (ends_of pair) (ends_are p (Reading clock stamp) node pair is)
