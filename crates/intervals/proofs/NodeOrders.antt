-- The order of two nodes in all executions is that of the ends of their difference.
use Rattle.std.proofs.Common.{◌≡◌, arith}
use Rattle.std.specs.Prelude.{ℤ, pos, neg_ℤ, ◌-ℤ◌, ◌≤ℤ◌, ◌<ℤ◌, ◌↔◌}
use Rattle.std.proofs.lemmas.Int.{ints}
use Rattle.problem_model.specs.declared.items.Node.{Node}
use Rattle.problem_model.specs.Problem.{ProblemLists}
use Rattle.row_pool.specs.declared.cell.Reach.{Reach}
use Rattle.row_pool.specs.declared.cell.Reach.TheVariants as reaches
use Rattle.row_pool.specs.declared.cell.Pair.{Pair}
use Rattle.intervals.specs.declared.order.Order.{Order}
use Rattle.intervals.specs.declared.order.Order.TheVariants.{Before, After, Same, Undecided}
use Rattle.intervals.specs.Ends.{greatest_end, least_end, ends_of}
use Rattle.intervals.specs.Orders.{IsAbove, IsBelow, IsZero, IsOrder}
use Rattle.intervals.specs.Executions.{IsReachOf, IsPairOf, AlwaysComesBefore, ComeTogether, IsOrderOf}
use Rattle.intervals.proofs.Orders.{one_order}
use Rattle.intervals.proofs.Times.{are_interval}

-- ---- differences, and which number is less
falls : (a b h : ℤ) → a -ℤ b ≡ h → a <ℤ b → h <ℤ pos 0
falls a b h is lt = omega (arith, ints)

less : (a b h : ℤ) → (a -ℤ b) ≤ℤ h → h <ℤ pos 0 → a <ℤ b
less a b h le low = omega (arith, ints)

turned_up : (h : ℤ) → h <ℤ pos 0 → pos 0 <ℤ neg_ℤ h
turned_up h low = omega (arith, ints)

turned_down : (h : ℤ) → pos 0 <ℤ neg_ℤ h → h <ℤ pos 0
turned_down h high = omega (arith, ints)

not_less : (a b : ℤ) → pos 0 <ℤ (a -ℤ b) → a <ℤ b → ⊥
not_less a b high lt = omega (arith, ints)

none : (a b h : ℤ) → a -ℤ b ≡ h → a ≡ b → h ≡ pos 0
none a b h is same = omega (arith, ints)

turned_none : (h : ℤ) → h ≡ pos 0 → neg_ℤ h ≡ pos 0
turned_none h is = omega (arith, ints)

not_same : (a b : ℤ) → pos 0 <ℤ (a -ℤ b) → a ≡ b → ⊥
not_same a b high same = omega (arith, ints)

equal : (a b g h : ℤ) → (b -ℤ a) ≤ℤ g → (a -ℤ b) ≤ℤ h → neg_ℤ h ≡ pos 0 → g ≡ pos 0 → a ≡ b
equal a b g h le le' low high = omega (arith, ints)

turned_same : (a b : ℤ) → a ≡ b → b ≡ a
turned_same a b same = omega (arith, ints)

-- ---- each order
before : (p : ProblemLists) (from to : Node) (down : Reach) → IsReachOf p to from down → IsAbove (least_end down) ↔ AlwaysComesBefore p from to
before p from to (reaches.At h) is = (
  λ above x e. less (x from) (x to) h (is.most x e) (turned_down h above),
  λ b. turned_up h (falls (is.attained.0 from) (is.attained.0 to) h is.attained.2 (b is.attained.0 is.attained.1)),
)
before p from to reaches.Never past = (
  λ none_is. absurd none_is,
  λ b. not_less ((past (pos 0)).0 from) ((past (pos 0)).0 to) (past (pos 0)).2 (b (past (pos 0)).0 (past (pos 0)).1),
)

after : (p : ProblemLists) (from to : Node) (up : Reach) → IsReachOf p from to up → IsBelow (greatest_end up) ↔ AlwaysComesBefore p to from
after p from to (reaches.At h) is = (
  λ below x e. less (x to) (x from) h (is.most x e) below,
  λ b. falls (is.attained.0 to) (is.attained.0 from) h is.attained.2 (b is.attained.0 is.attained.1),
)
after p from to reaches.Never past = (
  λ none_is. absurd none_is,
  λ b. not_less ((past (pos 0)).0 to) ((past (pos 0)).0 from) (past (pos 0)).2 (b (past (pos 0)).0 (past (pos 0)).1),
)

-- x_q - x_p is unbounded
never_there : (p : ProblemLists) (from to : Node) → IsReachOf p from to reaches.Never → ComeTogether p from to → ⊥
never_there p from to past s =
    not_same ((past (pos 0)).0 to) ((past (pos 0)).0 from) (past (pos 0)).2
    (turned_same ((past (pos 0)).0 from) ((past (pos 0)).0 to) (s (past (pos 0)).0 (past (pos 0)).1))

never_back : (p : ProblemLists) (from to : Node) → IsReachOf p to from reaches.Never → ComeTogether p from to → ⊥
never_back p from to past s = not_same ((past (pos 0)).0 from) ((past (pos 0)).0 to) (past (pos 0)).2 (s (past (pos 0)).0 (past (pos 0)).1)

same : (p : ProblemLists) (from to : Node) (up down : Reach)
    → IsReachOf p from to up → IsReachOf p to from down
    → (IsZero (least_end down) × IsZero (greatest_end up)) ↔ ComeTogether p from to
same p from to (reaches.At g) (reaches.At h) there back = (
  λ zeros x e. equal (x from) (x to) g h (there.most x e) (back.most x e) zeros.0 zeros.1,
  λ s. (
    turned_none h (none (back.attained.0 from) (back.attained.0 to) h back.attained.2 (s back.attained.0 back.attained.1)),
    none (there.attained.0 to) (there.attained.0 from) g there.attained.2
        (turned_same (there.attained.0 from) (there.attained.0 to) (s there.attained.0 there.attained.1)),
  ),
)
same p from to (reaches.At g) reaches.Never there back = (λ zeros. absurd zeros.0, λ s. absurd (never_back p from to back s))
same p from to reaches.Never (reaches.At h) there back = (λ zeros. absurd zeros.1, λ s. absurd (never_there p from to there s))
same p from to reaches.Never reaches.Never there back = (λ zeros. absurd zeros.1, λ s. absurd (never_there p from to there s))

pub orders : (p : ProblemLists) (from to : Node) (pair : Pair) → IsPairOf p from to pair → (o : Order) → IsOrder (ends_of pair) o ↔ IsOrderOf p from to o
orders p from to pair is Before = before p from to pair.down is.back
orders p from to pair is After = after p from to pair.up is.there
orders p from to pair is Same = same p from to pair.up pair.down is.there is.back
orders p from to pair is Undecided =
    let b : IsAbove (least_end pair.down) ↔ AlwaysComesBefore p from to = before p from to pair.down is.back in
    let a : IsBelow (greatest_end pair.up) ↔ AlwaysComesBefore p to from = after p from to pair.up is.there in
    let s : (IsZero (least_end pair.down) × IsZero (greatest_end pair.up)) ↔ ComeTogether p from to = same p from to pair.up pair.down is.there is.back in (
      λ u. ((λ x. u.0 (b.1 x)), (λ x. u.1 (a.1 x)), (λ x. u.2 (s.1 x))),
      λ u. ((λ x. u.0 (b.0 x)), (λ x. u.1 (a.0 x)), (λ x. u.2 (s.0 x))),
    )

pub one_order_of : (p : ProblemLists) (from to : Node) (pair : Pair)
    → IsPairOf p from to pair → (a b : Order) → IsOrderOf p from to a → IsOrderOf p from to b
    → a ≡ b
one_order_of p from to pair is a b x y =
    one_order (ends_of pair) a b (are_interval p from to pair is) ((orders p from to pair is a).1 x) ((orders p from to pair is b).1 y)
