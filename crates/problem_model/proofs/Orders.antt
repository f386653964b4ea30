-- The order of two nodes, from the greatest differences both ways.
use Rattle.std.proofs.Common.{◌≡◌, ℕ, List, arith}
use Rattle.std.specs.Prelude.{ℤ, pos, ◌≤ℤ◌, ◌<ℤ◌, ◌↔◌}
use Rattle.std.proofs.lemmas.Int.{ints}
use Rattle.problem_model.specs.Executions.{Arc, at, difference}
use Rattle.problem_model.specs.Differences.{IsGreatest, IsUnbounded, IsAlwaysBefore, IsSimultaneous}

-- p comes before q exactly where the greatest x_p - x_q is below 0
pub before_greatest : (nodes : ℕ) (arcs : List Arc) (p q : ℕ) (h : ℤ) → IsGreatest nodes arcs q p h → IsAlwaysBefore nodes arcs p q ↔ (h <ℤ pos 0)
before_greatest nodes arcs p q h g = (
  λ b.
      let l : at g.attained.0 p <ℤ at g.attained.0 q = b g.attained.0 g.attained.1 in
      let e : difference (at g.attained.0) q p ≡ h = g.attained.2 in
      omega (arith, ints),
  λ n xs x. (let m : difference (at xs) q p ≤ℤ h = g.most xs x in omega (arith, ints)),
)

-- where x_p - x_q is unbounded, p does not come before q
pub unbounded_not_before : (nodes : ℕ) (arcs : List Arc) (p q : ℕ) → IsUnbounded nodes arcs q p → IsAlwaysBefore nodes arcs p q → ⊥
unbounded_not_before nodes arcs p q u b =
    let more : pos 0 <ℤ difference (at (u (pos 0)).0) q p = (u (pos 0)).2 in
    let l : at (u (pos 0)).0 p <ℤ at (u (pos 0)).0 q = b (u (pos 0)).0 (u (pos 0)).1 in
    omega (arith, ints)

-- p and q come at the same time exactly where both greatest differences are 0
pub same_greatest : (nodes : ℕ) (arcs : List Arc) (p q : ℕ) (g h : ℤ)
    → IsGreatest nodes arcs p q g → IsGreatest nodes arcs q p h
    → IsSimultaneous nodes arcs p q ↔ ((g ≡ pos 0) × (h ≡ pos 0))
same_greatest nodes arcs p q g h a b = (
  λ s.
      let ea : at a.attained.0 p ≡ at a.attained.0 q = s a.attained.0 a.attained.1 in
      let da : difference (at a.attained.0) p q ≡ g = a.attained.2 in
      let eb : at b.attained.0 p ≡ at b.attained.0 q = s b.attained.0 b.attained.1 in
      let db : difference (at b.attained.0) q p ≡ h = b.attained.2 in
      (omega (arith, ints), omega (arith, ints)),
  λ z xs x.
      let ma : difference (at xs) p q ≤ℤ g = a.most xs x in
      let mb : difference (at xs) q p ≤ℤ h = b.most xs x in
      let zg : g ≡ pos 0 = z.0 in
      let zh : h ≡ pos 0 = z.1 in
      omega (arith, ints),
)

-- where x_q - x_p is unbounded, p and q do not come at the same time
pub unbounded_not_same : (nodes : ℕ) (arcs : List Arc) (p q : ℕ) → IsUnbounded nodes arcs p q → IsSimultaneous nodes arcs p q → ⊥
unbounded_not_same nodes arcs p q u s =
    let more : pos 0 <ℤ difference (at (u (pos 0)).0) p q = (u (pos 0)).2 in
    let e : at (u (pos 0)).0 p ≡ at (u (pos 0)).0 q = s (u (pos 0)).0 (u (pos 0)).1 in
    omega (arith, ints)
