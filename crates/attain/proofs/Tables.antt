-- Tables of the least sums of paths between nodes.
use Rattle.std.proofs.Common.{◌≡◌, ◌==◌, ◌⊎◌, ℕ, List, [], Option, Some, None, refl, sym, ◌∙◌, subst, arith, inl, inr}
use Rattle.std.specs.Prelude.{ℤ, pos, ◌+ℤ◌, ◌≤ℤ◌, All, if◌then◌else◌}
use Rattle.std.specs.Int.{int_min}
use Rattle.std.proofs.lemmas.Int.{ints, clamps, by_lt_z}
use Rattle.std.proofs.lemmas.Bool.{cases_eq, eq-eqb, ne_eqb, cond-true, cond-false}
use Rattle.std.proofs.lemmas.List.Elements.{All-nil}
use Rattle.problem_model.specs.Executions.{Arc}
use Rattle.problem_model.specs.Paths.{sum_of, IsPath}

-- what is there is at most s
abbrev pub IsAtMost : Option ℤ → ℤ → Type 0
IsAtMost None s = ⊥
IsAtMost (Some t) s = t ≤ℤ s

-- the least sum from one node to another, where some path leads there
abbrev pub Table : Type 0
Table = ℕ → ℕ → Option ℤ

-- the sums are those of paths along the arcs, none closes below 0, each arc is one, and two that join are one
pub record IsClosed (arcs : List Arc) (d : Table) : Type 0 where
  pub own : (p : ℕ) → IsAtMost (d p p) (pos 0)
  pub sound : (p : ℕ) (s : ℤ) → IsAtMost (d p p) s → pos 0 ≤ℤ s
  pub path : (p q : ℕ) (s : ℤ) → IsAtMost (d p q) s → (steps : List Arc) × IsPath arcs p q steps × (sum_of steps ≤ℤ s)
  pub along : All (λ a. IsAtMost (d a.from a.to) a.weight) arcs
  pub joined : (p q r : ℕ) (s t : ℤ) → IsAtMost (d p q) s → IsAtMost (d q r) t → IsAtMost (d p r) (s +ℤ t)

-- what is at most s is at most more
pub at_more : (o : Option ℤ) (s t : ℤ) → IsAtMost o s → s ≤ℤ t → IsAtMost o t
at_more None s t is more = is
at_more (Some u) s t is more = omega (arith, ints, is)

-- without any arc each node has the sum 0 to itself
abbrev pub own_table : Table
own_table p q = if p == q then Some (pos 0) else None

-- a node has the sum 0 to itself
own_there : (p q : ℕ) → p ≡ q → own_table p q ≡ Some (pos 0)
own_there p q is = cond-true (p == q) (Some (pos 0)) None (eq-eqb p q is)

-- a sum is there from a node to itself alone, and is 0 or more
own_only : (p q : ℕ) (s : ℤ) → IsAtMost (own_table p q) s → (p ≡ q) × (pos 0 ≤ℤ s)
own_only p q s is = elim (cases_eq p q) [
  | inl same ↦ (same, subst (λ o. IsAtMost o s) (own_there p q same) is)
  | inr other ↦ absurd (subst (λ o. IsAtMost o s) (cond-false (p == q) (Some (pos 0)) None (ne_eqb p q other)) is)
]

-- and each number from 0 on is no less than that
own_at : (p q : ℕ) (s : ℤ) → p ≡ q → pos 0 ≤ℤ s → IsAtMost (own_table p q) s
own_at p q s is low = subst (λ o. IsAtMost o s) (sym (own_there p q is)) low

-- that is the closed table of no arcs
pub own_closed : IsClosed [] own_table
own_closed = record {
  own = λ p. own_at p p (pos 0) refl (omega (arith, ints));
  sound = λ p s is. (own_only p p s is).1;
  path = λ p q s is. ([], record { within = All-nil _; joined = (own_only p q s is).0 }, (own_only p q s is).1);
  along = All-nil _;
  joined = λ p q r s t is is'.
      let first = own_only p q s is in
      let second = own_only q r t is' in
      let low : pos 0 ≤ℤ s = first.1 in
      let low' : pos 0 ≤ℤ t = second.1 in
      own_at p r (s +ℤ t) (first.0 ∙ second.0) (omega (arith, ints));
}

-- the lesser of two sums that may be there
abbrev pub lesser : Option ℤ → Option ℤ → Option ℤ
lesser None o = o
lesser (Some s) None = Some s
lesser (Some s) (Some t) = Some (int_min s t)

-- the lesser is no more than either
pub lesser_first : (a b : Option ℤ) (s : ℤ) → IsAtMost a s → IsAtMost (lesser a b) s
lesser_first None b s is = absurd is
lesser_first (Some t) None s is = is
lesser_first (Some t) (Some u) s is = omega (arith, ints, clamps, is)

pub lesser_second : (a b : Option ℤ) (s : ℤ) → IsAtMost b s → IsAtMost (lesser a b) s
lesser_second None b s is = is
lesser_second (Some t) None s is = absurd is
lesser_second (Some t) (Some u) s is = omega (arith, ints, clamps, is)

-- and it is one of the two
pub lesser_one : (a b : Option ℤ) (s : ℤ) → IsAtMost (lesser a b) s → IsAtMost a s ⊎ IsAtMost b s
lesser_one None b s is = inr is
lesser_one (Some t) None s is = inl is
lesser_one (Some t) (Some u) s is = by_lt_z {P = (t ≤ℤ s) ⊎ (u ≤ℤ s)} s t (λ less. inr (omega (arith, ints, clamps, is))) (λ more. inl more)

-- the sum of two sums and a weight between them, where both are there
abbrev pub through : Option ℤ → ℤ → Option ℤ → Option ℤ
through None w o = None
through (Some s) w None = None
through (Some s) w (Some t) = Some ((s +ℤ w) +ℤ t)

-- two parts make a way through
pub through_at : (a b : Option ℤ) (w s t : ℤ) → IsAtMost a s → IsAtMost b t → IsAtMost (through a w b) ((s +ℤ w) +ℤ t)
through_at None b w s t is is' = absurd is
through_at (Some u) None w s t is is' = absurd is'
through_at (Some u) (Some v) w s t is is' = omega (arith, ints, is, is')

-- a way through has two parts
pub record IsThrough (a b : Option ℤ) (w s : ℤ) : Type 0 where
  pub before : ℤ
  pub behind : ℤ
  pub first : IsAtMost a before
  pub last : IsAtMost b behind
  pub sum : ((before +ℤ w) +ℤ behind) ≤ℤ s

-- and each way through is made of two
pub through_parts : (a b : Option ℤ) (w s : ℤ) → IsAtMost (through a w b) s → IsThrough a b w s
through_parts None b w s is = absurd is
through_parts (Some u) None w s is = absurd is
through_parts (Some u) (Some v) w s is = record { before = u; behind = v; first = omega (arith, ints); last = omega (arith, ints); sum = is }
