-- The earliest execution is read off a closed table.
use Rattle.std.proofs.Common.{◌≡◌, ◌⊎◌, ◌<◌, ℕ, zero, suc, List, Option, Some, None, refl, ◌∙◌, subst, arith, inl, inr, get_or}
use Rattle.std.specs.Prelude.{ℤ, pos, neg_ℤ, ◌+ℤ◌, ◌≤ℤ◌}
use Rattle.std.specs.Int.{int_max}
use Rattle.std.proofs.lemmas.Int.{ints, clamps, by_lt_z}
use Rattle.std.proofs.lemmas.Bool.{cases_lt, cases_eq}
use Rattle.std.proofs.lemmas.List.{get_or_past}
use Rattle.problem_model.specs.Executions.{Arc, at, difference, Obeys, IsExecution, AreWithin, values_by}
use Rattle.problem_model.specs.Earliest.{IsNonNegative, IsEarliest}
use Rattle.problem_model.specs.Paths.{sum_of}
use Rattle.problem_model.proofs.Executions.{at-values_by, execution_by}
use Rattle.problem_model.proofs.Paths.{path_bound}
use Rattle.attain.proofs.Tables.{IsAtMost, Table, IsClosed}

-- no less than before, nor than what is there is below 0
abbrev pub raised : Option ℤ → ℤ → ℤ
raised None x = x
raised (Some s) x = int_max x (neg_ℤ s)

-- the greatest of 0 and of how far below 0 the sums to the first so many nodes are
abbrev pub lead : (ℕ → Option ℤ) → ℕ → ℤ
lead sums zero = pos 0
lead sums (suc n) = raised (sums n) (lead sums n)

-- it never falls
raised_up : (o : Option ℤ) (x : ℤ) → x ≤ℤ raised o x
raised_up None x = omega (arith, ints)
raised_up (Some s) x = omega (arith, ints, clamps)

-- and it is above what is below 0
raised_over : (o : Option ℤ) (x s : ℤ) → IsAtMost o s → neg_ℤ s ≤ℤ raised o x
raised_over None x s is = absurd is
raised_over (Some t) x s is = omega (arith, ints, clamps, is)

-- it is one of these two
raised_is : (o : Option ℤ) (x : ℤ) → (raised o x ≡ x) ⊎ ((s : ℤ) × IsAtMost o s × (raised o x ≡ neg_ℤ s))
raised_is None x = inl refl
raised_is (Some s) x = by_lt_z {P = (int_max x (neg_ℤ s) ≡ x) ⊎ ((t : ℤ) × (s ≤ℤ t) × (int_max x (neg_ℤ s) ≡ neg_ℤ t))} x (neg_ℤ s)
    (λ less. inr (s, omega (arith, ints), omega (arith, ints, clamps)))
    (λ more. inl (omega (arith, ints, clamps)))

module _ (sums : ℕ → Option ℤ) where
  -- it is 0 or more
  lead_low : (n : ℕ) → pos 0 ≤ℤ lead sums n
  lead_low zero = omega (arith, ints)
  lead_low (suc n) = let low : pos 0 ≤ℤ lead sums n = lead_low n in let up : lead sums n ≤ℤ raised (sums n) (lead sums n) = raised_up (sums n) (lead sums n) in omega (arith, ints)

  -- and no sum to a node is farther below 0
  lead_over : (n q : ℕ) (s : ℤ) → q < n → IsAtMost (sums q) s → neg_ℤ s ≤ℤ lead sums n
  lead_over zero q s below is = absurd (omega (arith, below))
  lead_over (suc n) q s below is = elim (cases_eq q n) [
    | inl same ↦ raised_over (sums n) (lead sums n) s (subst (λ k. IsAtMost (sums k) s) same is)
    | inr other ↦
        let rest : neg_ℤ s ≤ℤ lead sums n = lead_over n q s (omega (arith, below, other)) is in
        let up : lead sums n ≤ℤ raised (sums n) (lead sums n) = raised_up (sums n) (lead sums n) in
        omega (arith, ints)
  ]

  -- it is 0, or the sum to a node gives it
  abbrev pub IsLead : ℕ → ℤ → Type 0
  IsLead n x = (x ≡ pos 0) ⊎ ((q : ℕ) × (s : ℤ) × (q < n) × IsAtMost (sums q) s × (x ≡ neg_ℤ s))

  -- nothing else gives it
  lead_is : (n : ℕ) → IsLead n (lead sums n)
  lead_is zero = inl refl
  lead_is (suc n) = elim (raised_is (sums n) (lead sums n)) [
    | inr (s, is, gives) ↦ inr (n, s, omega arith, is, gives)
    | inl same ↦ elim (lead_is n) [
      | inl none ↦ inl (same ∙ none)
      | inr (q, s, below, is, gives) ↦ inr (q, s, omega (arith, below), is, same ∙ gives)
    ]
  ]

-- a node is as late as the least sums from it ask for
abbrev pub earliest_by : ℕ → Table → ℕ → ℤ
earliest_by nodes d k = lead (d k) nodes

module _ (nodes : ℕ) (arcs : List Arc) (d : Table) (within : AreWithin nodes arcs) (closed : IsClosed arcs d) where
  abbrev value : ℕ → ℤ
  value k = earliest_by nodes d k

  -- each arc is obeyed, since what leads on from its head leads on from its tail
  arc_obeyed : (a : Arc) → a.to < nodes → IsAtMost (d a.from a.to) a.weight → Obeys value a
  arc_obeyed a inside is = elim (lead_is (d a.to) nodes) [
    | inl none ↦ (let over : neg_ℤ a.weight ≤ℤ value a.from = lead_over (d a.from) nodes a.to a.weight inside is in omega (arith, ints, none))
    | inr (q, s, below, is', gives) ↦
        let over : neg_ℤ (a.weight +ℤ s) ≤ℤ value a.from = lead_over (d a.from) nodes q (a.weight +ℤ s) below (closed.joined a.from a.to q a.weight s is is') in
        omega (arith, ints, gives)
  ]

  -- so the values are an execution
  by_table : IsExecution nodes arcs (values_by (earliest_by nodes d) nodes)
  by_table = execution_by (earliest_by nodes d) nodes arcs within (λ k e inside. arc_obeyed (get_or arcs k e) (within k e inside).1 (closed.along k e inside))

  -- the list has the value of a node, and 0 behind the nodes
  value_is : (k : ℕ) → ((k < nodes) × (at (values_by (earliest_by nodes d) nodes) k ≡ value k)) ⊎ (at (values_by (earliest_by nodes d) nodes) k ≡ pos 0)
  value_is k = elim (cases_lt k nodes) [
    | inl inside ↦ inl (inside, at-values_by (earliest_by nodes d) nodes k inside)
    | inr past ↦ inr (get_or_past (values_by (earliest_by nodes d) nodes) k (pos 0) (omega (arith, past, by_table.one_each)))
  ]

  -- along the path of the sum that gives it no other execution comes earlier
  lead_least : (ys : List ℤ) → IsExecution nodes arcs ys → IsNonNegative (at ys) → (k : ℕ) → value k ≤ℤ at ys k
  lead_least ys execution low k = elim (lead_is (d k) nodes) [
    | inl none ↦ (let above : pos 0 ≤ℤ at ys k = low k in omega (arith, ints, none))
    | inr (q, s, below, is, gives) ↦
        let (steps, path, few) = closed.path k q s is in
        let most : difference (at ys) k q ≤ℤ sum_of steps = path_bound nodes arcs k q steps ys path execution in
        let above : pos 0 ≤ℤ at ys q = low q in
        omega (arith, ints, few, gives)
  ]

  -- so the values are the earliest execution
  pub earliest_is : IsEarliest nodes arcs (values_by (earliest_by nodes d) nodes)
  earliest_is = record {
    execution = by_table;
    non_negative = λ k. elim (value_is k) [
      | inl is ↦ (let low : pos 0 ≤ℤ value k = lead_low (d k) nodes in omega (arith, ints, is.1))
      | inr none ↦ omega (arith, ints, none)
    ];
    least = λ ys execution low k. elim (value_is k) [
      | inl is ↦ (let least : value k ≤ℤ at ys k = lead_least ys execution low k in omega (arith, ints, is.1))
      | inr none ↦ (let above : pos 0 ≤ℤ at ys k = low k in omega (arith, ints, none))
    ];
  }
