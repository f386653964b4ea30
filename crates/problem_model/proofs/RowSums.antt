-- What one pop of a row adds to the sums over changed nodes.
use Rattle.std.proofs.Common.{◌≡◌, ℕ, ◌+◌, ◌<◌, ◌≤◌, Bool, true, false, refl, ap, sym, ◌∙◌, arith, inl, inr, ◌⊎◌}
use Rattle.std.specs.Prelude.{ℤ, ◌≤ℤ◌, ◌<ℤ◌, ◌≢◌, ◌||◌, ◌&&◌, not, if◌then◌else◌, int_lt}
use Rattle.std.proofs.lemmas.Int.{ints}
use Rattle.std.proofs.lemmas.Bool.{cases_Bool}
use Rattle.problem_model.specs.Tables.{ArcTable, ObeysAll}
use Rattle.problem_model.specs.Parents.{Cells}
use Rattle.problem_model.specs.RowPops.{reduced, IsFresh, IsRelaxing, IsNearer, IsRowStep}
use Rattle.problem_model.specs.Sums.{is_changed, changed_sum, done_sum}
use Rattle.problem_model.proofs.Sums.{sum-same, sum-more, sum_few, sum_zero, lt_true, lt_false}
use Rattle.problem_model.proofs.RowPops.{nearer_not_final, popped_rests, popped_fresh}

changed_fresh : (a b : ℤ) (h k : Bool) → h ≡ true → (k ≡ false) ⊎ (a <ℤ b) → ((int_lt a b || int_lt b a) || (if h then not k else k)) ≡ true
changed_fresh a b h k e f = elim f [
  | inl q ↦ rw (e, q) (or_true (int_lt a b || int_lt b a))
  | inr l ↦ rw (lt_true a b l) refl
]
  where
    or_true : (b : Bool) → (b || true) ≡ true
    or_true true = refl
    or_true false = refl

unchanged_same : (a b : ℤ) (h k : Bool) → a ≡ b → h ≡ k → ((int_lt a b || int_lt b a) || (if h then not k else k)) ≡ false
unchanged_same a b h k e f = rw (e, f, lt_false b b (omega (arith, ints))) (both k)
  where
    both : (k : Bool) → (if k then not k else k) ≡ false
    both true = refl
    both false = refl

and_false : (b : Bool) → (b && false) ≡ false
and_false true = refl
and_false false = refl

module _ (nodes : ℕ) (table : ArcTable) (p : ℕ) (e : ℕ → ℤ) (top : ℤ) (rank : ℕ → ℕ) (old c c' : Cells) (waits waits' : ℕ → Bool) (node : ℕ)
    (b : IsRelaxing table p e top rank old c waits)
    (x : ObeysAll table e)
    (waiting : waits node ≡ true)
    (least : (k : ℕ) → waits k ≡ true → reduced e c node ≤ℤ reduced e c k)
    (s : IsRowStep table node c c' waits waits')
    (l : node < nodes)
  where
    -- the flag of a node that is not popped stays
    flag_same : (k : ℕ) → k ≢ node → (is_changed old c' k && not (waits' k)) ≡ (is_changed old c k && not (waits k))
    flag_same k n = elim (s.each k) [
      | inl q ↦ elim q.waiting [
        | inl w ↦ absurd (n w.0)
        | inr w ↦ rw (q.known, q.value, w.1) refl
      ]
      | inr r ↦ (let now : (is_changed old c' k && not (waits' k)) ≡ false = rw r.waiting (and_false (is_changed old c' k)) in now ∙ sym (before r))
    ]
      where
        before : IsNearer table node c c' waits' k → (is_changed old c k && not (waits k)) ≡ false
        before r = elim (cases_Bool (waits k)) [
          | inl w ↦ rw w (and_false (is_changed old c k))
          | inr w ↦ elim (b.each k) [
            | inl u ↦ rw (unchanged_same (c.value k) (old.value k) (c.known k) (old.known k) u.value u.known) refl
            | inr t ↦ absurd (nearer_not_final table p e top rank old c c' waits waits' node b x waiting least s k r t.known (inl (b.below k w t.known t.fresh)))
          ]
        ]

    flag_before : (is_changed old c node && not (waits node)) ≡ false
    flag_before = rw waiting (and_false (is_changed old c node))

    flag_after : (is_changed old c' node && not (waits' node)) ≡ true
    flag_after =
        let r : (waits' node ≡ false) × (c'.known node ≡ c.known node) × (c'.value node ≡ c.value node) = popped_rests table p e top rank old c c' waits waits' node b x waiting least s in
        let f : (c.known node ≡ true) × IsFresh old c node = popped_fresh table p e top rank old c c' waits waits' node b x waiting least s in
        rw (r.1, r.2, r.0, changed_fresh (c.value node) (old.value node) (c.known node) (old.known node) f.0 f.1) refl

    -- one more pop costs what its node costs
    pub cost_step : (each : ℕ → ℕ) → done_sum nodes each old c' waits' ≡ done_sum nodes each old c waits + each node
    cost_step each = sum-more nodes node (each node) (λ k. if is_changed old c k && not (waits k) then each k else 0) (λ k. if is_changed old c' k && not (waits' k) then each k else 0) l
        (rw (flag_before, flag_after) (omega arith))
        (λ k n. ap (λ v. if v then each k else 0) (flag_same k n))

-- at most one for each node
pub done_few : (nodes : ℕ) (old c : Cells) (waits : ℕ → Bool) → done_sum nodes (λ k. 1) old c waits ≤ nodes
done_few nodes old c waits = sum_few nodes (λ k. if is_changed old c k && not (waits k) then 1 else 0) (λ k. one (is_changed old c k && not (waits k)))
  where
    one : (b : Bool) → (if b then 1 else 0) ≤ 1
    one true = omega arith
    one false = omega arith

-- where none waits, all changed nodes are done
pub done_all : (nodes : ℕ) (each : ℕ → ℕ) (old c : Cells) (waits : ℕ → Bool)
    → ((k : ℕ) → waits k ≡ false)
    → done_sum nodes each old c waits ≡ changed_sum nodes each old c
done_all nodes each old c waits none = sum-same nodes (λ k. if is_changed old c k then each k else 0) (λ k. if is_changed old c k && not (waits k) then each k else 0)
    (λ k l. rw (none k) (ap (λ v. if v then each k else 0) (and_true (is_changed old c k))))
  where
    and_true : (b : Bool) → (b && true) ≡ b
    and_true true = refl
    and_true false = refl

-- at the start none is done: each node waits or is unchanged
pub done_none : (nodes : ℕ) (each : ℕ → ℕ) (old c : Cells) (waits : ℕ → Bool)
    → ((k : ℕ) → (waits k ≡ true) ⊎ ((c.value k ≡ old.value k) × (c.known k ≡ old.known k)))
    → done_sum nodes each old c waits ≡ 0
done_none nodes each old c waits h = sum_zero nodes (λ k. if is_changed old c k && not (waits k) then each k else 0) (λ k. elim (h k) [
  | inl w ↦ rw w (rw (and_false (is_changed old c k)) refl)
  | inr q ↦ rw (unchanged_same (c.value k) (old.value k) (c.known k) (old.known k) q.0 q.1) refl
])
