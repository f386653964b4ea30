-- What following parents gives: a path, and bounds on the values.
use Rattle.std.proofs.Common.{◌≡◌, ℕ, zero, suc, ◌+◌, ◌-◌, ◌*◌, ◌<◌, ◌≤◌, true, false, List, [], ◌∷◌, ◌++◌, length, length-append, get_or, refl, ap, sym, ◌∙◌, subst, arith, inl, inr}
use Rattle.std.specs.Prelude.{ℤ, pos, ◌+ℤ◌, ◌-ℤ◌, ◌≤ℤ◌, Contains}
use Rattle.std.proofs.lemmas.Int.{ints}
use Rattle.std.proofs.lemmas.Bool.{cases_Bool, cases_lt}
use Rattle.std.proofs.lemmas.List.Elements.{All-nil, Contains-get_or}
use Rattle.problem_model.specs.Executions.{Arc, IsExecution, AreWithin}
use Rattle.problem_model.specs.Paths.{IsPath, sum_of}
use Rattle.problem_model.specs.Differences.{IsGreatest, IsUnbounded}
use Rattle.problem_model.specs.Rows.{IsClosedRow}
use Rattle.problem_model.specs.Reversal.{all_reversed, reversed, walked_back}
use Rattle.problem_model.specs.Tables.{ArcTable, Lists, ObeysAll, reversed_table}
use Rattle.problem_model.specs.Parents.{Cells, IsTight, LeadsBack, IsRow}
use Rattle.problem_model.proofs.Paths.{greatest_one, unbounded_not_greatest, path_push, sum_of-push}
use Rattle.problem_model.proofs.Reversal.{path_of_reversed, sum_of-walked_back}
use Rattle.problem_model.proofs.Tables.{lists_reversed}
use Rattle.problem_model.proofs.SimplePaths.{pigeons}
use Rattle.problem_model.proofs.Attaining.{known_greatest, unknown_unbounded}
use Rattle.problem_model.proofs.Towards.{towards_greatest, towards_unbounded}

-- a tight cell keeps so where its own cell and that of its tail stay
pub tight_kept : (table : ArcTable) (c c' : Cells) (k : ℕ) → IsTight table c k → c'.parent k ≡ c.parent k → c'.value k ≡ c.value k
    → c'.known (table.arc (c.parent k)).from ≡ true → c'.value (table.arc (c.parent k)).from ≡ c.value (table.arc (c.parent k)).from → IsTight table c' k
tight_kept table c c' k t ep ev kt et = record {
  in_force = subst (λ j. table.in_force j ≡ true) (sym ep) t.in_force;
  ends = subst (λ j. (table.arc j).to ≡ k) (sym ep) t.ends;
  tail_known = subst (λ j. c'.known (table.arc j).from ≡ true) (sym ep) kt;
  value = subst (λ j. c'.value k ≡ c'.value (table.arc j).from +ℤ (table.arc j).weight) (sym ep)
      (let v : c.value k ≡ c.value (table.arc (c.parent k)).from +ℤ (table.arc (c.parent k)).weight = t.value in omega (arith, ints));
}

-- along a chain of parents no execution has more
pub chain_bound : (table : ArcTable) (p : ℕ) (c : Cells) (x : ℕ → ℤ)
    → ObeysAll table x → c.value p ≡ pos 0 → (n k : ℕ) → LeadsBack table p c n k
    → (x k -ℤ x p) ≤ℤ c.value k
chain_bound table p c x o z zero k r = let e : c.value k ≡ c.value p = ap c.value r in let e2 : x k ≡ x p = ap x r in omega (arith, ints)
chain_bound table p c x o z (suc n) k r =
    let h : (x (table.arc (c.parent k)).from -ℤ x p) ≤ℤ c.value (table.arc (c.parent k)).from = chain_bound table p c x o z n (table.arc (c.parent k)).from r.2 in
    let a : (x (table.arc (c.parent k)).to -ℤ x (table.arc (c.parent k)).from) ≤ℤ (table.arc (c.parent k)).weight = o (c.parent k) r.1.in_force in
    let e : x (table.arc (c.parent k)).to ≡ x k = ap x r.1.ends in
    let v : c.value k ≡ c.value (table.arc (c.parent k)).from +ℤ (table.arc (c.parent k)).weight = r.1.value in
    omega (arith, ints)

module _ (nodes : ℕ) (table : ArcTable) (p : ℕ) (c : Cells) where
  -- the node after i steps along the parents
  walk : ℕ → ℕ → ℕ
  walk zero k = k
  walk (suc i) k = walk i (table.arc (c.parent k)).from

  reaches_one : (n m k : ℕ) → LeadsBack table p c n k → LeadsBack table p c m k → n ≡ m
  reaches_one zero zero k a b = refl
  reaches_one zero (suc m) k a b = absurd (b.0 a)
  reaches_one (suc n) zero k a b = absurd (a.0 b)
  reaches_one (suc n) (suc m) k a b = ap suc (reaches_one n m (table.arc (c.parent k)).from a.2 b.2)

  walk_reaches : (i n m k : ℕ) → i + m ≡ n → LeadsBack table p c n k → LeadsBack table p c m (walk i k)
  unfolding walk
  walk_reaches zero n m k e r = let q : n ≡ m = omega arith in subst (λ v. LeadsBack table p c v k) q r
  walk_reaches (suc i) zero m k e r = absurd (omega arith)
  walk_reaches (suc i) (suc n) m k e r = walk_reaches i n m (table.arc (c.parent k)).from (omega arith) r.2

  walk_known : (i n k : ℕ) → i ≤ n → c.known k ≡ true → LeadsBack table p c n k → c.known (walk i k) ≡ true
  unfolding walk
  walk_known zero n k l h r = h
  walk_known (suc i) zero k l h r = absurd (omega arith)
  walk_known (suc i) (suc n) k l h r = walk_known i n (table.arc (c.parent k)).from (omega arith) r.1.tail_known r.2

  -- a chain of parents has fewer steps than there are nodes
  pub chain_short : ((k : ℕ) → c.known k ≡ true → k < nodes) → (n k : ℕ) → c.known k ≡ true → LeadsBack table p c n k → n < nodes
  chain_short within n k h r = pigeons nodes n (λ i. walk i k)
      (λ i l. within (walk i k) (walk_known i n k l h r))
      (λ i j li lj e.
      let ri : LeadsBack table p c (n - i) (walk i k) = walk_reaches i n (n - i) k (omega arith) r in
      let rj : LeadsBack table p c (n - j) (walk j k) = walk_reaches j n (n - j) k (omega arith) r in
      let q : n - i ≡ n - j = reaches_one (n - i) (n - j) (walk j k) (subst (λ v. LeadsBack table p c (n - i) v) e ri) rj in
      omega arith)

-- the value at n steps is at most n times the greatest weight
chain_high : (table : ArcTable) (p : ℕ) (c : Cells) (heavy : ℕ)
    → ((j : ℕ) → table.in_force j ≡ true → (table.arc j).weight ≤ℤ pos heavy) → c.value p ≡ pos 0 → (n k : ℕ) → LeadsBack table p c n k
    → c.value k ≤ℤ pos (n * heavy)
chain_high table p c heavy light z zero k r = let e : c.value k ≡ c.value p = ap c.value r in omega (arith, ints)
chain_high table p c heavy light z (suc n) k r =
    let h : c.value (table.arc (c.parent k)).from ≤ℤ pos (n * heavy) = chain_high table p c heavy light z n (table.arc (c.parent k)).from r.2 in
    let v : c.value k ≡ c.value (table.arc (c.parent k)).from +ℤ (table.arc (c.parent k)).weight = r.1.value in
    let w : (table.arc (c.parent k)).weight ≤ℤ pos heavy = light (c.parent k) r.1.in_force in
    let m : suc n * heavy ≡ n * heavy + heavy = grind arith in
    omega (arith, ints)

pub row_high : (nodes : ℕ) (table : ArcTable) (p : ℕ) (c : Cells) (heavy : ℕ)
    → IsRow nodes table p c → ((j : ℕ) → table.in_force j ≡ true → (table.arc j).weight ≤ℤ pos heavy) → (k : ℕ) → c.known k ≡ true
    → c.value k ≤ℤ pos (nodes * heavy)
row_high nodes table p c heavy r light k h =
    let ch : (n : ℕ) × (n < nodes) × LeadsBack table p c n k = r.back k h in
    let v : c.value k ≤ℤ pos (ch.0 * heavy) = chain_high table p c heavy light r.own.1 ch.0 k ch.2 in
    let m : ch.0 * heavy ≤ nodes * heavy = times ch.0 nodes heavy (omega (arith, ch.1)) in
    omega (arith, ints)
  where
    times : (a b c : ℕ) → a ≤ b → a * c ≤ b * c
    times a b c l = grind arith

-- following parents walks a path backwards, of the node's value and as many arcs
pub chain_path : (table : ArcTable) (arcs : List Arc) (p : ℕ) (c : Cells) → Lists table arcs → c.value p ≡ pos 0 → (n k : ℕ) → LeadsBack table p c n k
    → (steps : List Arc) × IsPath arcs p k steps × (sum_of steps ≡ c.value k) × (length steps ≡ n)
chain_path table arcs p c l z zero k r = ([], record { within = All-nil (Contains arcs); joined = sym r }, sym (ap c.value r ∙ z), refl)
chain_path table arcs p c l z (suc n) k r =
    let a : Arc = table.arc (c.parent k) in
    let h : (steps : List Arc) × IsPath arcs p a.from steps × (sum_of steps ≡ c.value a.from) × (length steps ≡ n) = chain_path table arcs p c l z n a.from r.2 in
    let e : sum_of h.0 ≡ c.value a.from = h.2 in
    let v : c.value k ≡ c.value a.from +ℤ a.weight = r.1.value in
    let m : length h.0 ≡ n = h.3 in (
      h.0 ++ a ∷ [],
      subst (λ q. IsPath arcs p q (h.0 ++ a ∷ [])) r.1.ends (path_push arcs p a.from h.0 a h.1 (l.all (c.parent k) r.1.in_force) refl),
      omega (arith, ints, sum_of-push h.0 a),
      omega (arith, length-append h.0 (a ∷ [])),
    )

module _ (nodes : ℕ) (table : ArcTable) (arcs : List Arc) (p : ℕ) (c : Cells)
    (l : Lists table arcs)
    (row : IsRow nodes table p c)
  where
    -- a path of the node's value, of fewer arcs than there are nodes
    pub row_path : (k : ℕ) → c.known k ≡ true → (steps : List Arc) × IsPath arcs p k steps × (sum_of steps ≡ c.value k) × (length steps < nodes)
    row_path k h =
        let b : (n : ℕ) × (n < nodes) × LeadsBack table p c n k = row.back k h in
        let w : (steps : List Arc) × IsPath arcs p k steps × (sum_of steps ≡ c.value k) × (length steps ≡ b.0) = chain_path table arcs p c l row.own.1 b.0 k b.2 in
        (w.0, w.1, w.2, (let m : length w.0 ≡ b.0 = w.3 in let f : b.0 < nodes = b.1 in omega arith))

    -- a row with parents is a closed row of the arcs in force
    pub row_closed : IsClosedRow arcs p c.known c.value
    row_closed = record {
      own = (row.own.0, row.own.1);
      along = λ k d lk. (let j : (j : ℕ) × (table.in_force j ≡ true) × (table.arc j ≡ get_or arcs k d) = l.only (get_or arcs k d) (Contains-get_or arcs k d lk) in
          subst (λ a. c.known a.from ≡ true → (c.known a.to ≡ true) × (c.value a.to ≤ℤ (c.value a.from +ℤ a.weight))) j.2 (row.along j.0 j.1));
      path = λ k h. (let w : (steps : List Arc) × IsPath arcs p k steps × (sum_of steps ≡ c.value k) × (length steps < nodes) = row_path k h in (w.0, w.1, w.2));
    }

    row_known_within : (k : ℕ) → c.known k ≡ true → k < nodes
    row_known_within k h = elim (cases_lt k nodes) [ inl m ↦ m | inr m ↦ absurd (let f : c.known k ≡ false = row.past k m in let g : ⊥ = cc in g) ]

    -- so its known cells are the greatest differences, and where no cell is known the difference is unbounded
    pub row_greatest : (xs : List ℤ)
        → AreWithin nodes arcs → IsExecution nodes arcs xs → (k : ℕ) → c.known k ≡ true
        → IsGreatest nodes arcs p k (c.value k)
    row_greatest xs w x k h = known_greatest nodes arcs p c.known c.value xs w row_closed x k (row_known_within p row.own.0) (row_known_within k h) h

    pub row_unbounded : (xs : List ℤ)
        → AreWithin nodes arcs → IsExecution nodes arcs xs → (k : ℕ) → k < nodes → c.known k ≡ false
        → IsUnbounded nodes arcs p k
    row_unbounded xs w x k lk h = unknown_unbounded nodes arcs p c.known c.value xs w row_closed x k (row_known_within p row.own.0) lk h

-- a row stands where a node without arcs comes in
pub row_grown : (nodes : ℕ) (table : ArcTable) (p : ℕ) (c : Cells) → IsRow nodes table p c → IsRow (nodes + 1) table p c
row_grown nodes table p c r = record {
  own = r.own;
  along = r.along;
  back = λ k h. (let b : (n : ℕ) × (n < nodes) × LeadsBack table p c n k = r.back k h in let l : b.0 < nodes = b.1 in (b.0, omega arith, b.2));
  past = λ k l. r.past k (omega arith);
}

-- two rows from one node know the same nodes, at the same distances
pub row_one : (nodes : ℕ) (table : ArcTable) (arcs : List Arc) (p : ℕ) (c c' : Cells) (xs : List ℤ)
    → Lists table arcs → AreWithin nodes arcs → IsExecution nodes arcs xs → IsRow nodes table p c → IsRow nodes table p c' → (k : ℕ) → k < nodes
    → (c.known k ≡ c'.known k) × (c.known k ≡ true → c.value k ≡ c'.value k)
row_one nodes table arcs p c c' xs l w x r r' k lk = elim (cases_Bool (c.known k)) [
  | inl t ↦ elim (cases_Bool (c'.known k)) [
    | inl t' ↦ (t ∙ sym t', λ h. greatest_one nodes arcs p k (c.value k) (c'.value k) (row_greatest nodes table arcs p c l r xs w x k t) (row_greatest nodes table arcs p c' l r' xs w x k t'))
    | inr f' ↦ absurd (unbounded_not_greatest nodes arcs p k (c.value k) (row_unbounded nodes table arcs p c' l r' xs w x k lk f') (row_greatest nodes table arcs p c l r xs w x k t))
  ]
  | inr f ↦ elim (cases_Bool (c'.known k)) [
    | inl t' ↦ absurd (unbounded_not_greatest nodes arcs p k (c'.value k) (row_unbounded nodes table arcs p c l r xs w x k lk f) (row_greatest nodes table arcs p c' l r' xs w x k t'))
    | inr f' ↦ (f ∙ sym f', λ h. absurd (let g : ⊥ = cc in g))
  ]
]

length-walked_back : (steps : List Arc) → length (walked_back steps) ≡ length steps
length-walked_back [] = refl
length-walked_back (a ∷ steps) = let h : length (walked_back steps) ≡ length steps = length-walked_back steps in omega (arith, length-append (walked_back steps) (reversed a ∷ []))

-- the row of the reversed table: distances towards p
module _ (nodes : ℕ) (table : ArcTable) (arcs : List Arc) (p : ℕ) (c : Cells)
    (l : Lists table arcs)
    (row : IsRow nodes (reversed_table table) p c)
  where
    pub towards_path : (k : ℕ) → c.known k ≡ true → (steps : List Arc) × IsPath arcs k p steps × (sum_of steps ≡ c.value k) × (length steps < nodes)
    towards_path k h =
        let w : (steps : List Arc) × IsPath (all_reversed arcs) p k steps × (sum_of steps ≡ c.value k) × (length steps < nodes) =
        row_path nodes (reversed_table table) (all_reversed arcs) p c (lists_reversed table arcs l) row k h in
        (walked_back w.0, path_of_reversed arcs p k w.0 w.1, sum_of-walked_back w.0 ∙ w.2, (let m : length w.0 < nodes = w.3 in omega (arith, length-walked_back w.0)))

    pub towards_closed : IsClosedRow (all_reversed arcs) p c.known c.value
    towards_closed = row_closed nodes (reversed_table table) (all_reversed arcs) p c (lists_reversed table arcs l) row

    towards_within : (k : ℕ) → c.known k ≡ true → k < nodes
    towards_within k h = row_known_within nodes (reversed_table table) (all_reversed arcs) p c (lists_reversed table arcs l) row k h

    pub towards_row_greatest : (xs : List ℤ) → AreWithin nodes arcs → IsExecution nodes arcs xs → (k : ℕ) → c.known k ≡ true → IsGreatest nodes arcs k p (c.value k)
    towards_row_greatest xs w x k h = towards_greatest nodes arcs p c.known c.value xs w towards_closed x k (towards_within p row.own.0) (towards_within k h) h

    pub towards_row_unbounded : (xs : List ℤ) → AreWithin nodes arcs → IsExecution nodes arcs xs → (k : ℕ) → k < nodes → c.known k ≡ false → IsUnbounded nodes arcs k p
    towards_row_unbounded xs w x k lk h = towards_unbounded nodes arcs p c.known c.value xs w towards_closed x k (towards_within p row.own.0) lk h
