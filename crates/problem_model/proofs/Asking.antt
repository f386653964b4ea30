-- The arcs that arrive at a popped node are met one after the other.
use Rattle.std.proofs.Common.{◌≡◌, ℕ, ◌+◌, ◌<◌, ◌≤◌, true, List, length, get_or, ap, sym, ◌∙◌, subst, arith, inl, inr, ◌⊎◌}
use Rattle.std.specs.Prelude.{ℤ, pos, ◌+ℤ◌, ◌-ℤ◌, ◌≤ℤ◌, ◌<ℤ◌, ◌≢◌}
use Rattle.std.proofs.lemmas.Int.{ints}
use Rattle.std.proofs.lemmas.Bool.{cases_eq}
use Rattle.problem_model.specs.Tables.{ArcTable}
use Rattle.problem_model.specs.Insertions.{Raises, IsMet, IsAsked, IsRaiseStep, IsAsking, IsRaisedTo}

-- the popped node has its raise, and none waits there any more
pub asking_start : (table : ArcTable) (node : ℕ) (entries : List ℕ) (s s' : Raises)
    → s'.value node ≡ s.value node +ℤ s.raise node → s'.raise node ≡ pos 0 → s'.parent node ≡ s.parent node
    → ((k : ℕ) → k ≢ node → (s'.value k ≡ s.value k) × (s'.raise k ≡ s.raise k) × (s'.parent k ≡ s.parent k))
    → IsAsking table node entries 0 s s'
asking_start table node entries s s' lifted rests parent others = record {
  lifted = lifted;
  others = λ k n. (others k n).0;
  each = λ k. elim (cases_eq k node) [
    | inl q ↦ inl (record { raise = inl (q, ap s'.raise q ∙ rests); parent = subst (λ v. s'.parent v ≡ s.parent v) (sym q) parent })
    | inr n ↦ inl (record { raise = inr (n, (others k n).1); parent = (others k n).2 })
  ];
  met = λ m l _. absurd (omega arith);
}

-- an arc that is met already
pub asking_kept : (table : ArcTable) (node : ℕ) (entries : List ℕ) (count : ℕ) (s s' : Raises) (j : ℕ)
    → IsAsking table node entries count s s' → get_or entries count 0 ≡ j → IsMet table s' j
    → IsAsking table node entries (count + 1) s s'
asking_kept table node entries count s s' j a e m = record {
  lifted = a.lifted;
  others = a.others;
  each = a.each;
  met = λ i l k. elim (cases_eq i count) [
    | inl q ↦ subst (λ v. IsMet table s' v) (sym e ∙ ap (λ n. get_or entries n 0) (sym q)) m
    | inr n ↦ a.met i (omega arith) k
  ];
}

-- an arc that asks its tail for a greater raise
module _ (table : ArcTable) (node : ℕ) (entries : List ℕ) (count : ℕ) (s s1 s2 : Raises) (j : ℕ) (r : ℤ)
    (a : IsAsking table node entries count s s1)
    (e : get_or entries count 0 ≡ j)
    (in_force : table.in_force j ≡ true)
    (ends : (table.arc j).to ≡ node)
    (equal : s1.value (table.arc j).from +ℤ r ≡ s1.value node -ℤ (table.arc j).weight)
    (greater : s1.raise (table.arc j).from <ℤ r)
    (positive : pos 0 <ℤ r)
    (put : IsRaisedTo s1 s2 (table.arc j).from r j)
  where
    grows : (k : ℕ) → s1.raise k ≤ℤ s2.raise k
    grows k = elim (cases_eq k (table.arc j).from) [
      | inl q ↦ subst (λ v. s1.raise v ≤ℤ s2.raise v) (sym q) (omega (arith, ints, put.raise))
      | inr n ↦ omega (arith, ints, (put.others k n).0)
    ]

    tail_greater : ((table.arc j).from ≡ node) ⊎ (s.raise (table.arc j).from <ℤ r)
    tail_greater = elim (a.each (table.arc j).from) [
      | inl q ↦ elim q.raise [ inl w ↦ inl w.0 | inr w ↦ inr (omega (arith, ints, w.1)) ]
      | inr q ↦ elim q.greater [ inl w ↦ inl w | inr w ↦ inr (let g : s.raise (table.arc j).from <ℤ s1.raise (table.arc j).from = w in omega (arith, ints)) ]
    ]

    tail_asked : IsAsked table node s s2 (table.arc j).from
    tail_asked = record {
      in_force = ap table.in_force put.parent_is ∙ in_force;
      begins = ap (λ i. (table.arc i).from) put.parent_is;
      ends = ap (λ i. (table.arc i).to) put.parent_is ∙ ends;
      equal = subst (λ i. s2.value (table.arc j).from +ℤ s2.raise (table.arc j).from ≡ s2.value node -ℤ (table.arc i).weight)
          (sym put.parent_is) (omega (arith, ints, put.value (table.arc j).from, put.value node, put.raise));
      positive = omega (arith, ints, put.raise);
      greater = elim tail_greater [ inl w ↦ inl w | inr w ↦ inr (let g : s.raise (table.arc j).from <ℤ r = w in omega (arith, ints, put.raise)) ];
    }

    asked_still : (k : ℕ) → k ≢ (table.arc j).from → IsAsked table node s s1 k → IsAsked table node s s2 k
    asked_still k n q =
        let o : (s2.raise k ≡ s1.raise k) × (s2.parent k ≡ s1.parent k) = put.others k n in
        let p : pos 0 <ℤ s1.raise k = q.positive in
        record {
          in_force = ap table.in_force o.1 ∙ q.in_force;
          begins = ap (λ i. (table.arc i).from) o.1 ∙ q.begins;
          ends = ap (λ i. (table.arc i).to) o.1 ∙ q.ends;
          equal = subst (λ i. s2.value k +ℤ s2.raise k ≡ s2.value node -ℤ (table.arc i).weight) (sym o.1)
              (let e1 : s1.value k +ℤ s1.raise k ≡ s1.value node -ℤ (table.arc (s1.parent k)).weight = q.equal in omega (arith, ints, put.value k, put.value node, o.0));
          positive = omega (arith, ints, o.0);
          greater = elim q.greater [ inl w ↦ inl w | inr w ↦ inr (let g : s.raise k <ℤ s1.raise k = w in omega (arith, ints, o.0)) ];
        }

    pub asking_raised : IsAsking table node entries (count + 1) s s2
    asking_raised = record {
      lifted = put.value node ∙ a.lifted;
      others = λ k n. put.value k ∙ a.others k n;
      each = λ k. elim (cases_eq k (table.arc j).from) [
        | inl q ↦ inr (subst (λ v. IsAsked table node s s2 v) (sym q) tail_asked)
        | inr n ↦ elim (a.each k) [
          | inl q ↦ inl (record { raise = elim q.raise [ inl w ↦ inl (w.0, (put.others k n).0 ∙ w.1) | inr w ↦ inr (w.0, (put.others k n).0 ∙ w.1) ]; parent = (put.others k n).1 ∙ q.parent })
          | inr q ↦ inr (asked_still k n q)
        ]
      ];
      met = λ i l k. elim (cases_eq i count) [
        | inl q ↦ subst (λ v. IsMet table s2 v) (sym e ∙ ap (λ n. get_or entries n 0) (sym q))
            (let v : s2.value (table.arc j).to ≡ s2.value node = ap s2.value ends in omega (arith, ints, put.value (table.arc j).from, put.value node, put.raise))
        | inr n ↦ met_before (get_or entries i 0) (a.met i (omega arith) k)
      ];
    }
      where
        met_before : (i : ℕ) → IsMet table s1 i → IsMet table s2 i
        met_before i m = omega (arith, ints, put.value (table.arc i).to, put.value (table.arc i).from, grows (table.arc i).from)

-- where all arcs that arrive are met, the pop is done
pub asking_done : (table : ArcTable) (node : ℕ) (entries : List ℕ) (count : ℕ) (s s' : Raises)
    → IsAsking table node entries count s s' → length entries ≤ count
    → ((j : ℕ) → table.in_force j ≡ true → (table.arc j).to ≡ node → (m : ℕ) × (m < length entries) × (get_or entries m 0 ≡ j))
    → IsRaiseStep table node s s'
asking_done table node entries count s s' a l all = record {
  lifted = a.lifted;
  others = a.others;
  each = a.each;
  met = λ j f t. (let r : (m : ℕ) × (m < length entries) × (get_or entries m 0 ≡ j) = all j f t in subst (λ v. IsMet table s' v) r.2 (a.met r.0 (omega (arith, r.1)) r.1));
}
