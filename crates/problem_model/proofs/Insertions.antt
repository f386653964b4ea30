-- One pop of an insertion, and what stands at its end.
use Rattle.std.proofs.Common.{◌≡◌, ℕ, ◌+◌, ◌<◌, ◌≤◌, true, List, [], ◌∷◌, length, refl, ap, sym, ◌∙◌, subst, arith, inl, inr, ◌⊎◌}
use Rattle.std.specs.Prelude.{ℤ, pos, ◌+ℤ◌, ◌-ℤ◌, ◌≤ℤ◌, ◌<ℤ◌, ◌≢◌, All, Contains}
use Rattle.std.proofs.lemmas.Int.{ints}
use Rattle.std.proofs.lemmas.Bool.{cases_eq}
use Rattle.std.proofs.lemmas.List.Elements.{All-nil, All-cons}
use Rattle.problem_model.specs.Executions.{Arc, at, Obeys, AreWithin}
use Rattle.problem_model.specs.Paths.{Joins, sum_of, IsContradiction}
use Rattle.problem_model.specs.Earliest.{IsNonNegative, IsEarliest}
use Rattle.problem_model.specs.Tables.{ArcTable, Lists, ObeysAll, without}
use Rattle.problem_model.specs.Sums.{risen_sum}
use Rattle.problem_model.specs.Insertions.{Raises, IsMet, IsLifted, IsRaising, IsAsked, IsRaiseStep, FollowsParents, HasChain, HaveChains, IsFirstRaise}
use Rattle.problem_model.proofs.Tables.{obeys_all, execution_of_table, earliest_below, without-other, obeys_without}
use Rattle.problem_model.proofs.Sums.{risen-more, risen_fewer}

-- a chain stays where the parents of its first node and of all risen nodes stay, and risen nodes stay risen
follows_kept : (table : ArcTable) (old : ℕ → ℤ) (s s' : Raises) (head : ℕ)
    → ((t : ℕ) → old t <ℤ s.value t → (s'.parent t ≡ s.parent t) × (old t <ℤ s'.value t)) → (steps : List Arc) (k : ℕ)
    → s'.parent k ≡ s.parent k → FollowsParents table old s head k steps
    → FollowsParents table old s' head k steps
follows_kept table old s s' head keeps [] k e f = f
follows_kept table old s s' head keeps (a ∷ []) k e f = (subst (λ j. table.in_force j ≡ true) (sym e) f.0, ap table.arc e ∙ f.1, f.2, tt, f.4)
follows_kept table old s s' head keeps (a ∷ b ∷ steps) k e f = (
  subst (λ j. table.in_force j ≡ true) (sym e) f.0,
  ap table.arc e ∙ f.1,
  f.2,
  (keeps a.to f.3).1,
  follows_kept table old s s' head keeps (b ∷ steps) a.to (keeps a.to f.3).0 f.4,
)

follows_joins : (table : ArcTable) (old : ℕ → ℤ) (s : Raises) (head : ℕ) (steps : List Arc) (k : ℕ)
    → FollowsParents table old s head k steps
    → Joins k steps head
follows_joins table old s head [] k f = f
follows_joins table old s head (a ∷ steps) k f = (f.2, follows_joins table old s head steps a.to f.4)

follows_within : (table : ArcTable) (arcs : List Arc) (old : ℕ → ℤ) (s : Raises) (head : ℕ)
    → Lists table arcs → (steps : List Arc) (k : ℕ) → FollowsParents table old s head k steps
    → All (Contains arcs) steps
follows_within table arcs old s head l [] k f = All-nil (Contains arcs)
follows_within table arcs old s head l (a ∷ steps) k f =
    All-cons (Contains arcs) a steps (subst (λ b. Contains arcs b) f.1 (l.all (s.parent k) f.0)) (follows_within table arcs old s head l steps a.to f.4)

-- where the head itself is to rise, its chain of parents is a contradiction of at most as many arcs as nodes
pub stuck_contradiction : (nodes : ℕ) (table : ArcTable) (arcs : List Arc) (old : ℕ → ℤ) (s : Raises) (head : ℕ)
    → Lists table arcs → (h : HasChain nodes table old s head head) → head < nodes → s.value head ≡ old head → pos 0 <ℤ s.raise head
    → IsContradiction arcs (h.first ∷ h.rest) × (length (h.first ∷ h.rest) ≤ nodes)
stuck_contradiction nodes table arcs old s head l h lh same waits =
    let sum : s.value head +ℤ s.raise head +ℤ sum_of (h.first ∷ h.rest) ≡ old head = h.sum in
    let few : risen_sum nodes (λ _. 1) old s.value < nodes = risen_fewer nodes old s.value head lh (omega (arith, ints)) in
    let short : length h.rest ≤ risen_sum nodes (λ _. 1) old s.value = h.short in (
      record {
        closed = (
          head,
          record {
            within = follows_within table arcs old s head l (h.first ∷ h.rest) head h.follows;
            joined = follows_joins table old s head (h.first ∷ h.rest) head h.follows;
          },
        );
        negative = omega (arith, ints);
      },
      omega arith,
    )

-- where no raise waits the values are the earliest execution
pub settled_earliest : (nodes : ℕ) (table : ArcTable) (arcs : List Arc) (head : ℕ) (first top : ℤ) (old : ℕ → ℤ) (s : Raises) (xs : List ℤ)
    → Lists table arcs → IsRaising table head first top old s → IsNonNegative old → ((k : ℕ) → s.raise k ≤ℤ pos 0) → length xs ≡ nodes
    → ((k : ℕ) → at xs k ≡ s.value k)
    → IsEarliest nodes arcs xs
settled_earliest nodes table arcs head first top old s xs l b low none one same =
    let zero_at : (k : ℕ) → s.raise k ≡ pos 0 = λ k. (let a : pos 0 ≤ℤ s.raise k = b.from_zero k in let z : s.raise k ≤ℤ pos 0 = none k in omega (arith, ints)) in
    record {
      execution = execution_of_table nodes table arcs xs l one (λ j f.
          let m : IsMet table s j = b.met j f (zero_at (table.arc j).to) in
          let z : s.raise (table.arc j).from ≡ pos 0 = zero_at (table.arc j).from in
          omega (arith, ints, same (table.arc j).to, same (table.arc j).from));
      non_negative = λ k. (let o : pos 0 ≤ℤ old k = low k in elim (b.each k) [ inl e ↦ omega (arith, ints, same k) | inr d ↦ (let r : old k <ℤ s.value k = d.risen in omega (arith, ints, same k)) ]);
      least = λ ys y p k. (let m : (s.value k +ℤ s.raise k) ≤ℤ at ys k = b.least (at ys) (obeys_all nodes table arcs ys l y) p k in
          let z : s.raise k ≡ pos 0 = zero_at k in omega (arith, ints, same k));
    }

module _ (nodes : ℕ) (table : ArcTable) (head : ℕ) (first top : ℤ) (old : ℕ → ℤ) (s s' : Raises) (node : ℕ)
    (b : IsRaising table head first top old s)
    (not_head : node ≢ head)
    (waits : pos 0 <ℤ s.raise node)
    (greatest : (k : ℕ) → s.raise k ≤ℤ s.raise node)
    (obeyed : (j : ℕ) → table.in_force j ≡ true → (table.arc j).to ≢ head → Obeys old (table.arc j))
    (st : IsRaiseStep table node s s')
  where
    -- the popped node has its old value
    node_old : s.value node ≡ old node
    node_old = elim (b.each node) [ inl e ↦ e | inr d ↦ (let z : s.raise node ≡ pos 0 = d.rests in absurd (omega (arith, ints))) ]

    node_low : pos 0 ≤ℤ s'.raise node
    node_low = elim (st.each node) [
      | inl q ↦ elim q.raise [ inl w ↦ omega (arith, ints, w.1) | inr w ↦ absurd (w.0 refl) ]
      | inr q ↦ (let z : pos 0 <ℤ s'.raise node = q.positive in omega (arith, ints))
    ]

    -- no sum of value and raise falls
    sum_grows : (k : ℕ) → (s.value k +ℤ s.raise k) ≤ℤ (s'.value k +ℤ s'.raise k)
    sum_grows k = elim (cases_eq k node) [
      | inl e ↦ subst (λ v. (s.value v +ℤ s.raise v) ≤ℤ (s'.value v +ℤ s'.raise v)) (sym e) (omega (arith, ints, st.lifted, node_low))
      | inr n ↦ elim (st.each k) [
        | inl q ↦ elim q.raise [ inl w ↦ absurd (n w.0) | inr w ↦ omega (arith, ints, st.others k n, w.1) ]
        | inr q ↦ elim q.greater [ inl w ↦ absurd (n w) | inr w ↦ (let g : s.raise k <ℤ s'.raise k = w in omega (arith, ints, st.others k n)) ]
      ]
    ]

    -- an asked node comes to at most its old value and the raise of the popped node
    asked_bound : (k : ℕ) → IsAsked table node s s' k → (s'.value k +ℤ s'.raise k) ≤ℤ (old k +ℤ s.raise node)
    asked_bound k q =
        let j : ℕ = s'.parent k in
        let o : Obeys old (table.arc j) = obeyed j q.in_force (λ e. not_head (sym q.ends ∙ e)) in
        let to : old (table.arc j).to ≡ old node = ap old q.ends in
        let from : old (table.arc j).from ≡ old k = ap old q.begins in
        let e : s'.value k +ℤ s'.raise k ≡ s'.value node -ℤ (table.arc j).weight = q.equal in
        omega (arith, ints, st.lifted, node_old)

    asked_other : (k : ℕ) → IsAsked table node s s' k → k ≢ node
    asked_other k q e =
        let h : (s'.value k +ℤ s'.raise k) ≤ℤ (old k +ℤ s.raise node) = asked_bound k q in
        let v : s'.value k ≡ s'.value node = ap s'.value e in
        let o : old k ≡ old node = ap old e in
        let p : pos 0 <ℤ s'.raise k = q.positive in
        omega (arith, ints, st.lifted, node_old)

    -- an asked node has its old value, and a raise of at most that of the popped node
    asked_old : (k : ℕ) → IsAsked table node s s' k → (s.value k ≡ old k) × (s'.raise k ≤ℤ s.raise node)
    asked_old k q =
        let v : s'.value k ≡ s.value k = st.others k (asked_other k q) in
        let h : (s'.value k +ℤ s'.raise k) ≤ℤ (old k +ℤ s.raise node) = asked_bound k q in
        let p : pos 0 <ℤ s'.raise k = q.positive in
        let t : s.raise node ≤ℤ top = b.below_top node in
        elim (b.each k) [ inl e ↦ (e, omega (arith, ints)) | inr d ↦ absurd (let m : (old k +ℤ top) ≤ℤ s.value k = d.enough in omega (arith, ints)) ]

    lifted_node : IsLifted (s.raise node) old s' node
    lifted_node = record {
      rests = elim (st.each node) [
        | inl q ↦ elim q.raise [ inl w ↦ w.1 | inr w ↦ absurd (w.0 refl) ]
        | inr q ↦ absurd (asked_other node q refl)
      ];
      risen = omega (arith, ints, st.lifted, node_old);
      enough = omega (arith, ints, st.lifted, node_old);
    }

    each' : (k : ℕ) → (s'.value k ≡ old k) ⊎ IsLifted (s.raise node) old s' k
    each' k = elim (st.each k) [
      | inl q ↦ elim q.raise [
        | inl w ↦ inr (subst (λ v. IsLifted (s.raise node) old s' v) (sym w.0) lifted_node)
        | inr w ↦ elim (b.each k) [
          | inl o ↦ inl (st.others k w.0 ∙ o)
          | inr d ↦
              let t : s.raise node ≤ℤ top = b.below_top node in
              let r : old k <ℤ s.value k = d.risen in
              let m : (old k +ℤ top) ≤ℤ s.value k = d.enough in
              inr (record { rests = w.1 ∙ d.rests; risen = omega (arith, ints, st.others k w.0); enough = omega (arith, ints, st.others k w.0) })
        ]
      ]
      | inr q ↦ inl (st.others k (asked_other k q) ∙ (asked_old k q).0)
    ]

    met' : (j : ℕ) → table.in_force j ≡ true → s'.raise (table.arc j).to ≡ pos 0 → IsMet table s' j
    met' j f z = elim (cases_eq (table.arc j).to node) [
      | inl e ↦ st.met j f e
      | inr n ↦
          let tail_sum : (s.value (table.arc j).from +ℤ s.raise (table.arc j).from) ≤ℤ (s'.value (table.arc j).from +ℤ s'.raise (table.arc j).from) = sum_grows (table.arc j).from in
          let head_sum : (s.value (table.arc j).to +ℤ s.raise (table.arc j).to) ≤ℤ (s'.value (table.arc j).to +ℤ s'.raise (table.arc j).to) = sum_grows (table.arc j).to in
          let same : s'.value (table.arc j).to ≡ s.value (table.arc j).to = st.others (table.arc j).to n in
          let low : pos 0 ≤ℤ s.raise (table.arc j).to = b.from_zero (table.arc j).to in
          let before : s.raise (table.arc j).to ≡ pos 0 = omega (arith, ints) in
          let m : IsMet table s j = b.met j f before in
          omega (arith, ints)
    ]

    least' : (y : ℕ → ℤ) → ObeysAll table y → IsNonNegative y → (k : ℕ) → (s'.value k +ℤ s'.raise k) ≤ℤ y k
    least' y o p k =
        let lk : (s.value k +ℤ s.raise k) ≤ℤ y k = b.least y o p k in
        let ln : (s.value node +ℤ s.raise node) ≤ℤ y node = b.least y o p node in
        elim (st.each k) [
          | inl q ↦ elim q.raise [
            | inl w ↦ (let v : s'.value k ≡ s'.value node = ap s'.value w.0 in let yk : y k ≡ y node = ap y w.0 in omega (arith, ints, w.1, st.lifted))
            | inr w ↦ omega (arith, ints, st.others k w.0, w.1)
          ]
          | inr q ↦
              let j : ℕ = s'.parent k in
              let e : s'.value k +ℤ s'.raise k ≡ s'.value node -ℤ (table.arc j).weight = q.equal in
              let to : y (table.arc j).to ≡ y node = ap y q.ends in
              let from : y (table.arc j).from ≡ y k = ap y q.begins in
              let oj : Obeys y (table.arc j) = o j q.in_force in
              omega (arith, ints, st.lifted)
        ]

    -- what holds between pops holds after one more
    pub raising_step : IsRaising table head first (s.raise node) old s'
    raising_step = record {
      from_zero = λ k. (let z : pos 0 ≤ℤ s.raise k = b.from_zero k in elim (st.each k) [
        | inl q ↦ elim q.raise [ inl w ↦ omega (arith, ints, w.1) | inr w ↦ omega (arith, ints, w.1) ]
        | inr q ↦ (let p : pos 0 <ℤ s'.raise k = q.positive in omega (arith, ints))
      ]);
      below_top = λ k. (let g : s.raise k ≤ℤ s.raise node = greatest k in elim (st.each k) [
        | inl q ↦ elim q.raise [ inl w ↦ omega (arith, ints, w.1) | inr w ↦ omega (arith, ints, w.1) ]
        | inr q ↦ (asked_old k q).1
      ]);
      below_first = (let t : s.raise node ≤ℤ top = b.below_top node in let u : top ≤ℤ first = b.below_first in omega (arith, ints));
      head_kept = st.others head (λ e. not_head (sym e)) ∙ b.head_kept;
      each = each';
      high = λ k. elim (cases_eq k node) [
        | inl e ↦ subst (λ v. s'.value v ≤ℤ (old v +ℤ first)) (sym e) (let t : s.raise node ≤ℤ top = b.below_top node in
            let u : top ≤ℤ first = b.below_first in omega (arith, ints, st.lifted, node_old))
        | inr n ↦ (let h : s.value k ≤ℤ (old k +ℤ first) = b.high k in omega (arith, ints, st.others k n))
      ];
      met = met';
      least = least';
    }

    risen_kept : (t : ℕ) → old t <ℤ s.value t → (s'.parent t ≡ s.parent t) × (old t <ℤ s'.value t)
    risen_kept t d =
        let n : t ≢ node = (λ e. (let v : s.value t ≡ s.value node = ap s.value e in let o : old t ≡ old node = ap old e in omega (arith, ints, node_old))) in (
          elim (st.each t) [ inl q ↦ q.parent | inr q ↦ (let o : s.value t ≡ old t = (asked_old t q).0 in absurd (omega (arith, ints))) ],
          omega (arith, ints, st.others t n),
        )

    -- one pop adds exactly its node to those that have risen
    pub risen_step : (each : ℕ → ℕ) → node < nodes → risen_sum nodes each old s'.value ≡ risen_sum nodes each old s.value + each node
    risen_step each l = risen-more nodes each old s.value s'.value node l (omega (arith, ints, node_old)) (omega (arith, ints, st.lifted, node_old)) st.others

    chain_kept : node < nodes
        → (k : ℕ) → s'.parent k ≡ s.parent k → s'.value k +ℤ s'.raise k ≡ s.value k +ℤ s.raise k → HasChain nodes table old s head k
        → HasChain nodes table old s' head k
    chain_kept l k p v h = record {
      first = h.first;
      rest = h.rest;
      follows = follows_kept table old s s' head risen_kept (h.first ∷ h.rest) k p h.follows;
      sum = ap (λ x. x +ℤ sum_of (h.first ∷ h.rest)) v ∙ h.sum;
      short = (let r : risen_sum nodes (λ _. 1) old s'.value ≡ risen_sum nodes (λ _. 1) old s.value + 1 = risen_step (λ _. 1) l in
          let m : length h.rest ≤ risen_sum nodes (λ _. 1) old s.value = h.short in omega arith);
    }

    chain_asked : node < nodes → (k : ℕ) → IsAsked table node s s' k → HasChain nodes table old s head node → HasChain nodes table old s' head k
    chain_asked l k q h =
        let j : ℕ = s'.parent k in
        let p : s'.parent node ≡ s.parent node = elim (st.each node) [ inl w ↦ w.parent | inr w ↦ absurd (asked_other node w refl) ] in
        let chain : FollowsParents table old s' head node (h.first ∷ h.rest) = follows_kept table old s s' head risen_kept (h.first ∷ h.rest) node p h.follows in
        let goes : old node <ℤ s'.value node = lifted_node.risen in
        let r : risen_sum nodes (λ _. 1) old s'.value ≡ risen_sum nodes (λ _. 1) old s.value + 1 = risen_step (λ _. 1) l in
        let m : length h.rest ≤ risen_sum nodes (λ _. 1) old s.value = h.short in
        let sum : s.value node +ℤ s.raise node +ℤ sum_of (h.first ∷ h.rest) ≡ old head = h.sum in
        let e : s'.value k +ℤ s'.raise k ≡ s'.value node -ℤ (table.arc j).weight = q.equal in
        record {
          first = table.arc j;
          rest = h.first ∷ h.rest;
          follows = (
            q.in_force,
            refl,
            q.begins,
            subst (λ t. old t <ℤ s'.value t) (sym q.ends) goes,
            subst (λ t. FollowsParents table old s' head t (h.first ∷ h.rest)) (sym q.ends) chain,
          );
          sum = omega (arith, ints, st.lifted);
          short = omega arith;
        }

    -- the chains after one more pop
    pub chains_step : node < nodes → HaveChains nodes table old s head → HaveChains nodes table old s' head
    chains_step l h k c = elim (st.each k) [
      | inr q ↦ chain_asked l k q (h node (inl waits))
      | inl q ↦ elim q.raise [
        | inl w ↦ chain_kept l k q.parent
            (subst (λ v. s'.value v +ℤ s'.raise v ≡ s.value v +ℤ s.raise v) (sym w.0) (omega (arith, ints, st.lifted, lifted_node.rests)))
            (subst (λ v. HasChain nodes table old s head v) (sym w.0) (h node (inl waits)))
        | inr w ↦ chain_kept l k q.parent (omega (arith, ints, st.others k w.0, w.1))
            (h k (elim c [
              | inl x ↦ inl (let x1 : pos 0 <ℤ s'.raise k = x in omega (arith, ints, w.1))
              | inr x ↦ inr (let x1 : old k <ℤ s'.value k = x in omega (arith, ints, st.others k w.0))
            ]))
      ]
    ]

-- the start: the earliest execution of the arcs but the new one
module _ (nodes : ℕ) (table : ArcTable) (arcs before : List Arc) (new : ℕ) (olds : List ℤ)
    (now : Lists table arcs)
    (then_was : Lists (without table new) before)
    (within : AreWithin nodes before)
    (e : IsEarliest nodes before olds)
  where
    -- each arc but the new one is obeyed
    pub obeyed_before : (j : ℕ) → table.in_force j ≡ true → j ≢ new → Obeys (at olds) (table.arc j)
    obeyed_before j f n = obeys_all nodes (without table new) before olds then_was e.execution j (without-other table new j n ∙ f)

    -- so each arc that leads elsewhere is obeyed
    pub obeyed_elsewhere : (j : ℕ) → table.in_force j ≡ true → (table.arc j).to ≢ (table.arc new).to → Obeys (at olds) (table.arc j)
    obeyed_elsewhere j f n = obeyed_before j f (λ q. n (ap (λ i. (table.arc i).to) q))

    -- nothing that obeys all arcs is below the old values
    least_before : (y : ℕ → ℤ) → ObeysAll table y → IsNonNegative y → (k : ℕ) → at olds k ≤ℤ y k
    least_before y o p = earliest_below nodes (without table new) before olds then_was within e y (obeys_without table new y o) p

    -- where the old values obey the new arc they are the earliest execution already
    pub kept_earliest : Obeys (at olds) (table.arc new) → IsEarliest nodes arcs olds
    kept_earliest o = record {
      execution = execution_of_table nodes table arcs olds now e.execution.one_each (λ j f. elim (cases_eq j new) [
        | inl q ↦ subst (λ i. Obeys (at olds) (table.arc i)) (sym q) o
        | inr n ↦ obeyed_before j f n
      ]);
      non_negative = e.non_negative;
      least = λ ys y p k. least_before (at ys) (obeys_all nodes table arcs ys now y) p k;
    }

    module _ (r : ℤ) (s : Raises)
        (in_force : table.in_force new ≡ true)
        (start : IsFirstRaise table new r (at olds) s)
      where
        raise_low : (k : ℕ) → pos 0 ≤ℤ s.raise k
        raise_low k = let p : pos 0 <ℤ r = start.positive in elim (cases_eq k (table.arc new).from) [
          | inl q ↦ (let v : s.raise k ≡ r = ap s.raise q ∙ start.raise in omega (arith, ints))
          | inr n ↦ omega (arith, ints, start.others k n)
        ]

        pub first_raising : IsRaising table (table.arc new).to r r (at olds) s
        first_raising = let p : pos 0 <ℤ r = start.positive in record {
          from_zero = raise_low;
          below_top = λ k. elim (cases_eq k (table.arc new).from) [
            | inl q ↦ (let v : s.raise k ≡ r = ap s.raise q ∙ start.raise in omega (arith, ints))
            | inr n ↦ omega (arith, ints, start.others k n)
          ];
          below_first = omega (arith, ints);
          head_kept = start.value (table.arc new).to;
          each = λ k. inl (start.value k);
          high = λ k. omega (arith, ints, start.value k);
          met = λ j f z. elim (cases_eq j new) [
            | inl q ↦ subst (λ i. IsMet table s i) (sym q) (omega (arith, ints, start.value (table.arc new).to, start.value (table.arc new).from, start.raise, start.equal))
            | inr n ↦
                let o : Obeys (at olds) (table.arc j) = obeyed_before j f n in
                let low : pos 0 ≤ℤ s.raise (table.arc j).from = raise_low (table.arc j).from in
                omega (arith, ints, start.value (table.arc j).to, start.value (table.arc j).from)
          ];
          least = λ y o low k. elim (cases_eq k (table.arc new).from) [
            | inl q ↦
                let oj : Obeys y (table.arc new) = o new in_force in
                let h : at olds (table.arc new).to ≤ℤ y (table.arc new).to = least_before y o low (table.arc new).to in
                let v : s.raise k ≡ r = ap s.raise q ∙ start.raise in
                let x : s.value k ≡ at olds (table.arc new).from = ap s.value q ∙ start.value (table.arc new).from in
                let yk : y k ≡ y (table.arc new).from = ap y q in
                omega (arith, ints, start.equal)
            | inr n ↦ (let h : at olds k ≤ℤ y k = least_before y o low k in omega (arith, ints, start.value k, start.others k n))
          ];
        }

        pub first_chains : HaveChains nodes table (at olds) s (table.arc new).to
        first_chains k c = elim (cases_eq k (table.arc new).from) [
          | inl q ↦ subst (λ v. HasChain nodes table (at olds) s (table.arc new).to v) (sym q) (record {
            first = table.arc new;
            rest = [];
            follows = (subst (λ j. table.in_force j ≡ true) (sym start.parent) in_force, ap table.arc start.parent, refl, tt, refl);
            sum = omega (arith, ints, start.value (table.arc new).from, start.raise, start.equal);
            short = omega arith;
          })
          | inr n ↦ elim c [
            | inl w ↦ absurd (let w1 : pos 0 <ℤ s.raise k = w in omega (arith, ints, start.others k n))
            | inr d ↦ absurd (let d1 : at olds k <ℤ s.value k = d in omega (arith, ints, start.value k))
          ]
        ]
