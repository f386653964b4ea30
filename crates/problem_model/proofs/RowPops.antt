-- One pop of a row keeps what holds between two pops.
use Rattle.std.proofs.Common.{◌≡◌, ℕ, ◌+◌, ◌*◌, ◌<◌, ◌≤◌, Bool, true, false, refl, ap, sym, ◌∙◌, subst, arith, inl, inr, ◌⊎◌}
use Rattle.std.specs.Prelude.{ℤ, pos, ◌+ℤ◌, ◌-ℤ◌, ◌≤ℤ◌, ◌<ℤ◌, ◌≢◌}
use Rattle.std.proofs.lemmas.Int.{ints}
use Rattle.problem_model.specs.Tables.{ArcTable, ObeysAll}
use Rattle.problem_model.specs.Parents.{Cells, IsRelaxed, IsReached}
use Rattle.problem_model.proofs.Parents.{tight_kept}
use Rattle.problem_model.specs.RowPops.{reduced, IsFresh, IsFinal, IsUntouched, IsGiven, IsTouched, IsRelaxing, IsSameCell, IsNearer, IsRowStep, IsHigh}

-- the rank of a node after one more pop
abbrev rank_by : {A B : Type 0} → ℕ → ℕ → A ⊎ B → ℕ
rank_by node_rank own (inl _) = own
rank_by node_rank own (inr _) = node_rank + 1

-- what holds after a pop, with ranks that rose by one at most and values that rose by one arc at most
pub record IsPopped (table : ArcTable) (p : ℕ) (e : ℕ → ℤ) (top : ℤ) (rank : ℕ → ℕ) (old c c' : Cells) (waits' : ℕ → Bool) : Type 0 where
  pub ranks : ℕ → ℕ
  pub relaxing : IsRelaxing table p e top ranks old c' waits'
  pub few : (most : ℕ) → ((k : ℕ) → rank k ≤ most) → (k : ℕ) → ranks k ≤ most + 1
  pub high : (base heavy : ℕ) → ((j : ℕ) → table.in_force j ≡ true → (table.arc j).weight ≤ℤ pos heavy) → IsHigh base heavy rank c → IsHigh base heavy ranks c'

one_more : (base r heavy : ℕ) → base + (r + 1) * heavy ≡ base + r * heavy + heavy
one_more base r heavy = grind arith

module _ (table : ArcTable) (p : ℕ) (e : ℕ → ℤ) (top : ℤ) (rank : ℕ → ℕ) (old c c' : Cells) (waits waits' : ℕ → Bool) (node : ℕ)
    (b : IsRelaxing table p e top rank old c waits)
    (x : ObeysAll table e)
    (waiting : waits node ≡ true)
    (least : (k : ℕ) → waits k ≡ true → reduced e c node ≤ℤ reduced e c k)
    (s : IsRowStep table node c c' waits waits')
  where
    touched : IsTouched table p e top rank old c waits node
    touched = elim (b.each node) [ inl u ↦ absurd (let r : waits node ≡ false = u.rests in let g : ⊥ = cc in g) | inr t ↦ t ]

    node_above : top ≤ℤ reduced e c node
    node_above = b.above node waiting

    -- a nearer node is at least as far as the popped one
    nearer_above : (k : ℕ) → IsNearer table node c c' waits' k → reduced e c node ≤ℤ reduced e c' k
    nearer_above k n =
        let o : (e (table.arc (c'.parent k)).to -ℤ e (table.arc (c'.parent k)).from) ≤ℤ (table.arc (c'.parent k)).weight = x (c'.parent k) n.in_force in
        let e1 : e (table.arc (c'.parent k)).from ≡ e node = ap e n.begins in
        let e2 : e (table.arc (c'.parent k)).to ≡ e k = ap e n.ends in
        let v : c'.value k ≡ c.value node +ℤ (table.arc (c'.parent k)).weight = n.value in
        omega (arith, ints)

    -- no execution has more between p and a nearer node
    nearer_bound : (k : ℕ) → IsNearer table node c c' waits' k → (y : ℕ → ℤ) → ObeysAll table y → (y k -ℤ y p) ≤ℤ c'.value k
    nearer_bound k n y oy =
        let o : (y (table.arc (c'.parent k)).to -ℤ y (table.arc (c'.parent k)).from) ≤ℤ (table.arc (c'.parent k)).weight = oy (c'.parent k) n.in_force in
        let e1 : y (table.arc (c'.parent k)).from ≡ y node = ap y n.begins in
        let e2 : y (table.arc (c'.parent k)).to ≡ y k = ap y n.ends in
        let v : c'.value k ≡ c.value node +ℤ (table.arc (c'.parent k)).weight = n.value in
        let bn : (y node -ℤ y p) ≤ℤ c.value node = b.bound y oy node touched.known in
        omega (arith, ints)

    -- what is known and final is not nearer
    pub nearer_not_final : (k : ℕ) → IsNearer table node c c' waits' k → c.known k ≡ true → IsFinal table p e top c k → ⊥
    nearer_not_final k n h f =
        let a : reduced e c node ≤ℤ reduced e c' k = nearer_above k n in
        let t : top ≤ℤ reduced e c node = node_above in
        elim n.nearer [
          | inl g ↦ (let g1 : c.known k ≡ false = g in cc)
          | inr l ↦ (let l1 : c'.value k <ℤ c.value k = l in elim f [
            | inl r ↦ (let r1 : reduced e c k ≤ℤ top = r in absurd (omega (arith, ints)))
            | inr w ↦ (let bd : (w.0 k -ℤ w.0 p) ≤ℤ c'.value k = nearer_bound k n w.0 w.1 in let eq : w.0 k -ℤ w.0 p ≡ c.value k = w.2 in absurd (omega (arith, ints)))
          ])
        ]

    nearer_not_node : (k : ℕ) → IsNearer table node c c' waits' k → k ≢ node
    nearer_not_node k n q =
        let a : reduced e c node ≤ℤ reduced e c' node = subst (λ v. reduced e c node ≤ℤ reduced e c' v) q (nearer_above k n) in
        elim n.nearer [
          | inl f ↦ (let t : c.known node ≡ true = touched.known in let f2 : c.known node ≡ false = ap c.known (sym q) ∙ f in cc)
          | inr l ↦ (let l2 : c'.value node <ℤ c.value node = subst (λ v. c'.value v <ℤ c.value v) q l in absurd (omega (arith, ints)))
        ]

    falls : (k : ℕ) → c.known k ≡ true → (c'.known k ≡ true) × (c'.value k ≤ℤ c.value k)
    falls k h = elim (s.each k) [
      | inl q ↦ (q.known ∙ h, omega (arith, ints, q.value))
      | inr n ↦ (n.known, elim n.nearer [ inl f ↦ absurd (let g : ⊥ = cc in g) | inr l ↦ (let l1 : c'.value k <ℤ c.value k = l in omega (arith, ints)) ])
    ]

    -- the popped node keeps its cell, and waits no more
    node_same : IsSameCell node c c' waits waits' node
    node_same = elim (s.each node) [ inl q ↦ q | inr n ↦ absurd (nearer_not_node node n refl) ]

    node_rests : waits' node ≡ false
    node_rests = elim node_same.waiting [ inl w ↦ w.1 | inr w ↦ absurd (w.0 refl) ]

    -- what is known, waits not and is final keeps its cell
    final_same : (k : ℕ)
        → c.known k ≡ true → waits k ≡ false → IsFinal table p e top c k
        → (c'.known k ≡ true) × (c'.value k ≡ c.value k) × (waits' k ≡ false)
    final_same k h w f = elim (s.each k) [
      | inl q ↦ (q.known ∙ h, q.value, elim q.waiting [ inl v ↦ v.1 | inr v ↦ v.1 ∙ w ])
      | inr n ↦ absurd (nearer_not_final k n h f)
    ]

    final_kept : (k : ℕ) → c'.value k ≡ c.value k → IsFinal table p e top c k → IsFinal table p e (reduced e c node) c' k
    final_kept k v f = elim f [
      | inl r ↦ inl (let r1 : reduced e c k ≤ℤ top = r in let t : top ≤ℤ reduced e c node = node_above in omega (arith, ints))
      | inr w ↦ inr (w.0, w.1, w.2 ∙ sym v)
    ]

    -- ranks after the pop
    rank' : ℕ → ℕ
    rank' k = rank_by (rank node) (rank k) (s.each k)

    rank-same : (k : ℕ) → c.known k ≡ true → waits k ≡ false → IsFinal table p e top c k → rank' k ≡ rank k
    unfolding rank'
    rank-same k h w f = elim (s.each k) as (λ v. rank_by (rank node) (rank k) v ≡ rank k) [ inl q ↦ refl | inr n ↦ absurd (nearer_not_final k n h f) ]

    -- a rank never falls where the cell is the same
    rank-cases : (k : ℕ)
        → (IsSameCell node c c' waits waits' k × (rank' k ≡ rank k)) ⊎ (IsNearer table node c c' waits' k × (rank' k ≡ rank node + 1))
    unfolding rank'
    rank-cases k = elim (s.each k)
        as (λ v. (IsSameCell node c c' waits waits' k × (rank_by (rank node) (rank k) v ≡ rank k)) ⊎ (IsNearer table node c c' waits' k × (rank_by (rank node) (rank k) v ≡ rank node + 1)))
        [ inl q ↦ inl (q, refl) | inr n ↦ inr (n, refl) ]

    fresh_before : (k : ℕ) → c'.value k ≡ c.value k → IsFresh old c' k → IsFresh old c k
    fresh_before k v f = elim f [ inl u ↦ inl u | inr l ↦ inr (let l1 : c'.value k <ℤ old.value k = l in omega (arith, ints)) ]

    -- the tail of a touched node's parent
    given_kept : (k : ℕ)
        → IsSameCell node c c' waits waits' k → rank' k ≡ rank k → IsGiven table p e top rank old c waits k
        → IsGiven table p e (reduced e c node) rank' old c' waits' k
    given_kept k q r g =
        let t : ℕ = (table.arc (c.parent k)).from in
        let keeps : (c'.known t ≡ true) × (c'.value t ≡ c.value t) × (waits' t ≡ false) = final_same t g.tight.tail_known g.rests g.final in
        let et : (table.arc (c'.parent k)).from ≡ t = ap (λ i. (table.arc i).from) q.parent in
        record {
          away = g.away;
          tight = tight_kept table c c' k g.tight q.parent q.value keeps.0 keeps.1;
          rests = ap waits' et ∙ keeps.2;
          final = subst (λ v. IsFinal table p e (reduced e c node) c' v) (sym et) (final_kept t keeps.1 g.final);
          ranked = subst (λ v. IsFresh old c' v → rank' v < rank' k) (sym et) (λ f.
              let l : rank t < rank k = g.ranked (fresh_before t keeps.1 f) in
              let rt : rank' t ≡ rank t = rank-same t g.tight.tail_known g.rests g.final in
              omega arith);
        }

    node_final : IsFinal table p e (reduced e c node) c' node
    node_final = inl (let v : c'.value node ≡ c.value node = node_same.value in omega (arith, ints))

    rank-node : rank' node ≡ rank node
    rank-node = elim (rank-cases node) [ inl q ↦ q.1 | inr n ↦ absurd (nearer_not_node node n.0 refl) ]

    given_nearer : (k : ℕ)
        → k ≢ p → IsNearer table node c c' waits' k → rank' k ≡ rank node + 1
        → IsGiven table p e (reduced e c node) rank' old c' waits' k
    given_nearer k away n r = record {
      away = away;
      tight = record {
        in_force = n.in_force;
        ends = n.ends;
        tail_known = ap c'.known n.begins ∙ node_same.known ∙ touched.known;
        value = (let ev : c'.value (table.arc (c'.parent k)).from ≡ c.value node = ap c'.value n.begins ∙ node_same.value in omega (arith, ints, n.value));
      };
      rests = ap waits' n.begins ∙ node_rests;
      final = subst (λ v. IsFinal table p e (reduced e c node) c' v) (sym n.begins) node_final;
      ranked = subst (λ v. IsFresh old c' v → rank' v < rank' k) (sym n.begins) (λ f. omega (arith, rank-node));
    }

    -- p itself is not nearer
    own_same : IsSameCell node c c' waits waits' p
    own_same = elim (s.each p) [
      | inl q ↦ q
      | inr n ↦ elim n.nearer [
        | inl f ↦ absurd (let t : c.known p ≡ true = b.own.0 in let g : ⊥ = cc in g)
        | inr l ↦ absurd (let l1 : c'.value p <ℤ c.value p = l in let v : c.value p ≡ pos 0 = b.own.1 in let bd : (e p -ℤ e p) ≤ℤ c'.value p = nearer_bound p n e x in omega (arith, ints))
      ]
    ]

    nearer_away : (k : ℕ) → IsNearer table node c c' waits' k → k ≢ p
    nearer_away k n q =
        let n2 : IsNearer table node c c' waits' p = subst (λ v. IsNearer table node c c' waits' v) q n in
        let r : IsSameCell node c c' waits waits' p = own_same in
        let v : c'.value p ≡ c.value p = r.value in
        elim n2.nearer [
          | inl f ↦ (let t : c.known p ≡ true = b.own.0 in cc)
          | inr l ↦ (let l1 : c'.value p <ℤ c.value p = l in omega (arith, ints))
        ]

    nearer_fresh : (k : ℕ) → IsNearer table node c c' waits' k → IsFresh old c' k
    nearer_fresh k n = elim (b.each k) [
      | inl u ↦ elim n.nearer [
        | inl f ↦ inl (sym u.known ∙ f)
        | inr l ↦ inr (let l1 : c'.value k <ℤ c.value k = l in omega (arith, ints, u.value))
      ]
      | inr t ↦ elim t.fresh [
        | inl f ↦ inl f
        | inr m ↦ (let m1 : c.value k <ℤ old.value k = m in elim n.nearer [
          | inl f ↦ absurd (let t1 : c.known k ≡ true = t.known in let g : ⊥ = cc in g)
          | inr l ↦ inr (let l1 : c'.value k <ℤ c.value k = l in omega (arith, ints))
        ])
      ]
    ]

    each' : (k : ℕ) → IsUntouched old c' waits' k ⊎ IsTouched table p e (reduced e c node) rank' old c' waits' k
    each' k = elim (rank-cases k) [
      | inl q ↦ elim (b.each k) [
        | inl u ↦ inl (record { known = q.0.known ∙ u.known; value = q.0.value ∙ u.value; parent = q.0.parent ∙ u.parent; rests = elim q.0.waiting [ inl v ↦ v.1 | inr v ↦ v.1 ∙ u.rests ] })
        | inr t ↦ inr (record {
          known = q.0.known ∙ t.known;
          fresh = elim t.fresh [ inl f ↦ inl f | inr l ↦ inr (let l1 : c.value k <ℤ old.value k = l in omega (arith, ints, q.0.value)) ];
          given = elim t.given [ inl r ↦ inl r | inr g ↦ inr (given_kept k q.0 q.1 g) ];
        })
      ]
      | inr n ↦ inr (record { known = n.0.known; fresh = nearer_fresh k n.0; given = inr (given_nearer k (nearer_away k n.0) n.0 n.1) })
    ]

    -- a known node that waits not after the pop is the popped one, or waited not before
    rested_before : (k : ℕ) → waits' k ≡ false → (k ≡ node) ⊎ ((waits k ≡ false) × (c'.known k ≡ c.known k) × (c'.value k ≡ c.value k))
    rested_before k w = elim (s.each k) [
      | inl q ↦ elim q.waiting [ inl v ↦ inl v.0 | inr v ↦ inr (sym v.1 ∙ w, q.known, q.value) ]
      | inr n ↦ absurd (let v : waits' k ≡ true = n.waiting in let g : ⊥ = cc in g)
    ]

    relaxing_after : IsRelaxing table p e (reduced e c node) rank' old c' waits'
    relaxing_after = record {
      own = (own_same.known ∙ b.own.0, own_same.value ∙ b.own.1, own_same.parent ∙ b.own.2);
      each = each';
      above = λ k w. elim (s.each k) [
        | inl q ↦ elim q.waiting [
          | inl v ↦ absurd (let v1 : waits' k ≡ false = v.1 in let g : ⊥ = cc in g)
          | inr v ↦ (let l : reduced e c node ≤ℤ reduced e c k = least k (sym v.1 ∙ w) in omega (arith, ints, q.value))
        ]
        | inr n ↦ nearer_above k n
      ];
      below = λ k w h f. elim (rested_before k w) [
        | inl q ↦ subst (λ v. reduced e c' v ≤ℤ reduced e c node) (sym q) (let v : c'.value node ≡ c.value node = node_same.value in omega (arith, ints))
        | inr q ↦ (let u : reduced e c k ≤ℤ top = b.below k q.0 (sym q.1 ∙ h) (fresh_before k q.2 f) in let t : top ≤ℤ reduced e c node = node_above in omega (arith, ints, q.2))
      ];
      met = λ j f h w. elim (rested_before (table.arc j).from w) [
        | inl q ↦
            let m : IsReached table c' (c.value node) j = s.met j f q in
            let v : c'.value (table.arc j).from ≡ c.value node = ap c'.value q ∙ node_same.value in
            (m.0, (let m1 : c'.value (table.arc j).to ≤ℤ (c.value node +ℤ (table.arc j).weight) = m.1 in omega (arith, ints)))
        | inr q ↦
            let m : IsRelaxed table c j = b.met j f (sym q.1 ∙ h) q.0 in
            let g : (c'.known (table.arc j).to ≡ true) × (c'.value (table.arc j).to ≤ℤ c.value (table.arc j).to) = falls (table.arc j).to m.0 in (
              g.0,
              (let m1 : c.value (table.arc j).to ≤ℤ (c.value (table.arc j).from +ℤ (table.arc j).weight) = m.1 in
                  let g1 : c'.value (table.arc j).to ≤ℤ c.value (table.arc j).to = g.1 in omega (arith, ints, q.2)),
            )
      ];
      bound = λ y oy k h. elim (s.each k) [
        | inl q ↦ (let u : (y k -ℤ y p) ≤ℤ c.value k = b.bound y oy k (sym q.known ∙ h) in omega (arith, ints, q.value))
        | inr n ↦ nearer_bound k n y oy
      ];
    }

    -- ranks rise by one at most, so values stay below a number for each rank
    ranks_after : (most : ℕ) → ((k : ℕ) → rank k ≤ most) → (k : ℕ) → rank' k ≤ most + 1
    ranks_after most h k = let hk : rank k ≤ most = h k in let hn : rank node ≤ most = h node in elim (rank-cases k) [ inl q ↦ omega (arith, q.1) | inr n ↦ omega (arith, n.1) ]

    high_after : (base heavy : ℕ)
        → ((j : ℕ) → table.in_force j ≡ true → (table.arc j).weight ≤ℤ pos heavy) → IsHigh base heavy rank c
        → IsHigh base heavy rank' c'
    high_after base heavy light h k kn = elim (rank-cases k) [
      | inl q ↦ (let u : c.value k ≤ℤ pos (base + rank k * heavy) = h k (sym q.0.known ∙ kn) in subst (λ r. c'.value k ≤ℤ pos (base + r * heavy)) (sym q.1) (omega (arith, ints, q.0.value)))
      | inr n ↦ (let u : c.value node ≤ℤ pos (base + rank node * heavy) = h node touched.known in let l : (table.arc (c'.parent k)).weight ≤ℤ pos heavy = light (c'.parent k) n.0.in_force in
          subst (λ r. c'.value k ≤ℤ pos (base + r * heavy)) (sym n.1) (let more : base + (rank node + 1) * heavy ≡ base + rank node * heavy + heavy = one_more base (rank node) heavy in omega (arith, ints, n.0.value)))
    ]

    -- what holds between pops holds after one more
    pub relaxing_step : IsPopped table p e (reduced e c node) rank old c c' waits'
    relaxing_step = record { ranks = rank'; relaxing = relaxing_after; few = ranks_after; high = high_after }

    -- the popped node was not done, and is done now; what was done stays done, and others do not become it
    pub popped_rests : (waits' node ≡ false) × (c'.known node ≡ c.known node) × (c'.value node ≡ c.value node)
    popped_rests = (node_rests, node_same.known, node_same.value)

    pub popped_fresh : (c.known node ≡ true) × IsFresh old c node
    popped_fresh = (touched.known, touched.fresh)
