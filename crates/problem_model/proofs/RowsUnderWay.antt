-- Rows under way: the relaxing of one node's arcs, one pop, the starts and the end, with bounds on the numbers and the cost.
use Rattle.std.proofs.Common.{◌≡◌, ℕ, ◌+◌, ◌-◌, ◌*◌, ◌<◌, ◌≤◌, Bool, true, false, List, length, get_or, refl, ap, sym, ◌∙◌, subst, arith, inl, inr, ◌⊎◌}
use Rattle.std.specs.Prelude.{ℤ, pos, ◌+ℤ◌, ◌-ℤ◌, ◌≤ℤ◌, ◌<ℤ◌, ◌≢◌}
use Rattle.std.proofs.lemmas.Int.{ints}
use Rattle.std.proofs.lemmas.Bool.{cases_eq}
use Rattle.problem_model.specs.Tables.{ArcTable, ObeysAll}
use Rattle.problem_model.specs.Parents.{Cells, LeadsBack, IsRow, IsReached}
use Rattle.problem_model.specs.RowPops.{reduced, IsNearer, IsRowStep, IsSpread, IsPut, IsUnderWay, IsCandidate, IsAsBefore}
use Rattle.problem_model.specs.Sums.{done_sum, changed_sum}
use Rattle.problem_model.proofs.RowPops.{IsPopped, relaxing_step}
use Rattle.problem_model.proofs.RowSums.{cost_step, done_few, done_all, done_none}
use Rattle.problem_model.proofs.RowEnds.{relaxed_row}
use Rattle.problem_model.proofs.RowStarts.{idle_relaxing, put_relaxing}

-- an arc that brings nothing nearer
pub spread_kept : (table : ArcTable) (node : ℕ) (entries : List ℕ) (count : ℕ) (c c' : Cells) (waits waits' : ℕ → Bool) (j : ℕ)
    → IsSpread table node entries count c c' waits waits' → get_or entries count 0 ≡ j → c'.known (table.arc j).to ≡ true
    → c'.value (table.arc j).to ≤ℤ (c.value node +ℤ (table.arc j).weight)
    → IsSpread table node entries (count + 1) c c' waits waits'
spread_kept table node entries count c c' waits waits' j s e kn le = record {
  each = s.each;
  met = λ k l m. elim (cases_eq k count) [
    | inl q ↦ subst (λ i. IsReached table c' (c.value node) i) (sym e ∙ ap (λ n. get_or entries n 0) (sym q)) (kn, le)
    | inr n ↦ s.met k (omega arith) m
  ];
}

-- an arc that brings its head nearer
module _ (table : ArcTable) (node : ℕ) (entries : List ℕ) (count : ℕ) (c c1 c2 : Cells) (waits waits1 waits2 : ℕ → Bool) (j : ℕ)
    (s : IsSpread table node entries count c c1 waits waits1)
    (e : get_or entries count 0 ≡ j)
    (force : table.in_force j ≡ true)
    (begins : (table.arc j).from ≡ node)
    (nearer : (c1.known (table.arc j).to ≡ false) ⊎ ((c.value node +ℤ (table.arc j).weight) <ℤ c1.value (table.arc j).to))
    (put : IsPut c1 c2 waits1 waits2 (table.arc j).to (c.value node +ℤ (table.arc j).weight) j)
  where
    nearer_now : (c.known (table.arc j).to ≡ false) ⊎ (c2.value (table.arc j).to <ℤ c.value (table.arc j).to)
    nearer_now = elim (s.each (table.arc j).to) [
      | inl q ↦ elim nearer [
        | inl f ↦ inl (sym q.known ∙ f)
        | inr l ↦ inr (let l1 : (c.value node +ℤ (table.arc j).weight) <ℤ c1.value (table.arc j).to = l in omega (arith, ints, q.value, put.value_is))
      ]
      | inr n ↦ elim nearer [
        | inl f ↦ absurd (let k : c1.known (table.arc j).to ≡ true = n.known in let g : ⊥ = cc in g)
        | inr l ↦ elim n.nearer [
          | inl f ↦ inl f
          | inr m ↦ inr (let l1 : (c.value node +ℤ (table.arc j).weight) <ℤ c1.value (table.arc j).to = l in
              let m1 : c1.value (table.arc j).to <ℤ c.value (table.arc j).to = m in omega (arith, ints, put.value_is))
        ]
      ]
    ]

    low_now : (k : ℕ) → c1.known k ≡ true → (c2.known k ≡ true) × (c2.value k ≤ℤ c1.value k)
    low_now k kn = elim (cases_eq k (table.arc j).to) [
      | inl q ↦ subst (λ n. c1.known n ≡ true → (c2.known n ≡ true) × (c2.value n ≤ℤ c1.value n)) (sym q)
          (λ h. (
            put.known_is,
            elim nearer [
              | inl f ↦ absurd (let g : ⊥ = cc in g)
              | inr l ↦
                  (let l1 : (c.value node +ℤ (table.arc j).weight) <ℤ c1.value (table.arc j).to = l in omega (arith, ints, put.value_is))
            ],
          )) kn
      | inr n ↦ (let o : IsAsBefore c1 c2 waits1 waits2 k = put.others k n in (o.0 ∙ kn, omega (arith, ints, o.1)))
    ]

    head_nearer : IsNearer table node c c2 waits2 (table.arc j).to
    head_nearer = record {
      in_force = ap table.in_force put.parent_is ∙ force;
      begins = ap (λ i. (table.arc i).from) put.parent_is ∙ begins;
      ends = ap (λ i. (table.arc i).to) put.parent_is;
      known = put.known_is;
      waiting = put.waiting;
      value = put.value_is ∙ ap (λ i. c.value node +ℤ (table.arc i).weight) (sym put.parent_is);
      nearer = nearer_now;
    }

    pub spread_nearer : IsSpread table node entries (count + 1) c c2 waits waits2
    spread_nearer = record {
      each = λ k. elim (cases_eq k (table.arc j).to) [
        | inl q ↦ inr (subst (λ n. IsNearer table node c c2 waits2 n) (sym q) head_nearer)
        | inr n ↦
            let o : IsAsBefore c1 c2 waits1 waits2 k = put.others k n in
            elim (s.each k) [
              | inl q ↦ inl (record { known = o.0 ∙ q.known; value = o.1 ∙ q.value; parent = o.2 ∙ q.parent; waiting = elim q.waiting [ inl w ↦ inl (w.0, o.3 ∙ w.1) | inr w ↦ inr (w.0, o.3 ∙ w.1) ] })
              | inr r ↦ inr (record {
                in_force = ap table.in_force o.2 ∙ r.in_force;
                begins = ap (λ i. (table.arc i).from) o.2 ∙ r.begins;
                ends = ap (λ i. (table.arc i).to) o.2 ∙ r.ends;
                known = o.0 ∙ r.known;
                waiting = o.3 ∙ r.waiting;
                value = o.1 ∙ r.value ∙ ap (λ i. c.value node +ℤ (table.arc i).weight) (sym o.2);
                nearer = elim r.nearer [ inl f ↦ inl f | inr l ↦ inr (let l1 : c1.value k <ℤ c.value k = l in omega (arith, ints, o.1)) ];
              })
            ]
      ];
      met = λ k l m. elim (cases_eq k count) [
        | inl q ↦ subst (λ i. IsReached table c2 (c.value node) i) (sym e ∙ ap (λ n. get_or entries n 0) (sym q)) (put.known_is, omega (arith, ints, put.value_is))
        | inr n ↦
            let h : IsReached table c1 (c.value node) (get_or entries k 0) = s.met k (omega arith) m in
            let g : (c2.known (table.arc (get_or entries k 0)).to ≡ true) × (c2.value (table.arc (get_or entries k 0)).to ≤ℤ c1.value (table.arc
            (get_or entries k 0)).to) = low_now (table.arc (get_or entries k 0)).to h.0 in
            let h1 : c1.value (table.arc (get_or entries k 0)).to ≤ℤ (c.value node +ℤ (table.arc (get_or entries k 0)).weight) = h.1 in
            let g1 : c2.value (table.arc (get_or entries k 0)).to ≤ℤ c1.value (table.arc (get_or entries k 0)).to = g.1 in
            (g.0, omega (arith, ints))
      ];
    }

-- all arcs of the popped node are met
pub spread_all : (table : ArcTable) (node : ℕ) (entries : List ℕ) (count : ℕ) (c c' : Cells) (waits waits1 waits' : ℕ → Bool)
    → IsSpread table node entries count c c' waits1 waits' → length entries ≤ count
    → ((j : ℕ) → table.in_force j ≡ true → (table.arc j).from ≡ node → (k : ℕ) × (k < length entries) × (get_or entries k 0 ≡ j))
    → ((k : ℕ) → k ≢ node → waits1 k ≡ waits k)
    → IsRowStep table node c c' waits waits'
spread_all table node entries count c c' waits waits1 waits' s l all w = record {
  each = λ k. elim (s.each k) [
    | inl q ↦ inl (record { known = q.known; value = q.value; parent = q.parent; waiting = elim q.waiting [ inl v ↦ inl v | inr v ↦ inr (v.0, v.1 ∙ w k v.0) ] })
    | inr n ↦ inr n
  ];
  met = λ j f t. (let r : (k : ℕ) × (k < length entries) × (get_or entries k 0 ≡ j) = all j f t in
      subst (λ i. IsReached table c' (c.value node) i) r.2 (s.met r.0 (omega (arith, r.1)) r.1));
}

module _ (nodes : ℕ) (table : ArcTable) (p : ℕ) (e : ℕ → ℤ) (base heavy : ℕ) (old c c' : Cells) (waits waits' : ℕ → Bool) (node : ℕ)
    (g : IsUnderWay nodes table p e base heavy old c waits)
    (x : ObeysAll table e)
    (light : (j : ℕ) → table.in_force j ≡ true → (table.arc j).weight ≤ℤ pos heavy)
    (within : (j : ℕ) → table.in_force j ≡ true → (table.arc j).to < nodes)
    (waiting : waits node ≡ true)
    (least : (k : ℕ) → waits k ≡ true → reduced e c node ≤ℤ reduced e c k)
    (s : IsRowStep table node c c' waits waits')
    (l : node < nodes)
  where
    pub under_way_cost : (each : ℕ → ℕ) → done_sum nodes each old c' waits' ≡ done_sum nodes each old c waits + each node
    under_way_cost each = cost_step nodes table p e g.top g.rank old c c' waits waits' node g.relaxing x waiting least s l each

    pub under_way_step : IsUnderWay nodes table p e base heavy old c' waits'
    under_way_step =
        let b : IsPopped table p e (reduced e c node) g.rank old c c' waits' =
        relaxing_step table p e g.top g.rank old c c' waits waits' node g.relaxing x waiting least s in
        record {
          top = reduced e c node;
          rank = b.ranks;
          relaxing = b.relaxing;
          ranks = λ k. subst (λ n. b.ranks k ≤ n) (sym (under_way_cost (λ _. 1))) (b.few (done_sum nodes (λ _. 1) old c waits) g.ranks k);
          high = b.high base heavy light g.high;
          past = λ k lk. elim (s.each k) [
            | inl q ↦ q.known ∙ g.past k lk
            | inr n ↦ absurd (let h : (table.arc (c'.parent k)).to < nodes = within (c'.parent k) n.in_force in let q : (table.arc (c'.parent k)).to ≡ k = n.ends in omega arith)
          ];
        }

    pub under_way_fewer : (nodes - done_sum nodes (λ _. 1) old c' waits') < (nodes - done_sum nodes (λ _. 1) old c waits)
    under_way_fewer = let a : done_sum nodes (λ _. 1) old c' waits' ≡ done_sum nodes (λ _. 1) old c waits + 1 = under_way_cost (λ _. 1) in
        let f : done_sum nodes (λ _. 1) old c' waits' ≤ nodes = done_few nodes old c' waits' in omega arith

-- where none waits the cells are the row, and all changed nodes are paid
pub under_way_row : (nodes : ℕ) (table : ArcTable) (p : ℕ) (e : ℕ → ℤ) (base heavy : ℕ) (old c : Cells) (waits : ℕ → Bool)
    → IsUnderWay nodes table p e base heavy old c waits → ((k : ℕ) → waits k ≡ false)
    → ((k : ℕ) → old.known k ≡ true → (n : ℕ) × LeadsBack table p old n k)
    → IsRow nodes table p c
under_way_row nodes table p e base heavy old c waits g none chains = relaxed_row nodes table p e g.top g.rank old c waits g.relaxing none chains g.past

pub under_way_paid : (nodes : ℕ) (each : ℕ → ℕ) (old c : Cells) (waits : ℕ → Bool)
    → ((k : ℕ) → waits k ≡ false)
    → done_sum nodes each old c waits ≡ changed_sum nodes each old c
under_way_paid nodes each old c waits none = done_all nodes each old c waits none

-- a known cell is below a number that the ranks give, and above that of the potential
pub under_way_bounds : (nodes : ℕ) (table : ArcTable) (p : ℕ) (e : ℕ → ℤ) (base heavy : ℕ) (old c : Cells) (waits : ℕ → Bool)
    → IsUnderWay nodes table p e base heavy old c waits → ObeysAll table e → (k : ℕ) → c.known k ≡ true
    → ((e k -ℤ e p) ≤ℤ c.value k) × (c.value k ≤ℤ pos (base + nodes * heavy))
under_way_bounds nodes table p e base heavy old c waits g x k h =
    let r : g.rank k ≤ done_sum nodes (λ _. 1) old c waits = g.ranks k in
    let f : done_sum nodes (λ _. 1) old c waits ≤ nodes = done_few nodes old c waits in
    let m : g.rank k * heavy ≤ nodes * heavy = times (g.rank k) nodes heavy (omega arith) in
    let u : c.value k ≤ℤ pos (base + g.rank k * heavy) = g.high k h in
    (g.relaxing.bound e x k h, omega (arith, ints))
  where
    times : (a b c : ℕ) → a ≤ b → a * c ≤ b * c
    times a b c l = grind arith

-- the start, where the candidate is no nearer
pub start_idle : (nodes : ℕ) (table : ArcTable) (p : ℕ) (e : ℕ → ℤ) (base heavy : ℕ) (old : Cells) (node : ℕ) (value : ℤ) (parent : ℕ) (waits : ℕ → Bool)
    → IsCandidate table p old node value parent → ObeysAll table e → ((k : ℕ) → waits k ≡ false) → old.known node ≡ true
    → old.value node ≤ℤ value → ((k : ℕ) → old.known k ≡ true → old.value k ≤ℤ pos base) → ((k : ℕ) → nodes ≤ k → old.known k ≡ false)
    → IsUnderWay nodes table p e base heavy old old waits
start_idle nodes table p e base heavy old node value parent waits s x none kn le high past = record {
  top = pos 0;
  rank = λ _. 0;
  relaxing = idle_relaxing table p e old node value parent s x waits none kn le;
  ranks = λ k. omega arith;
  high = λ k h. (let u : old.value k ≤ℤ pos base = high k h in omega (arith, ints));
  past = past;
}

-- the start, where the candidate is put
pub start_put : (nodes : ℕ) (table : ArcTable) (p : ℕ) (e : ℕ → ℤ) (base heavy : ℕ) (old c : Cells) (node : ℕ) (value : ℤ) (parent : ℕ) (waits waits' : ℕ → Bool)
    → IsCandidate table p old node value parent → ObeysAll table e → ((k : ℕ) → waits k ≡ false)
    → (old.known node ≡ false) ⊎ (value <ℤ old.value node) → IsPut old c waits waits' node value parent → node < nodes → value ≤ℤ pos base
    → ((k : ℕ) → old.known k ≡ true → old.value k ≤ℤ pos base) → ((k : ℕ) → nodes ≤ k → old.known k ≡ false)
    → IsUnderWay nodes table p e base heavy old c waits'
start_put nodes table p e base heavy old c node value parent waits waits' s x none nearer put l low high past = record {
  top = value -ℤ e node;
  rank = λ _. 0;
  relaxing = put_relaxing table p e old node value parent s x c waits' nearer put.known_is put.value_is put.parent_is put.waiting (λ k n.
      (let o : IsAsBefore old c waits waits' k = put.others k n in (o.0, o.1, o.2, o.3 ∙ none k)));
  ranks = λ k. omega arith;
  high = λ k h. elim (cases_eq k node) [
    | inl q ↦ subst (λ n. c.value n ≤ℤ pos (base + 0 * heavy)) (sym q) (omega (arith, ints, put.value_is))
    | inr n ↦ (let o : IsAsBefore old c waits waits' k = put.others k n in let u : old.value k ≤ℤ pos base = high k (sym o.0 ∙ h) in omega (arith, ints, o.1))
  ];
  past = λ k lk. (let n : k ≢ node = λ q. omega arith in (put.others k n).0 ∙ past k lk);
}

-- nothing is paid at the start
pub start_idle_free : (nodes : ℕ) (each : ℕ → ℕ) (old : Cells) (waits : ℕ → Bool) → done_sum nodes each old old waits ≡ 0
start_idle_free nodes each old waits = done_none nodes each old old waits (λ k. inr (refl, refl))

pub start_put_free : (nodes : ℕ) (each : ℕ → ℕ) (old c : Cells) (node : ℕ) (value : ℤ) (parent : ℕ) (waits waits' : ℕ → Bool)
    → IsPut old c waits waits' node value parent
    → done_sum nodes each old c waits' ≡ 0
start_put_free nodes each old c node value parent waits waits' put = done_none nodes each old c waits' (λ k. elim (cases_eq k node) [
  | inl q ↦ inl (ap waits' q ∙ put.waiting)
  | inr n ↦ inr ((put.others k n).1, (put.others k n).0)
])
