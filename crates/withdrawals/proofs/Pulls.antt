-- The pull: each cleared cell is tried along the arcs from cells that are left.
use Rattle.std.proofs.Common.{◌≡◌, ℕ, ◌+◌, ◌<◌, ◌≤◌, Bool, true, false, List, length, get_or, refl, ap, sym, ◌∙◌, subst, arith, inl, inr, ◌⊎◌}
use Rattle.std.specs.Prelude.{◌+ℤ◌, ◌≤ℤ◌, ◌<ℤ◌, ◌≢◌}
use Rattle.std.proofs.lemmas.Int.{ints}
use Rattle.std.proofs.lemmas.Bool.{cases_eq}
use Rattle.problem_model.specs.Tables.{ArcTable}
use Rattle.problem_model.specs.Parents.{Cells, IsReached}
use Rattle.problem_model.specs.RowPops.{IsUntouched, IsAsBefore, IsPut}
use Rattle.withdrawals.specs.Regrowths.{IsPulled, IsPulling, IsRegrown, IsGot, IsTrying}

-- no arc is tried yet
pub trying_none : (table : ArcTable) (node : ℕ) (entries : List ℕ) (c : Cells) (waits : ℕ → Bool) → IsTrying table node entries 0 c c waits waits
trying_none table node entries c waits = record {
  others = λ k n. (refl, refl, refl, refl);
  own = inl (refl, refl, refl, refl);
  low = λ h. omega (arith, ints);
  met = λ k l. absurd (omega arith);
}

module _ (table : ArcTable) (node : ℕ) (entries : List ℕ) (count j : ℕ) (c c1 : Cells) (waits waits1 : ℕ → Bool)
    (own_waits : c.known node ≡ true → waits node ≡ true)
    (s : IsTrying table node entries count c c1 waits waits1)
    (at_count : get_or entries count 0 ≡ j)
  where
    own_waits_now : c1.known node ≡ true → waits1 node ≡ true
    own_waits_now h = elim s.own [ inl b ↦ b.3 ∙ own_waits (sym b.0 ∙ h) | inr g ↦ g.waiting ]

    -- the next arc has nothing to give
    pub trying_kept : ((c1.known (table.arc j).from ≡ false) ⊎ ((waits1 (table.arc j).from ≡ true) ⊎ ((c1.known node ≡ true) × (c1.value node ≤ℤ (c1.value (table.arc j).from +ℤ (table.arc j).weight)))))
        → IsTrying table node entries (count + 1) c c1 waits waits1
    trying_kept why = record {
      others = s.others;
      own = s.own;
      low = s.low;
      met = λ k l b h w. elim (cases_eq k count) [
        | inr n ↦ s.met k (omega arith) b h w
        | inl q ↦
            let e : get_or entries k 0 ≡ j = ap (λ i. get_or entries i 0) q ∙ at_count in
            subst (λ i. c.known (table.arc i).from ≡ true → waits (table.arc i).from ≡ false → (c1.known node ≡ true) × (c1.value node ≤ℤ (c.value (table.arc i).from +ℤ (table.arc i).weight)))
            (sym e) here h w
      ];
    }
      where
        here : c.known (table.arc j).from ≡ true → waits (table.arc j).from ≡ false → (c1.known node ≡ true) × (c1.value node ≤ℤ (c.value (table.arc j).from +ℤ (table.arc j).weight))
        here h w = elim (cases_eq (table.arc j).from node) [
          | inl q ↦ absurd (let t : waits (table.arc j).from ≡ true = ap waits q ∙ own_waits (ap c.known (sym q) ∙ h) in let z : ⊥ = cc in z)
          | inr n ↦
              let o : IsAsBefore c c1 waits waits1 (table.arc j).from = s.others (table.arc j).from n in
              elim why [
                | inl f ↦ absurd (let k : c1.known (table.arc j).from ≡ true = o.0 ∙ h in let z : ⊥ = cc in z)
                | inr v ↦ elim v [
                  | inl t ↦ absurd (let k : waits1 (table.arc j).from ≡ false = o.3 ∙ w in let z : ⊥ = cc in z)
                  | inr g ↦ (let g1 : c1.value node ≤ℤ (c1.value (table.arc j).from +ℤ (table.arc j).weight) = g.1 in (g.0, omega (arith, ints, o.1)))
                ]
              ]
        ]

    -- the next arc gives the node its cell
    module _ (c2 : Cells) (waits2 : ℕ → Bool)
        (force : table.in_force j ≡ true)
        (ends : (table.arc j).to ≡ node)
        (tail_known : c1.known (table.arc j).from ≡ true)
        (tail_rests : waits1 (table.arc j).from ≡ false)
        (nearer : (c1.known node ≡ false) ⊎ ((c1.value (table.arc j).from +ℤ (table.arc j).weight) <ℤ c1.value node))
        (put : IsPut c1 c2 waits1 waits2 node (c1.value (table.arc j).from +ℤ (table.arc j).weight) j)
      where
        tail_away : (table.arc j).from ≢ node
        tail_away q = let t : waits1 (table.arc j).from ≡ true = ap waits1 q ∙ own_waits_now (ap c1.known (sym q) ∙ tail_known) in let z : ⊥ = cc in z

        tail_before : IsAsBefore c c1 waits waits1 (table.arc j).from
        tail_before = s.others (table.arc j).from tail_away

        got : IsGot table node c c2 waits waits2
        got = record {
          known = put.known_is;
          waiting = put.waiting;
          in_force = subst (λ i. table.in_force i ≡ true) (sym put.parent_is) force;
          ends = subst (λ i. (table.arc i).to ≡ node) (sym put.parent_is) ends;
          tail_known = subst (λ i. c.known (table.arc i).from ≡ true) (sym put.parent_is) (sym tail_before.0 ∙ tail_known);
          tail_rests = subst (λ i. waits (table.arc i).from ≡ false) (sym put.parent_is) (sym tail_before.3 ∙ tail_rests);
          value = subst (λ i. c2.value node ≡ c.value (table.arc i).from +ℤ (table.arc i).weight) (sym put.parent_is)
              (put.value_is ∙ ap (λ v. v +ℤ (table.arc j).weight) tail_before.1);
        }

        lower_now : c1.known node ≡ true → c2.value node ≤ℤ c1.value node
        lower_now h = elim nearer [
          | inl f ↦ absurd (let z : ⊥ = cc in z)
          | inr l ↦ (let l1 : (c1.value (table.arc j).from +ℤ (table.arc j).weight) <ℤ c1.value node = l in omega (arith, ints, put.value_is))
        ]

        known_now : c.known node ≡ true → c1.known node ≡ true
        known_now h = elim s.own [ inl b ↦ b.0 ∙ h | inr g ↦ g.known ]

        pub trying_put : IsTrying table node entries (count + 1) c c2 waits waits2
        trying_put = record {
          others = λ k n.
              let a : IsAsBefore c c1 waits waits1 k = s.others k n in
              let b : IsAsBefore c1 c2 waits1 waits2 k = put.others k n in
              (b.0 ∙ a.0, b.1 ∙ a.1, b.2 ∙ a.2, b.3 ∙ a.3);
          own = inr got;
          low = λ h.
              let a : c1.value node ≤ℤ c.value node = s.low h in
              let b : c2.value node ≤ℤ c1.value node = lower_now (known_now h) in
              omega (arith, ints);
          met = λ k l b h w. elim (cases_eq k count) [
            | inr n ↦
                let m : (c1.known node ≡ true) × (c1.value node ≤ℤ (c.value (table.arc (get_or entries k 0)).from +ℤ (table.arc (get_or entries k 0)).weight)) = s.met k (omega arith) b h w in
                let m1 : c1.value node ≤ℤ (c.value (table.arc (get_or entries k 0)).from +ℤ (table.arc (get_or entries k 0)).weight) = m.1 in
                let b1 : c2.value node ≤ℤ c1.value node = lower_now m.0 in
                (put.known_is, omega (arith, ints))
            | inl q ↦
                let e : get_or entries k 0 ≡ j = ap (λ i. get_or entries i 0) q ∙ at_count in
                subst (λ i. (c2.known node ≡ true) × (c2.value node ≤ℤ (c.value (table.arc i).from +ℤ (table.arc i).weight)))
                (sym e) (put.known_is, (let v : c2.value node ≡ c1.value (table.arc j).from +ℤ (table.arc j).weight = put.value_is in omega (arith, ints, tail_before.1)))
          ];
        }

-- nothing is pulled yet
pub pulling_none : (table : ArcTable) (found : ℕ → ℕ) (old : Cells) (waits : ℕ → Bool) → ((k : ℕ) → waits k ≡ false) → IsPulling table found 0 old old waits
pulling_none table found old waits none = record {
  each = λ k. inl (record { known = refl; value = refl; parent = refl; rests = none k });
  met = λ i j l. absurd (omega arith);
}

-- a cell as before is untouched or pulled as before
each_kept : (table : ArcTable) (old c c' : Cells) (waits waits' : ℕ → Bool) (k : ℕ) → IsAsBefore c c' waits waits' k
    → IsUntouched old c waits k ⊎ IsPulled table old c waits k → IsUntouched old c' waits' k ⊎ IsPulled table old c' waits' k
each_kept table old c c' waits waits' k o e = elim e [
  | inl u ↦ inl (record { known = o.0 ∙ u.known; value = o.1 ∙ u.value; parent = o.2 ∙ u.parent; rests = o.3 ∙ u.rests })
  | inr q ↦ inr (record {
    unknown = q.unknown;
    known = o.0 ∙ q.known;
    waiting = o.3 ∙ q.waiting;
    in_force = subst (λ j. table.in_force j ≡ true) (sym o.2) q.in_force;
    ends = subst (λ j. (table.arc j).to ≡ k) (sym o.2) q.ends;
    tail_known = subst (λ j. old.known (table.arc j).from ≡ true) (sym o.2) q.tail_known;
    value = subst (λ j. c'.value k ≡ old.value (table.arc j).from +ℤ (table.arc j).weight) (sym o.2) (o.1 ∙ q.value);
  })
]

module _ (table : ArcTable) (found : ℕ → ℕ) (count : ℕ) (old c : Cells) (waits : ℕ → Bool)
    (r : IsPulling table found count old c waits)
  where
    -- who was known before rests, as before
    pub left_rests : (k : ℕ) → old.known k ≡ true → IsUntouched old c waits k
    left_rests k h = elim (r.each k) [ inl u ↦ u | inr q ↦ absurd (let f : old.known k ≡ false = q.unknown in let z : ⊥ = cc in z) ]

    rests_left : (k : ℕ) → c.known k ≡ true → waits k ≡ false → IsUntouched old c waits k
    rests_left k h w = elim (r.each k) [ inl u ↦ u | inr q ↦ absurd (let f : waits k ≡ true = q.waiting in let z : ⊥ = cc in z) ]

    -- a cleared cell that is known waits
    pub cleared_waits : (node : ℕ) → old.known node ≡ false → c.known node ≡ true → waits node ≡ true
    cleared_waits node u h = elim (r.each node) [ inl q ↦ absurd (let f : c.known node ≡ false = q.known ∙ u in let z : ⊥ = cc in z) | inr q ↦ q.waiting ]

    -- the next found is pulled
    module _ (node : ℕ) (entries : List ℕ) (tried : ℕ) (c' : Cells) (waits' : ℕ → Bool)
        (next : found count ≡ node)
        (unknown : old.known node ≡ false)
        (all : (j : ℕ) → table.in_force j ≡ true → (table.arc j).to ≡ node → (k : ℕ) × (k < length entries) × (get_or entries k 0 ≡ j))
        (s : IsTrying table node entries tried c c' waits waits')
        (full : length entries ≤ tried)
      where
        node_each : IsUntouched old c' waits' node ⊎ IsPulled table old c' waits' node
        node_each = elim s.own [
          | inl o ↦ each_kept table old c c' waits waits' node o (r.each node)
          | inr g ↦ (let u : IsUntouched old c waits (table.arc (c'.parent node)).from = rests_left (table.arc (c'.parent node)).from g.tail_known g.tail_rests in inr (record {
            unknown = unknown;
            known = g.known;
            waiting = g.waiting;
            in_force = g.in_force;
            ends = g.ends;
            tail_known = sym u.known ∙ g.tail_known;
            value = g.value ∙ ap (λ v. v +ℤ (table.arc (c'.parent node)).weight) u.value;
          }))
        ]

        node_lower : c.known node ≡ true → (c'.known node ≡ true) × (c'.value node ≤ℤ c.value node)
        node_lower h = (elim s.own [ inl o ↦ o.0 ∙ h | inr g ↦ g.known ], s.low h)

        node_met : (j : ℕ) → table.in_force j ≡ true → (table.arc j).to ≡ node → old.known (table.arc j).from ≡ true → IsReached table c' (old.value (table.arc j).from) j
        node_met j f e h =
            let a : (k : ℕ) × (k < length entries) × (get_or entries k 0 ≡ j) = all j f e in
            let u : IsUntouched old c waits (table.arc j).from = left_rests (table.arc j).from h in
            let x : (c'.known node ≡ true) × (c'.value node ≤ℤ (c.value (table.arc j).from +ℤ (table.arc j).weight)) =
            subst (λ i. c.known (table.arc i).from ≡ true → waits (table.arc i).from ≡ false → (c'.known node ≡ true) × (c'.value node ≤ℤ (c.value (table.arc i).from +ℤ (table.arc i).weight)))
            a.2 (s.met a.0 (omega (arith, a.1)) a.1) (u.known ∙ h) u.rests in
            let x1 : c'.value node ≤ℤ (c.value (table.arc j).from +ℤ (table.arc j).weight) = x.1 in
            let v : c'.value (table.arc j).to ≡ c'.value node = ap c'.value e in
            (ap c'.known e ∙ x.0, omega (arith, ints, u.value))

        still_met : (j : ℕ) → IsReached table c (old.value (table.arc j).from) j → IsReached table c' (old.value (table.arc j).from) j
        still_met j m =
            let m1 : c.value (table.arc j).to ≤ℤ (old.value (table.arc j).from +ℤ (table.arc j).weight) = m.1 in
            elim (cases_eq (table.arc j).to node) [
              | inl q ↦
                  let x : (c'.known node ≡ true) × (c'.value node ≤ℤ c.value node) = node_lower (ap c.known (sym q) ∙ m.0) in
                  let x1 : c'.value node ≤ℤ c.value node = x.1 in
                  let v : c'.value (table.arc j).to ≡ c'.value node = ap c'.value q in
                  let w : c.value (table.arc j).to ≡ c.value node = ap c.value q in
                  (ap c'.known q ∙ x.0, omega (arith, ints))
              | inr n ↦ (let o : IsAsBefore c c' waits waits' (table.arc j).to = s.others (table.arc j).to n in (o.0 ∙ m.0, omega (arith, ints, o.1)))
            ]

        pub pulling_more : IsPulling table found (count + 1) old c' waits'
        pulling_more = record {
          each = λ k. elim (cases_eq k node) [
            | inl q ↦ subst (λ n. IsUntouched old c' waits' n ⊎ IsPulled table old c' waits' n) (sym q) node_each
            | inr n ↦ each_kept table old c c' waits waits' k (s.others k n) (r.each k)
          ];
          met = λ i j l f e h. elim (cases_eq i count) [
            | inl q ↦ node_met j f (e ∙ ap found q ∙ next) h
            | inr n ↦ still_met j (r.met i j (omega arith) f e h)
          ];
        }

    -- all cells that arcs in force open are pulled
    pub pulling_done : ((j : ℕ) → table.in_force j ≡ true → old.known (table.arc j).from ≡ true → old.known (table.arc j).to ≡ false → (i : ℕ) × (i < count) × (found i ≡ (table.arc j).to))
        → IsRegrown table old c waits
    pulling_done open_ones = record {
      each = r.each;
      met = λ j f t u. (let m : (i : ℕ) × (i < count) × (found i ≡ (table.arc j).to) = open_ones j f t u in r.met m.0 j m.1 f (sym m.2) t);
    }
