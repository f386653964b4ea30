-- The starts: a new row, and the repair of a row after an insertion.
use Rattle.std.proofs.Common.{◌≡◌, ℕ, zero, suc, ◌<◌, Bool, true, false, refl, ap, sym, ◌∙◌, subst, arith, inl, inr, ◌⊎◌}
use Rattle.std.specs.Prelude.{ℤ, pos, ◌+ℤ◌, ◌-ℤ◌, ◌≤ℤ◌, ◌<ℤ◌, ◌≢◌}
use Rattle.std.proofs.lemmas.Int.{ints}
use Rattle.std.proofs.lemmas.Bool.{cases_eq}
use Rattle.problem_model.specs.Tables.{ArcTable, ObeysAll, without}
use Rattle.problem_model.specs.Parents.{Cells, no_parent, IsTight, LeadsBack, IsRow, IsRelaxed}
use Rattle.problem_model.specs.RowPops.{reduced, IsFresh, IsFinal, IsGiven, IsTouched, IsRelaxing, IsArcCandidate, IsCandidate, IsAsBefore}
use Rattle.problem_model.proofs.Tables.{without-other, without_force, obeys_without}
use Rattle.problem_model.proofs.Parents.{chain_bound}

leads_back_more : (table : ArcTable) (arc p : ℕ) (c : Cells) (n k : ℕ) → LeadsBack (without table arc) p c n k → LeadsBack table p c n k
leads_back_more table arc p c zero k r = r
leads_back_more table arc p c (suc n) k r =
    let t : IsTight table c k = record { in_force = without_force table arc (c.parent k) r.1.in_force; ends = r.1.ends; tail_known = r.1.tail_known; value = r.1.value } in
    (r.0, t, leads_back_more table arc p c n (table.arc (c.parent k)).from r.2)

-- what the row of all arcs but one says of the table with that arc
module _ (nodes : ℕ) (table : ArcTable) (p arc : ℕ) (old : Cells)
    (r : IsRow nodes (without table arc) p old)
  where
    old_bound : (x : ℕ → ℤ) → ObeysAll table x → (k : ℕ) → old.known k ≡ true → (x k -ℤ x p) ≤ℤ old.value k
    old_bound x o k h = let b : (n : ℕ) × (n < nodes) × LeadsBack (without table arc) p old n k = r.back k h in chain_bound (without table arc) p old x (obeys_without table arc x o) r.own.1 b.0 k b.2

    pub old_chains : (k : ℕ) → old.known k ≡ true → (n : ℕ) × LeadsBack table p old n k
    old_chains k h = let b : (n : ℕ) × (n < nodes) × LeadsBack (without table arc) p old n k = r.back k h in (b.0, leads_back_more table arc p old b.0 k b.2)

    -- the candidate of a new arc from a known node
    pub arc_candidate : table.in_force arc ≡ true
        → old.known (table.arc arc).from ≡ true
        → IsCandidate table p old (table.arc arc).to (old.value (table.arc arc).from +ℤ (table.arc arc).weight) arc
    arc_candidate f h = record {
      from = inr (record { own = r.own; in_force = f; ends = refl; tail_known = h; value_is = refl });
      met = λ j g k. elim (cases_eq j arc) [
        | inl e ↦ inr (ap (λ i. (table.arc i).to) e, subst (λ i. (old.value (table.arc arc).from +ℤ (table.arc arc).weight) ≤ℤ (old.value (table.arc i).from +ℤ (table.arc i).weight)) (sym e) (omega (arith, ints)))
        | inr n ↦ inl (r.along j (without-other table arc j n ∙ g) k)
      ];
      bound = old_bound;
      chains = old_chains;
    }

    -- a new arc from a node that is not known changes nothing
    pub arc_from_unknown : old.known (table.arc arc).from ≡ false → IsRow nodes table p old
    arc_from_unknown h = record {
      own = r.own;
      along = λ j f k. elim (cases_eq j arc) [
        | inl q ↦ absurd (let v : old.known (table.arc j).from ≡ false = ap (λ i. old.known (table.arc i).from) q ∙ h in let g : ⊥ = cc in g)
        | inr n ↦ r.along j (without-other table arc j n ∙ f) k
      ];
      back = λ k kn. (let b : (n : ℕ) × (n < nodes) × LeadsBack (without table arc) p old n k = r.back k kn in (b.0, b.1, leads_back_more table arc p old b.0 k b.2));
      past = r.past;
    }

-- the candidate of a new row: its own node, where nothing is known
pub own_candidate : (table : ArcTable) (p : ℕ) (old : Cells) → ((k : ℕ) → old.known k ≡ false) → IsCandidate table p old p (pos 0) no_parent
own_candidate table p old none = record {
  from = inl (refl, refl, refl, none);
  met = λ j f k. absurd (let v : old.known (table.arc j).from ≡ false = none (table.arc j).from in let g : ⊥ = cc in g);
  bound = λ x o k kn. absurd (let v : old.known k ≡ false = none k in let g : ⊥ = cc in g);
  chains = λ k kn. absurd (let v : old.known k ≡ false = none k in let g : ⊥ = cc in g);
}

-- where the candidate is no nearer, nothing waits
module _ (table : ArcTable) (p : ℕ) (e : ℕ → ℤ) (old : Cells) (node : ℕ) (value : ℤ) (parent : ℕ)
    (s : IsCandidate table p old node value parent)
    (x : ObeysAll table e)
  where
    pub idle_relaxing : (waits : ℕ → Bool)
        → ((k : ℕ) → waits k ≡ false) → old.known node ≡ true → old.value node ≤ℤ value
        → IsRelaxing table p e (pos 0) (λ k. 0) old old waits
    idle_relaxing waits none kn le = record {
      own = elim s.from [ inl r ↦ absurd (let v : old.known node ≡ false = r.3 node in let g : ⊥ = cc in g) | inr r ↦ r.own ];
      each = λ k. inl (record { known = refl; value = refl; parent = refl; rests = none k });
      above = λ k w. absurd (let v : waits k ≡ false = none k in let g : ⊥ = cc in g);
      below = λ k w kn f. elim f [ inl u ↦ absurd (let g : ⊥ = cc in g) | inr l ↦ absurd (let l1 : old.value k <ℤ old.value k = l in omega (arith, ints)) ];
      met = λ j f k w. elim (s.met j f k) [
        | inl m ↦ m
        | inr m ↦ subst (λ n. (old.known n ≡ true) × (old.value n ≤ℤ (old.value (table.arc j).from +ℤ (table.arc j).weight))) (sym m.0) (
          kn,
          (let m1 : value ≤ℤ (old.value (table.arc j).from +ℤ (table.arc j).weight) = m.1 in omega (arith, ints)),
        )
      ];
      bound = s.bound;
    }

    candidate_bound : (y : ℕ → ℤ) → ObeysAll table y → (y node -ℤ y p) ≤ℤ value
    candidate_bound y oy = elim s.from [
      | inl r ↦ (let v : value ≡ pos 0 = r.1 in let q : y node ≡ y p = ap y r.0 in omega (arith, ints))
      | inr r ↦
          let o : (y (table.arc parent).to -ℤ y (table.arc parent).from) ≤ℤ (table.arc parent).weight = oy parent r.in_force in
          let b : (y (table.arc parent).from -ℤ y p) ≤ℤ old.value (table.arc parent).from = s.bound y oy (table.arc parent).from r.tail_known in
          let v : value ≡ old.value (table.arc parent).from +ℤ (table.arc parent).weight = r.value_is in
          let q : y (table.arc parent).to ≡ y node = ap y r.ends in
          omega (arith, ints)
    ]

    module _ (c : Cells) (waits : ℕ → Bool)
        (nearer : (old.known node ≡ false) ⊎ (value <ℤ old.value node))
        (new_known : c.known node ≡ true)
        (new_value : c.value node ≡ value)
        (new_parent : c.parent node ≡ parent)
        (new_waits : waits node ≡ true)
        (others : (k : ℕ) → k ≢ node → IsAsBefore old c (λ _. false) waits k)
      where
        -- the tail of the candidate's arc is another node, and not above it
        tail_other : IsArcCandidate table p old node value parent
            → ((table.arc parent).from ≢ node) × (reduced e old (table.arc parent).from ≤ℤ (value -ℤ e node))
        tail_other r =
            let o : (e (table.arc parent).to -ℤ e (table.arc parent).from) ≤ℤ (table.arc parent).weight = x parent r.in_force in
            let v : value ≡ old.value (table.arc parent).from +ℤ (table.arc parent).weight = r.value_is in
            let q : e (table.arc parent).to ≡ e node = ap e r.ends in (
              λ t. elim nearer [
                | inl f ↦ (let k : old.known (table.arc parent).from ≡ true = r.tail_known in let k2 : old.known node ≡ true = ap old.known (sym t) ∙ k in cc)
                | inr l ↦ (let l1 : value <ℤ old.value node = l in let a : old.value (table.arc parent).from ≡ old.value node = ap old.value t in
                    let a2 : e (table.arc parent).from ≡ e node = ap e t in omega (arith, ints))
              ],
              omega (arith, ints),
            )

        not_own : IsArcCandidate table p old node value parent → node ≢ p
        not_own r q =
            let b : (e node -ℤ e p) ≤ℤ value = candidate_bound e x in
            let q1 : e node ≡ e p = ap e q in
            elim nearer [
              | inl f ↦ (let k : old.known p ≡ true = r.own.0 in let k2 : old.known node ≡ true = ap old.known q ∙ k in cc)
              | inr l ↦ (let l1 : value <ℤ old.value node = l in let z : old.value p ≡ pos 0 = r.own.1 in let z1 : old.value node ≡ old.value p = ap old.value q in omega (arith, ints))
            ]

        fresh : IsFresh old c node
        fresh = elim nearer [ inl f ↦ inl f | inr l ↦ inr (let l1 : value <ℤ old.value node = l in omega (arith, ints, new_value)) ]

        candidate_given : IsArcCandidate table p old node value parent → IsGiven table p e (value -ℤ e node) (λ k. 0) old c waits node
        candidate_given r =
            let t : ((table.arc parent).from ≢ node) × (reduced e old (table.arc parent).from ≤ℤ (value -ℤ e node)) = tail_other r in
            let o : IsAsBefore old c (λ _. false) waits (table.arc parent).from = others (table.arc parent).from t.0 in
            record {
              away = not_own r;
              tight = record {
                in_force = subst (λ j. table.in_force j ≡ true) (sym new_parent) r.in_force;
                ends = subst (λ j. (table.arc j).to ≡ node) (sym new_parent) r.ends;
                tail_known = subst (λ j. c.known (table.arc j).from ≡ true) (sym new_parent) (o.0 ∙ r.tail_known);
                value = subst (λ j. c.value node ≡ c.value (table.arc j).from +ℤ (table.arc j).weight) (sym new_parent)
                    (let v : value ≡ old.value (table.arc parent).from +ℤ (table.arc parent).weight = r.value_is in omega (arith, ints, new_value, o.1));
              };
              rests = subst (λ j. waits (table.arc j).from ≡ false) (sym new_parent) o.3;
              final = subst (λ j. IsFinal table p e (value -ℤ e node) c (table.arc j).from) (sym new_parent) (inl
                  (let t1 : reduced e old (table.arc parent).from ≤ℤ (value -ℤ e node) = t.1 in omega (arith, ints, o.1)));
              ranked = λ f. absurd (not_fresh f);
            }
          where
            not_fresh : IsFresh old c (table.arc (c.parent node)).from → ⊥
            not_fresh f =
                let f2 : IsFresh old c (table.arc parent).from = subst (λ j. IsFresh old c (table.arc j).from) new_parent f in
                let t : ((table.arc parent).from ≢ node) × (reduced e old (table.arc parent).from ≤ℤ (value -ℤ e node)) = tail_other r in
                let o : IsAsBefore old c (λ _. false) waits (table.arc parent).from = others (table.arc parent).from t.0 in
                elim f2 [
                  | inl u ↦ (let k : old.known (table.arc parent).from ≡ true = r.tail_known in cc)
                  | inr l ↦ (let l1 : c.value (table.arc parent).from <ℤ old.value (table.arc parent).from = l in omega (arith, ints, o.1))
                ]

        pub put_relaxing : IsRelaxing table p e (value -ℤ e node) (λ k. 0) old c waits
        put_relaxing = record {
          own = elim s.from [
            | inl r ↦ subst (λ n. (c.known n ≡ true) × (c.value n ≡ pos 0) × (c.parent n ≡ no_parent)) r.0 (new_known, new_value ∙ r.1, new_parent ∙ r.2)
            | inr r ↦ (let o : IsAsBefore old c (λ _. false) waits p = others p (λ q. not_own r (sym q)) in (o.0 ∙ r.own.0, o.1 ∙ r.own.1, o.2 ∙ r.own.2))
          ];
          each = λ k. elim (cases_eq k node) [
            | inl q ↦ inr (subst (λ n. IsTouched table p e (value -ℤ e node) (λ k. 0) old c waits n) (sym q) (record {
              known = new_known;
              fresh = fresh;
              given = elim s.from [ inl r ↦ inl r.0 | inr r ↦ inr (candidate_given r) ];
            }))
            | inr n ↦ (let o : IsAsBefore old c (λ _. false) waits k = others k n in inl (record { known = o.0; value = o.1; parent = o.2; rests = o.3 }))
          ];
          above = λ k w. elim (cases_eq k node) [
            | inl q ↦ subst (λ n. (value -ℤ e node) ≤ℤ reduced e c n) (sym q) (omega (arith, ints, new_value))
            | inr n ↦ absurd (let v : waits k ≡ false = (others k n).3 in let g : ⊥ = cc in g)
          ];
          below = λ k w kn f. elim (cases_eq k node) [
            | inl q ↦ absurd (let v : waits k ≡ true = ap waits q ∙ new_waits in let g : ⊥ = cc in g)
            | inr n ↦ (let o : IsAsBefore old c (λ _. false) waits k = others k n in absurd (elim f [
              | inl u ↦ (let o0 : c.known k ≡ old.known k = o.0 in cc)
              | inr l ↦ (let l1 : c.value k <ℤ old.value k = l in omega (arith, ints, o.1))
            ]))
          ];
          met = λ j f k w. elim (cases_eq (table.arc j).from node) [
            | inl q ↦ absurd (let v : waits (table.arc j).from ≡ true = ap waits q ∙ new_waits in let g : ⊥ = cc in g)
            | inr n ↦ met_other j f n (sym (others (table.arc j).from n).0 ∙ k)
          ];
          bound = λ y oy k kn. elim (cases_eq k node) [
            | inl q ↦ subst (λ n. (y n -ℤ y p) ≤ℤ c.value n) (sym q) (let b : (y node -ℤ y p) ≤ℤ value = candidate_bound y oy in omega (arith, ints, new_value))
            | inr n ↦ (let o : IsAsBefore old c (λ _. false) waits k = others k n in let b : (y k -ℤ y p) ≤ℤ old.value k = s.bound y oy k (sym o.0 ∙ kn) in omega (arith, ints, o.1))
          ];
        }
          where
            low : (k : ℕ) → old.known k ≡ true → (c.known k ≡ true) × (c.value k ≤ℤ old.value k)
            low k kn = elim (cases_eq k node) [
              | inl q ↦ subst (λ n. old.known n ≡ true → (c.known n ≡ true) × (c.value n ≤ℤ old.value n)) (sym q) (λ kn2. (
                new_known,
                elim nearer [
                  | inl u ↦ absurd
                      (let g : ⊥ = cc in g)
                  | inr l ↦ (let l1 : value <ℤ old.value node = l in omega (arith, ints, new_value))
                ],
              )) kn
              | inr n ↦ (let o : IsAsBefore old c (λ _. false) waits k = others k n in (o.0 ∙ kn, omega (arith, ints, o.1)))
            ]

            met_other : (j : ℕ) → table.in_force j ≡ true → (table.arc j).from ≢ node → old.known (table.arc j).from ≡ true → IsRelaxed table c j
            met_other j f n k =
                let o : IsAsBefore old c (λ _. false) waits (table.arc j).from = others (table.arc j).from n in
                elim (s.met j f k) [
                  | inl m ↦
                      let g : (c.known (table.arc j).to ≡ true) × (c.value (table.arc j).to ≤ℤ old.value (table.arc j).to) = low (table.arc j).to m.0 in
                      let m1 : old.value (table.arc j).to ≤ℤ (old.value (table.arc j).from +ℤ (table.arc j).weight) = m.1 in
                      let g1 : c.value (table.arc j).to ≤ℤ old.value (table.arc j).to = g.1 in
                      (g.0, omega (arith, ints, o.1))
                  | inr m ↦
                      let m1 : value ≤ℤ (old.value (table.arc j).from +ℤ (table.arc j).weight) = m.1 in
                      let v : c.value (table.arc j).to ≡ value = ap c.value m.0 ∙ new_value in
                      (ap c.known m.0 ∙ new_known, omega (arith, ints, o.1))
                ]
