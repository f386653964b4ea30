-- An arc is taken out of the lists of its ends.
use Rattle.std.proofs.Common.{◌≡◌, ℕ, ◌+◌, ◌-◌, ◌<◌, Bool, true, false, List, [], length, set, get_or, refl, ap, sym, ◌∙◌, subst, arith, inl, inr, ◌⊎◌, length-set, get_or-take, pos}
use Rattle.std.specs.Prelude.{◌≢◌}
use Rattle.std.specs.List.{swap_remove}
use Rattle.std.proofs.lemmas.List.{get_or-set_same, get_or-set_other, get_or_past, get_or_default, get_or-map, length-map, length-take-le}
use Rattle.std.proofs.lemmas.Bool.{cases_lt, cases_eq}
use Rattle.problem_model.specs.Tables.{ArcTable, reversed_table}
use Rattle.sync_graph.specs.declared.arc.Arc.{Arc}
use Rattle.sync_graph.specs.declared.arcs.KindArc.{KindArc}
use Rattle.sync_graph.specs.Kinds.{named_arc, named_arcs}
use Rattle.sync_graph.proofs.InForce.{in_force_below}
use Rattle.sync_graph.specs.Lists.{list_at, entry_at, AreListed}
use Rattle.problem_model.specs.declared.items.Node.{Node}
use Rattle.problem_model.specs.declared.items.Bound.TheVariants.{Late}
use Rattle.sync_graph.specs.Graph.{GraphLists, table_of, arc_at, IsSound, IsGraph}

length-swap_remove : (xs : List ℕ) (i : ℕ) → i < length xs → length (swap_remove xs i 0) ≡ length xs - 1
length-swap_remove xs i l = length-take-le (length xs - 1) (set xs i (get_or xs (length xs - 1) 0)) (omega (arith, length-set xs i (get_or xs (length xs - 1) 0)))

-- the entries after one is taken
swapped_at : (xs : List ℕ) (i k : ℕ) → i < length xs → k + 1 < length xs → ((k ≡ i) × (get_or (swap_remove xs i 0) k 0 ≡ get_or xs (length xs - 1) 0)) ⊎ ((k ≢ i) × (get_or (swap_remove xs i 0) k 0 ≡ get_or xs k 0))
swapped_at xs i k l lk =
    let t : get_or (swap_remove xs i 0) k 0 ≡ get_or (set xs i (get_or xs (length xs - 1) 0)) k 0 = get_or-take (length xs - 1) (set xs i (get_or xs (length xs - 1) 0)) k 0 (omega arith) in
    elim (cases_eq k i) [
      | inl q ↦ inl (q, t ∙ ap (λ n. get_or (set xs i (get_or xs (length xs - 1) 0)) n 0) q ∙ get_or-set_same xs i (get_or xs (length xs - 1) 0) 0 l)
      | inr n ↦ inr (n, t ∙ get_or-set_other xs i k (get_or xs (length xs - 1) 0) 0 n)
    ]

-- where a later entry stood before
old_place : (xs : List ℕ) (i k : ℕ) → i < length xs → k < length (swap_remove xs i 0) → (m : ℕ) × (m < length xs) × (m ≢ i) × (get_or (swap_remove xs i 0) k 0 ≡ get_or xs m 0) × (((k ≡ i) × (m ≡ length xs - 1)) ⊎ ((k ≢ i) × (m ≡ k)))
old_place xs i k l lk =
    let len : length (swap_remove xs i 0) ≡ length xs - 1 = length-swap_remove xs i l in
    elim (swapped_at xs i k l (omega arith)) [
      | inl q ↦ (let q0 : k ≡ i = q.0 in (length xs - 1, omega arith, (λ e. omega arith), q.1, inl (q0, refl)))
      | inr q ↦ (k, omega arith, q.0, q.1, inr (q.0, refl))
    ]

-- where an earlier entry stands now
new_place : (xs : List ℕ) (i m : ℕ) → i < length xs → m < length xs → m ≢ i → (k : ℕ) × (k < length (swap_remove xs i 0)) × (get_or (swap_remove xs i 0) k 0 ≡ get_or xs m 0)
new_place xs i m l lm n =
    let len : length (swap_remove xs i 0) ≡ length xs - 1 = length-swap_remove xs i l in
    elim (cases_eq m (length xs - 1)) [
      | inl q ↦ (i, omega arith, elim (swapped_at xs i i l (omega arith)) [ inl y ↦ y.1 ∙ ap (λ v. get_or xs v 0) (sym q) | inr y ↦ absurd (y.0 refl) ])
      | inr w ↦ (m, omega arith, elim (swapped_at xs i m l (omega arith)) [ inl y ↦ absurd (n y.0) | inr y ↦ y.1 ])
    ]

module _ (net net' : ArcTable) (nodes : ℕ) (lists lists' : List (List ℕ)) (a j i : ℕ)
    (h : AreListed net nodes lists)
    (la : a < nodes)
    (gone : net'.in_force j ≡ false)
    (same : (k : ℕ) → k ≢ j → net'.in_force k ≡ net.in_force k)
    (tails : (k : ℕ) → (net'.arc k).from ≡ (net.arc k).from)
    (begins : (net.arc j).from ≡ a)
    (li : i < length (get_or lists a []))
    (ei : get_or (get_or lists a []) i 0 ≡ j)
    (new : lists' ≡ set lists a (swap_remove (get_or lists a []) i 0))
  where
    here : get_or lists' a [] ≡ swap_remove (get_or lists a []) i 0
    here = ap (λ v. get_or v a []) new ∙ get_or-set_same lists a (swap_remove (get_or lists a []) i 0) [] (omega (arith, h.one_each))

    there : (node : ℕ) → node ≢ a → get_or lists' node [] ≡ get_or lists node []
    there node n = ap (λ v. get_or v node []) new ∙ get_or-set_other lists a node (swap_remove (get_or lists a []) i 0) [] n

    -- each later entry is an earlier one, at a place of its own, and another than the arc
    before_place : (node k : ℕ) → k < length (get_or lists' node []) → (m : ℕ) × (m < length (get_or lists node [])) × (get_or (get_or lists' node []) k 0 ≡ get_or (get_or lists node []) m 0) × (get_or (get_or lists node []) m 0 ≢ j)
        × ((node ≢ a × (m ≡ k)) ⊎ ((node ≡ a) × (((k ≡ i) × (m ≡ length (get_or lists node []) - 1)) ⊎ ((k ≢ i) × (m ≡ k)))))
    before_place node k l = elim (cases_eq node a) [
      | inr n ↦ (k, subst (λ v. k < length v) (there node n) l, ap (λ v. get_or v k 0) (there node n), (λ e. n (let g : (net.arc (get_or (get_or lists node []) k 0)).from ≡ node = (h.only node k (subst (λ v. k < length v) (there node n) l)).1 in sym g ∙ ap (λ x. (net.arc x).from) e ∙ begins)), inl (n, refl))
      | inl q ↦ subst (λ x. (l : k < length (get_or lists' x [])) → (m : ℕ) × (m < length (get_or lists x [])) × (get_or (get_or lists' x []) k 0 ≡ get_or (get_or lists x []) m 0) × (get_or (get_or lists x []) m 0 ≢ j) × ((x ≢ a × (m ≡ k)) ⊎ ((x ≡ a) × (((k ≡ i) × (m ≡ length (get_or lists x []) - 1)) ⊎ ((k ≢ i) × (m ≡ k)))))) (sym q) (λ l2.
          let o = old_place (get_or lists a []) i k li (subst (λ v. k < length v) here l2) in
          (o.0, o.1, ap (λ v. get_or v k 0) here ∙ o.3, (λ e. o.2 (h.once a o.0 i o.1 li (e ∙ sym ei))), inr (refl, o.4))) l
    ]

    pub removed_listed : AreListed net' nodes lists'
    removed_listed = record {
      one_each = ap length new ∙ length-set lists a (swap_remove (get_or lists a []) i 0) ∙ h.one_each;
      only = λ node k l. (let b = before_place node k l in let g : (net.in_force (get_or (get_or lists node []) b.0 0) ≡ true) × ((net.arc (get_or (get_or lists node []) b.0 0)).from ≡ node) = h.only node b.0 b.1 in
          (ap net'.in_force b.2 ∙ same (get_or (get_or lists node []) b.0 0) b.3 ∙ g.0, ap (λ x. (net'.arc x).from) b.2 ∙ tails (get_or (get_or lists node []) b.0 0) ∙ g.1));
      all = λ m f.
          let n : m ≢ j = (λ e. (let x : net'.in_force m ≡ false = ap net'.in_force e ∙ gone in cc)) in
          let r : (k : ℕ) × (k < length (get_or lists (net.arc m).from [])) × (get_or (get_or lists (net.arc m).from []) k 0 ≡ m) = h.all m (sym (same m n) ∙ f) in
          subst (λ t. (k : ℕ) × (k < length (get_or lists' t [])) × (get_or (get_or lists' t []) k 0 ≡ m)) (sym (tails m)) (elim (cases_eq (net.arc m).from a) [
            | inr w ↦ (r.0, subst (λ v. r.0 < length v) (sym (there (net.arc m).from w)) r.1, ap (λ v. get_or v r.0 0) (there (net.arc m).from w) ∙ r.2)
            | inl q ↦
                let r2 : (r.0 < length (get_or lists a [])) × (get_or (get_or lists a []) r.0 0 ≡ m) = subst (λ t. (r.0 < length (get_or lists t [])) × (get_or (get_or lists t []) r.0 0 ≡ m)) q (r.1, r.2) in
                let p : (k : ℕ) × (k < length (swap_remove (get_or lists a []) i 0)) × (get_or (swap_remove (get_or lists a []) i 0) k 0 ≡ get_or (get_or lists a []) r.0 0) = new_place (get_or lists a []) i r.0 li r2.0 (λ e. n (sym r2.1 ∙ ap (λ v. get_or (get_or lists a []) v 0) e ∙ ei)) in
                subst (λ t. (k : ℕ) × (k < length (get_or lists' t [])) × (get_or (get_or lists' t []) k 0 ≡ m)) (sym q) (p.0, subst (λ v. p.0 < length v) (sym here) p.1, ap (λ v. get_or v p.0 0) here ∙ p.2 ∙ r2.1)
          ]);
      once = λ node k l lk ll e.
          let b = before_place node k lk in
          let d = before_place node l ll in
          let q : b.0 ≡ d.0 = h.once node b.0 d.0 b.1 d.1 (sym b.2 ∙ e ∙ d.2) in
          elim b.4 [
            | inl x ↦ elim d.4 [ inl y ↦ sym x.1 ∙ q ∙ y.1 | inr y ↦ absurd (x.0 y.0) ]
            | inr x ↦ elim d.4 [
              | inl y ↦ absurd (y.0 x.0)
              | inr y ↦ elim x.1 [
                | inl u ↦ elim y.1 [ inl w ↦ u.0 ∙ sym w.0 | inr w ↦ absurd (let s : l + 1 < length (get_or lists node []) = strict node l x.0 ll in let u1 : b.0 ≡ length (get_or lists node []) - 1 = u.1 in let w1 : d.0 ≡ l = w.1 in omega arith) ]
                | inr u ↦ elim y.1 [ inl w ↦ absurd (let s : k + 1 < length (get_or lists node []) = strict node k x.0 lk in let u1 : b.0 ≡ k = u.1 in let w1 : d.0 ≡ length (get_or lists node []) - 1 = w.1 in omega arith) | inr w ↦ sym u.1 ∙ q ∙ w.1 ]
              ]
            ]
          ];
    }
      where
        strict : (node k : ℕ) → node ≡ a → k < length (get_or lists' node []) → k + 1 < length (get_or lists node [])
        strict node k e l =
            let l2 : k < length (get_or lists' a []) = subst (λ t. k < length (get_or lists' t [])) e l in
            let l3 : k < length (swap_remove (get_or lists a []) i 0) = subst (λ v. k < length v) here l2 in
            subst (λ t. k + 1 < length (get_or lists t [])) (sym e) (let len : length (swap_remove (get_or lists a []) i 0) ≡ length (get_or lists a []) - 1 = length-swap_remove (get_or lists a []) i li in omega arith)

-- the graph without one arc in force
pub removed_graph : (nodes : List Node) (arcs : List Arc) (force : List Bool) (leaving leaving' arriving arriving' : List (List ℕ)) (k : ℕ) (a : Arc)
    → IsGraph (record { nodes = nodes; arcs = arcs; in_force = force; leaving = leaving; arriving = arriving }) → get_or force k false ≡ true → a ≡ get_or arcs k a
    → (i : ℕ) × (i < length (list_at leaving a.from)) × (entry_at leaving a.from i ≡ k) × (leaving' ≡ set leaving a.from (swap_remove (list_at leaving a.from) i 0))
    → (i : ℕ) × (i < length (list_at arriving a.to)) × (entry_at arriving a.to i ≡ k) × (arriving' ≡ set arriving a.to (swap_remove (list_at arriving a.to) i 0))
    → IsGraph (record { nodes = nodes; arcs = arcs; in_force = set force k false; leaving = leaving'; arriving = arriving' })
removed_graph nodes arcs force leaving leaving' arriving arriving' k a g f ea o n =
    let z : Arc = record { from = 0; to = 0; weight = pos 0; name = Late 0 } in
    let t : GraphLists = record { nodes = nodes; arcs = arcs; in_force = force; leaving = leaving; arriving = arriving } in
    let t' : GraphLists = record { nodes = nodes; arcs = arcs; in_force = set force k false; leaving = leaving'; arriving = arriving' } in
    let lk : k < length force = elim (cases_lt k (length force)) [ inl l ↦ l | inr l ↦ absurd (let e : get_or force k false ≡ false = get_or_past force k false l in let x : ⊥ = cc in x) ] in
    let la : k < length arcs = omega (arith, g.flags) in
    let ez : arc_at arcs k ≡ a = get_or_default arcs k z a la ∙ sym ea in
    let gone : get_or (set force k false) k false ≡ false = get_or-set_same force k false false lk in
    let same : (j : ℕ) → j ≢ k → get_or (set force k false) j false ≡ get_or force j false = λ j w. get_or-set_other force k j false false w in
    let s : IsSound (length nodes) (get_or arcs k z) = g.sound k z la in
    record {
      nodes_differ = g.nodes_differ;
      flags = length-set force k false ∙ g.flags;
      sound = g.sound;
      named = g.named;
      out = removed_listed (table_of t) (table_of t') (length nodes) leaving leaving' a.from k o.0 g.out (subst (λ (b : Arc). b.from < length nodes) ez s.from) gone same (λ j. refl) (ap (λ (b : Arc). b.from) ez) o.1 o.2 o.3;
      into = removed_listed (reversed_table (table_of t)) (reversed_table (table_of t')) (length nodes) arriving arriving' a.to k n.0 g.into (subst (λ (b : Arc). b.to < length nodes) ez s.to) gone same (λ j. refl) (ap (λ (b : Arc). b.to) ez) n.1 n.2 n.3;
      node_limit = g.node_limit;
      arc_limit = g.arc_limit;
    }

-- the same, by the arcs with kinds in place of names
pub kind_removed : (nodes : List Node) (arcs : List KindArc) (force : List Bool) (leaving leaving' arriving arriving' : List (List ℕ)) (k : ℕ) (a : KindArc)
    → IsGraph (record { nodes = nodes; arcs = named_arcs nodes arcs; in_force = force; leaving = leaving; arriving = arriving }) → get_or force k false ≡ true → a ≡ get_or arcs k a
    → (i : ℕ) × (i < length (list_at leaving a.from)) × (entry_at leaving a.from i ≡ k) × (leaving' ≡ set leaving a.from (swap_remove (list_at leaving a.from) i 0))
    → (i : ℕ) × (i < length (list_at arriving a.to)) × (entry_at arriving a.to i ≡ k) × (arriving' ≡ set arriving a.to (swap_remove (list_at arriving a.to) i 0))
    → IsGraph (record { nodes = nodes; arcs = named_arcs nodes arcs; in_force = set force k false; leaving = leaving'; arriving = arriving' })
kind_removed nodes arcs force leaving leaving' arriving arriving' k a g f ea o n =
    let t : GraphLists = record { nodes = nodes; arcs = named_arcs nodes arcs; in_force = force; leaving = leaving; arriving = arriving } in
    let lk : k < length arcs = omega (arith, in_force_below t g k f, length-map arcs (named_arc nodes)) in
    removed_graph nodes (named_arcs nodes arcs) force leaving leaving' arriving arriving' k (named_arc nodes a) g f
    (sym (get_or-map (named_arc nodes) arcs k a (named_arc nodes a) lk ∙ ap (named_arc nodes) (sym ea))) o n
