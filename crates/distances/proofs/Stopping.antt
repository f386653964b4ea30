-- A search that is left before all nodes are taken has the greatest difference of the node that it would take next.
use Rattle.std.proofs.Common.{◌≡◌, ℕ, ◌<◌, Bool, true, false, not, ◌&&◌, length, List, get_or, refl, ap, sym, ◌∙◌, subst, arith, inl, inr, ◌⊎◌}
use Rattle.std.specs.Prelude.{◌+◌, ◌^◌, Option, Some, None, IfSome, ℤ, pos, neg_ℤ, ◌+ℤ◌, ◌-ℤ◌, ◌≤ℤ◌, ◌<ℤ◌, All}
use Rattle.std.proofs.lemmas.Int.{ints, by_lt_z}
use Rattle.std.proofs.lemmas.Bool.{cases_lt}
use Rattle.std.proofs.lemmas.List.Elements.{Contains-get_or}
use Rattle.problem_model.specs.Executions as bounds
use Rattle.problem_model.specs.Executions.{at, difference, Obeys, IsExecution, values_by}
use Rattle.problem_model.specs.Tables.{ArcTable, Lists, ObeysAll, reversed_table}
use Rattle.problem_model.specs.Parents.{Cells, IsRelaxed}
use Rattle.problem_model.specs.RowPops.{reduced, IsRelaxing, IsUnderWay}
use Rattle.problem_model.specs.Limits.{path_bits}
use Rattle.problem_model.proofs.Executions.{at-values_by, execution_by}
use Rattle.problem_model.proofs.Tables.{obeys_all}
use Rattle.sync_graph.specs.Graph.{GraphLists, IsGraph, table_of}
use Rattle.sync_graph.specs.InForce.{arcs_of}
use Rattle.sync_graph.proofs.InForce.{arcs_listed, arcs_within}
use Rattle.frontier.specs.Keys.{Waits, IsEmpty, IsLeastEntry}
use Rattle.row_pool.specs.declared.cell.Cell.{Cell}
use Rattle.row_pool.specs.declared.cell.Reach.{Reach}
use Rattle.row_pool.specs.declared.cell.Reach.TheVariants.{At, Never}
use Rattle.row_pool.specs.Reach.{known_reach, reach_of}
use Rattle.row_pool.specs.Row.{cell_at, cells_of}
use Rattle.distances.specs.Relaxed.{waits_of, AreKeyed}
use Rattle.distances.specs.declared.side.Side.{Side}
use Rattle.distances.specs.declared.side.Side.TheVariants.{From, Towards}
use Rattle.distances.specs.Facing.{facing}
use Rattle.distances.specs.Reaches.{IsReachIn, IsReachBy, IsReachOver}
use Rattle.distances.specs.Guides.{told, IsFence}
use Rattle.distances.specs.Wiping.{rests}
use Rattle.distances.proofs.Puts.{waits_true, waits_key, none_waits, least_reduced}
use Rattle.distances.proofs.Resting.{not_both, obeys_so}

-- one of two values, by whether a node is known and whether it waits
abbrev held_by : Bool → Bool → ℤ → ℤ → ℤ
held_by true false own other = own
held_by true true own other = other
held_by false _ own other = other

-- a taken node at its distance, and each other K above its potential
abbrev held : Cells → (ℕ → Bool) → (ℕ → ℤ) → ℤ → ℕ → ℤ
held c waits e K k = held_by (c.known k) (waits k) (c.value k) (e k +ℤ K)

-- how a node is held
abbrev IsHeld : Cells → (ℕ → Bool) → (ℕ → ℤ) → ℤ → ℕ → Type 0
IsHeld c waits e K k =
    ((c.known k ≡ true) × (waits k ≡ false) × (held c waits e K k ≡ c.value k))
    ⊎ ((c.known k ≡ true → waits k ≡ true) × (held c waits e K k ≡ e k +ℤ K))

held_either : (c : Cells) (waits : ℕ → Bool) (e : ℕ → ℤ) (K : ℤ) (k : ℕ) (a b : Bool) → c.known k ≡ a → waits k ≡ b → IsHeld c waits e K k
held_either c waits e K k true true ea eb = inr (λ _. eb, ap (λ v. held_by v (waits k) (c.value k) (e k +ℤ K)) ea ∙ ap (λ v. held_by true v (c.value k) (e k +ℤ K)) eb)
held_either c waits e K k true false ea eb = inl (ea, eb, ap (λ v. held_by v (waits k) (c.value k) (e k +ℤ K)) ea ∙ ap (λ v. held_by true v (c.value k) (e k +ℤ K)) eb)
held_either c waits e K k false b ea eb = inr (λ h. absurd (let z : ⊥ = cc in z), ap (λ v. held_by v (waits k) (c.value k) (e k +ℤ K)) ea)

is_held : (c : Cells) (waits : ℕ → Bool) (e : ℕ → ℤ) (K : ℤ) (k : ℕ) → IsHeld c waits e K k
is_held c waits e K k = held_either c waits e K k (c.known k) (waits k) refl refl

module _ (table : ArcTable) (p : ℕ) (e : ℕ → ℤ) (top : ℤ) (rank : ℕ → ℕ) (old c : Cells) (waits : ℕ → Bool)
    (b : IsRelaxing table p e top rank old c waits)
    (fresh : (k : ℕ) → old.known k ≡ false)
    (x : ObeysAll table e)
  where
    module _ (K : ℤ)
        (low : top ≤ℤ K)
        (high : (k : ℕ) → waits k ≡ true → K ≤ℤ reduced e c k)
      where
        -- a taken node lies no more than K above its potential
        taken_low : (k : ℕ) → c.known k ≡ true → waits k ≡ false → c.value k ≤ℤ (e k +ℤ K)
        taken_low k h w = let r : reduced e c k ≤ℤ top = b.below k w h (inl (fresh k)) in omega (arith, ints)

        -- a node that is not taken, but known, no less
        waiting_high : (k : ℕ) → c.known k ≡ true → waits k ≡ true → (e k +ℤ K) ≤ℤ c.value k
        waiting_high k h w = let r : K ≤ℤ reduced e c k = high k w in omega (arith, ints)

        held_arc : (j : ℕ) → table.in_force j ≡ true
            → IsHeld c waits e K (table.arc j).from → IsHeld c waits e K (table.arc j).to
            → (held c waits e K (table.arc j).to -ℤ held c waits e K (table.arc j).from) ≤ℤ (table.arc j).weight
        held_arc j f (inl u) (inl v) =
            let m : IsRelaxed table c j = b.met j f u.0 u.1 in
            let m1 : c.value (table.arc j).to ≤ℤ (c.value (table.arc j).from +ℤ (table.arc j).weight) = m.1 in
            let eu : held c waits e K (table.arc j).from ≡ c.value (table.arc j).from = u.2 in
            let ev : held c waits e K (table.arc j).to ≡ c.value (table.arc j).to = v.2 in
            omega (arith, ints)
        held_arc j f (inl u) (inr v) =
            let m : IsRelaxed table c j = b.met j f u.0 u.1 in
            let m1 : c.value (table.arc j).to ≤ℤ (c.value (table.arc j).from +ℤ (table.arc j).weight) = m.1 in
            let h : (e (table.arc j).to +ℤ K) ≤ℤ c.value (table.arc j).to = waiting_high (table.arc j).to m.0 (v.0 m.0) in
            let eu : held c waits e K (table.arc j).from ≡ c.value (table.arc j).from = u.2 in
            let ev : held c waits e K (table.arc j).to ≡ e (table.arc j).to +ℤ K = v.1 in
            omega (arith, ints)
        held_arc j f (inr u) (inl v) =
            let o : (e (table.arc j).to -ℤ e (table.arc j).from) ≤ℤ (table.arc j).weight = x j f in
            let l : c.value (table.arc j).to ≤ℤ (e (table.arc j).to +ℤ K) = taken_low (table.arc j).to v.0 v.1 in
            let eu : held c waits e K (table.arc j).from ≡ e (table.arc j).from +ℤ K = u.1 in
            let ev : held c waits e K (table.arc j).to ≡ c.value (table.arc j).to = v.2 in
            omega (arith, ints)
        held_arc j f (inr u) (inr v) =
            let o : (e (table.arc j).to -ℤ e (table.arc j).from) ≤ℤ (table.arc j).weight = x j f in
            let eu : held c waits e K (table.arc j).from ≡ e (table.arc j).from +ℤ K = u.1 in
            let ev : held c waits e K (table.arc j).to ≡ e (table.arc j).to +ℤ K = v.1 in
            omega (arith, ints)

        -- so all nodes together obey the arcs
        held_obeys : ObeysAll table (held c waits e K)
        held_obeys j f = held_arc j f (is_held c waits e K (table.arc j).from) (is_held c waits e K (table.arc j).to)

        -- the taken nodes are a fence
        fence_either : (k : ℕ) (a w : Bool) → c.known k ≡ a → waits k ≡ w → told (a && not w) (c.value k) (e k +ℤ K) ≡ held c waits e K k
        fence_either k true true ea ew = sym (ap (λ v. held_by v (waits k) (c.value k) (e k +ℤ K)) ea ∙ ap (λ v. held_by true v (c.value k) (e k +ℤ K)) ew)
        fence_either k true false ea ew = sym (ap (λ v. held_by v (waits k) (c.value k) (e k +ℤ K)) ea ∙ ap (λ v. held_by true v (c.value k) (e k +ℤ K)) ew)
        fence_either k false w ea ew = sym (ap (λ v. held_by v (waits k) (c.value k) (e k +ℤ K)) ea)

        pub taken_fence : IsFence table p e K (λ k. c.known k && not (waits k)) c.value
        taken_fence = record {
          obeyed = obeys_so table (held c waits e K) (λ k. told (c.known k && not (waits k)) (c.value k) (e k +ℤ K)) (λ k. fence_either k (c.known k) (waits k) refl refl) held_obeys;
          low = λ k r. b.bound e x k (not_both (c.known k) (waits k) r).0;
          high = λ k r. taken_low k (not_both (c.known k) (waits k) r).0 (not_both (c.known k) (waits k) r).1;
        }

    own_value : c.value p ≡ pos 0
    own_value = b.own.1

    -- the node of least reduced cost among those that wait has its greatest difference
    module _ (q : ℕ)
        (waiting : waits q ≡ true)
        (known : c.known q ≡ true)
        (least : (k : ℕ) → waits k ≡ true → reduced e c q ≤ℤ reduced e c k)
      where
        stopped_difference : IsHeld c waits e (reduced e c q) p → IsHeld c waits e (reduced e c q) q
            → held c waits e (reduced e c q) q -ℤ held c waits e (reduced e c q) p ≡ c.value q
        stopped_difference hp (inl v) = absurd (let w : waits q ≡ false = v.1 in let z : ⊥ = cc in z)
        stopped_difference (inl u) (inr v) =
            let eu : held c waits e (reduced e c q) p ≡ c.value p = u.2 in
            let ev : held c waits e (reduced e c q) q ≡ e q +ℤ reduced e c q = v.1 in
            let z : c.value p ≡ pos 0 = own_value in
            omega (arith, ints)
        stopped_difference (inr u) (inr v) =
            let eu : held c waits e (reduced e c q) p ≡ e p +ℤ reduced e c q = u.1 in
            let ev : held c waits e (reduced e c q) q ≡ e q +ℤ reduced e c q = v.1 in
            let z : c.value p ≡ pos 0 = own_value in
            let l : reduced e c q ≤ℤ reduced e c p = least p (u.0 b.own.0) in
            let m : (e q -ℤ e p) ≤ℤ c.value q = b.bound e x q known in
            omega (arith, ints)

        pub stopped : IsReachOver table p q (reach_of c q)
        stopped = subst (λ k. IsReachOver table p q (known_reach k (c.value q))) (sym known) (record {
          most = λ y oy. b.bound y oy q known;
          attained = (
            held c waits e (reduced e c q),
            held_obeys (reduced e c q) (b.above q waiting) least,
            stopped_difference (is_held c waits e (reduced e c q) p) (is_held c waits e (reduced e c q) q),
          );
        })

    -- where none waits, so has each known node, and to each other the differences pass every number
    module _ (none : (k : ℕ) → waits k ≡ false) (q : ℕ) where
      none_high : (K : ℤ) → (k : ℕ) → waits k ≡ true → K ≤ℤ reduced e c k
      none_high K k w = absurd (let f : waits k ≡ false = none k in let z : ⊥ = cc in z)

      held_own : (K : ℤ) → IsHeld c waits e K p → held c waits e K p ≡ pos 0
      held_own K (inl u) = u.2 ∙ own_value
      held_own K (inr u) = absurd (let w : waits p ≡ true = u.0 b.own.0 in let f : waits p ≡ false = none p in let z : ⊥ = cc in z)

      held_known : (K : ℤ) → c.known q ≡ true → IsHeld c waits e K q → held c waits e K q ≡ c.value q
      held_known K h (inl u) = u.2
      held_known K h (inr u) = absurd (let w : waits q ≡ true = u.0 h in let f : waits q ≡ false = none q in let z : ⊥ = cc in z)

      held_other : (K : ℤ) → c.known q ≡ false → IsHeld c waits e K q → held c waits e K q ≡ e q +ℤ K
      held_other K h (inl u) = absurd (let t : c.known q ≡ true = u.0 in let z : ⊥ = cc in z)
      held_other K h (inr u) = u.1

      -- K far enough above h
      passing : (h K : ℤ) → c.known q ≡ false → top ≤ℤ K → h <ℤ (e q +ℤ K) → (y : ℕ → ℤ) × ObeysAll table y × (h <ℤ (y q -ℤ y p))
      passing h K u low more = (
        held c waits e K,
        held_obeys K low (none_high K),
        (let vp : held c waits e K p ≡ pos 0 = held_own K (is_held c waits e K p) in
            let vq : held c waits e K q ≡ e q +ℤ K = held_other K u (is_held c waits e K q) in
            omega (arith, ints)),
      )

      ended_at : (known : Bool) → c.known q ≡ known → IsReachOver table p q (known_reach known (c.value q))
      ended_at true h = record {
        most = λ y oy. b.bound y oy q h;
        attained = (
          held c waits e top,
          held_obeys top (omega (arith, ints)) (none_high top),
          (let vp : held c waits e top p ≡ pos 0 = held_own top (is_held c waits e top p) in
              let vq : held c waits e top q ≡ c.value q = held_known top h (is_held c waits e top q) in
              omega (arith, ints)),
        );
      }
      ended_at false h = λ most. by_lt_z {P = (y : ℕ → ℤ) × ObeysAll table y × (most <ℤ (y q -ℤ y p))} ((most -ℤ e q) +ℤ pos 1) top
          (λ less. passing most top h (omega (arith, ints)) (omega (arith, ints)))
          (λ more. passing most ((most -ℤ e q) +ℤ pos 1) h more (omega (arith, ints)))

      pub ended : IsReachOver table p q (reach_of c q)
      ended = ended_at (c.known q) refl

-- ---- the cells of a row and the frontier

module _ (nodes : ℕ) (table : ArcTable) (p : ℕ) (e : ℕ → ℤ) (old row : List Cell) (front : List (Option ℤ))
    (u : IsUnderWay nodes table p e (2 ^ (path_bits + 2)) (2 ^ 93) (cells_of old) (cells_of row) (waits_of front))
    (fresh : (k : ℕ) → (cell_at old k).known ≡ false)
    (x : ObeysAll table e)
  where
    pub stopped_at : (node q : ℕ) (key : ℤ) → AreKeyed e front row → IsLeastEntry front node key → node ≡ q → IsReachOver table p q (reach_of (cells_of row) q)
    stopped_at node q key keyed least same =
        subst (λ k. IsReachOver table p k (reach_of (cells_of row) k)) same
        (stopped table p e u.top u.rank (cells_of old) (cells_of row) (waits_of front) u.relaxing fresh x node
        (waits_true front node key least.waits) (keyed node key least.waits).0 (least_reduced e row front node key keyed least))

    -- what waits is a node
    pub waiting_within : AreKeyed e front row → (k : ℕ) → waits_of front k ≡ true → k < nodes
    waiting_within keyed k w = elim (cases_lt k nodes) [
      | inl l ↦ l
      | inr l ↦
          let key : (z : ℤ) × Waits front k z = waits_key front k w in
          absurd (let t : (cell_at row k).known ≡ true = (keyed k key.0 key.1).0 in let f : (cell_at row k).known ≡ false = u.past k l in let z : ⊥ = cc in z)
    ]

    -- the taken nodes are a fence, with what the next one counts beyond
    pub fence_there : (node : ℕ) (key : ℤ) → AreKeyed e front row → IsLeastEntry front node key
        → IsFence table p e key (rests row front) (λ k. (cell_at row k).value)
    fence_there node key keyed least =
        let own : key ≡ reduced e (cells_of row) node = (keyed node key least.waits).1 in
        let w : waits_of front node ≡ true = waits_true front node key least.waits in
        taken_fence table p e u.top u.rank (cells_of old) (cells_of row) (waits_of front) u.relaxing fresh x key
        (subst (λ t. u.top ≤ℤ t) (sym own) (u.relaxing.above node w))
        (λ k h. subst (λ t. t ≤ℤ reduced e (cells_of row) k) (sym own) (least_reduced e row front node key keyed least k h))

    pub ended_there : (q : ℕ) → IsEmpty front → IsReachOver table p q (reach_of (cells_of row) q)
    ended_there q empty = ended table p e u.top u.rank (cells_of old) (cells_of row) (waits_of front) u.relaxing fresh x (none_waits front empty) q

-- ---- over the reversed arcs

turned_obeys : (table : ArcTable) (x : ℕ → ℤ) → ObeysAll (reversed_table table) x → ObeysAll table (λ k. neg_ℤ (x k))
turned_obeys table x o j f =
    let a : (x (table.arc j).from -ℤ x (table.arc j).to) ≤ℤ (table.arc j).weight = o j f in
    omega (arith, ints)

obeys_turned : (table : ArcTable) (x : ℕ → ℤ) → ObeysAll table x → ObeysAll (reversed_table table) (λ k. neg_ℤ (x k))
obeys_turned table x o j f =
    let a : (x (table.arc j).to -ℤ x (table.arc j).from) ≤ℤ (table.arc j).weight = o j f in
    omega (arith, ints)

turned_same : (a b h : ℤ) → a -ℤ b ≡ h → neg_ℤ b -ℤ neg_ℤ a ≡ h
turned_same a b h e = omega (arith, ints)

turned_low : (a b h : ℤ) → (neg_ℤ a -ℤ neg_ℤ b) ≤ℤ h → (b -ℤ a) ≤ℤ h
turned_low a b h l = omega (arith, ints)

turned_less : (a b h : ℤ) → h <ℤ (a -ℤ b) → h <ℤ (neg_ℤ b -ℤ neg_ℤ a)
turned_less a b h l = omega (arith, ints)

-- what the reversed arcs tell from p to q the arcs tell from q to p
pub reach_turned : (table : ArcTable) (p q : ℕ) (r : Reach) → IsReachOver (reversed_table table) p q r → IsReachOver table q p r
reach_turned table p q (At h) m = record {
  most = λ x o. turned_low (x q) (x p) h (m.most (λ k. neg_ℤ (x k)) (obeys_turned table x o));
  attained = ((λ k. neg_ℤ (m.attained.0 k)), turned_obeys table m.attained.0 m.attained.1, turned_same (m.attained.0 q) (m.attained.0 p) h m.attained.2);
}
reach_turned table p q Never m = λ h.
    let y : (x : ℕ → ℤ) × ObeysAll (reversed_table table) x × (h <ℤ (x q -ℤ x p)) = m h in
    ((λ k. neg_ℤ (y.0 k)), turned_obeys table y.0 y.1, turned_less (y.0 q) (y.0 p) h y.2)

-- ---- over executions of a graph

-- what obeys the table obeys each arc of its list
obeyed_list : (table : ArcTable) (arcs : List bounds.Arc) (x : ℕ → ℤ) → Lists table arcs → ObeysAll table x → All (Obeys x) arcs
obeyed_list table arcs x l o k d lk =
    let r : (j : ℕ) × (table.in_force j ≡ true) × (table.arc j ≡ get_or arcs k d) = l.only (get_or arcs k d) (Contains-get_or arcs k d lk) in
    subst (λ a. Obeys x a) r.2 (o r.0 r.1)

module _ (g : GraphLists) (is : IsGraph g) (p q : ℕ) (lp : p < length g.nodes) (lq : q < length g.nodes) where
  as_execution : (x : ℕ → ℤ) → ObeysAll (table_of g) x → IsExecution (length g.nodes) (arcs_of g) (values_by x (length g.nodes))
  as_execution x o = execution_by x (length g.nodes) (arcs_of g) (arcs_within g is) (obeyed_list (table_of g) (arcs_of g) x (arcs_listed g is) o)

  as_difference : (x : ℕ → ℤ) → difference (at (values_by x (length g.nodes))) p q ≡ x q -ℤ x p
  as_difference x =
      let vp : at (values_by x (length g.nodes)) p ≡ x p = at-values_by x (length g.nodes) p lp in
      let vq : at (values_by x (length g.nodes)) q ≡ x q = at-values_by x (length g.nodes) q lq in
      omega (arith, ints)

  pub reach_in : (r : Reach) → IsReachOver (table_of g) p q r → IsReachIn g p q r
  reach_in (At h) m = record {
    attained = (values_by m.attained.0 (length g.nodes), as_execution m.attained.0 m.attained.1, as_difference m.attained.0 ∙ m.attained.2);
    most = λ xs run. m.most (at xs) (obeys_all (length g.nodes) (table_of g) (arcs_of g) xs (arcs_listed g is) run);
  }
  reach_in Never m = λ h.
      let y : (x : ℕ → ℤ) × ObeysAll (table_of g) x × (h <ℤ (x q -ℤ x p)) = m h in
      (values_by y.0 (length g.nodes), as_execution y.0 y.1, subst (λ d. h <ℤ d) (sym (as_difference y.0)) y.2)

-- what may be known of the table is so of executions
pub near_in : (g : GraphLists) → IsGraph g → (p q : ℕ) → p < length g.nodes → q < length g.nodes → (r : Option Reach) → IfSome r (λ reach. IsReachOver (table_of g) p q reach) → IfSome r (λ reach. IsReachIn g p q reach)
near_in g is p q lp lq None h = tt
near_in g is p q lp lq (Some reach) h = reach_in g is p q lp lq reach h

-- the search either way
pub reach_by : (side : Side) (g : GraphLists) → IsGraph g → (p q : ℕ) → p < length g.nodes → q < length g.nodes → (r : Reach) → IsReachOver (facing side g) p q r → IsReachBy side g p q r
reach_by From g is p q lp lq r m = reach_in g is p q lp lq r m
reach_by Towards g is p q lp lq r m = reach_in g is q p lq lp r (reach_turned (table_of g) p q r m)
