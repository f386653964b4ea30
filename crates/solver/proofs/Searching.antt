-- The search from nodes, where there is an execution.
use Rattle.std.proofs.Common.{◌≡◌, ℕ, ◌+◌, ◌*◌, ◌≤◌, Bool, true, false, List, [], length, sum_by, refl, sym, ap, subst, inl, arith}
use Rattle.std.specs.Prelude.{if◌then◌else◌, Option, None, Some, MatchOption, IfSome}
use Rattle.sync_graph.specs.declared.arc.Arc.{Arc}
use Rattle.sync_graph.specs.Graph.{GraphLists, reaching, arcs_in_force}
use Rattle.sync_graph.specs.InForce.{IsEarliestOf}
use Rattle.earliest.specs.Values.{Values}
use Rattle.earliest.specs.Steps.{differing_sum}
use Rattle.row_pool.specs.Pool.{Pool}
use Rattle.distances.specs.declared.side.Side.TheVariants.{From}
use Rattle.distances.specs.Searched.{Searched}
use Rattle.repair.specs.Slots.{KeptRows, with_presence, with_found, all_slots, AreOwnRows, AreRowsOf, AreNodes, ChangesRowsOf}
use Rattle.repair.specs.Renewals.{CanRenew, insertion_steps}
use Rattle.solver.specs.Solver.{SolverLists, HasRoom}
use Rattle.solver.specs.Current.{IsSetUp, IsCurrent}
use Rattle.solver.specs.Costs.{repair_steps, pushing_steps}
use Rattle.solver.specs.Searches.{search_from}

-- rows of the solver's pool, and of one as wide, can be renewed
pub can_renew : (s : SolverLists) → IsCurrent s → CanRenew (search_from s.graph s.earliest) s.pool s.front
can_renew s current = record { outward = refl; rows = current.set_up.room.rows; queue = current.set_up.room.front }

module _ (s : SolverLists) (r : Searched) (is : r ≡ search_from s.graph s.earliest) where
  pub outward_so : r.side ≡ From
  outward_so = ap (λ (x : Searched). x.side) is

  -- and by this search too
  pub can_by : HasRoom (length s.graph.nodes) s → (pool : Pool) (front : ℕ) → pool.width ≡ s.pool.width → front ≡ s.front → CanRenew r pool front
  can_by room pool front wide long =
      let rows : length s.graph.nodes ≤ s.pool.width = room.rows in
      let queue : length s.graph.nodes ≤ s.front = room.front in
      subst (λ (x : Searched). CanRenew x pool front) (sym is) (record { outward = refl; rows = omega (arith, rows, wide); queue = omega (arith, queue, long) })

-- all rows were renewed where an execution exists
pub renewed : {found : List ℕ} (s : SolverLists) → IsSetUp s → (e : Values) (cycle : List Arc) (pool : Pool) (kept : KeptRows) (front : ℕ)
    → length e.values ≡ length s.graph.nodes → e.is_solved ≡ true → IsEarliestOf s.graph e.values → cycle ≡ [] → kept ≡ with_found (with_presence s.kept true) found → AreOwnRows kept pool
    → AreRowsOf s.graph kept pool → ChangesRowsOf (all_slots s.kept) s.pool pool → front ≡ s.front
    → IsCurrent (record { graph = s.graph; earliest = e; contradiction = cycle; pool = pool; kept = kept; front = front })
renewed s set_up e cycle pool kept front one_each solved earliest none slots own rows others long =
    let wide : pool.width ≡ s.pool.width = others.width in
    let same : kept.room ≡ s.kept.room = ap (λ (k : KeptRows). k.room) slots in
    let width : length s.graph.nodes ≤ s.pool.width = set_up.room.rows in
    let found : length s.graph.nodes ≤ s.kept.room = set_up.room.found in
    let queue : length s.graph.nodes ≤ s.front = set_up.room.front in
    record {
      set_up = record {
        graph = set_up.graph;
        one_each = one_each;
        own = own;
        nodes = subst (AreNodes s.graph) (sym slots) set_up.nodes;
        room = record { rows = omega (arith, width, wide); found = omega (arith, found, same); front = omega (arith, queue, long) };
      };
      answer = inl (record { solved = solved; earliest = earliest; none = none; present = ap (λ (k : KeptRows). k.present) slots; rows = rows });
    }

few_sum : (before between after a b : ℕ) → between ≤ before + a → after ≤ between + b → after ≤ before + (a + b)
few_sum before between after a b h k = omega arith

-- the steps of an arc that was brought in, where an execution exists before and after
pub pushed_few : (s new : SolverLists) (before between after : ℕ) → s.earliest.is_solved ≡ true → new.earliest.is_solved ≡ true
    → between ≤ before + (differing_sum (length new.graph.nodes) (λ k. reaching new.graph k + 2) s.earliest.values new.earliest.values + 2)
    → after ≤ between + sum_by (insertion_steps new.graph s.pool new.pool) (all_slots s.kept) → after ≤ before + pushing_steps s new
pushed_few s new before between after was is h k =
    let few : after ≤ before + repair_steps s new = few_sum before between after _ _ h k in
    subst (λ (b : Bool). after ≤ before + (if b then (if new.earliest.is_solved then repair_steps s new else arcs_in_force new.graph + 2 * length new.graph.nodes + 2) else 0)) (sym was)
    (subst (λ (b : Bool). after ≤ before + (if b then repair_steps s new else arcs_in_force new.graph + 2 * length new.graph.nodes + 2)) (sym is) few)

module _ (g : GraphLists) (e : Values) (P : Searched → Type 0) where
  abbrev pub IsFound : Option Searched → Type 0
  IsFound search = MatchOption search (e.is_solved ≡ false) (λ s. (e.is_solved ≡ true) × (s ≡ search_from g e))

  -- what holds of the search holds where there is one
  pub if_found : (search : Option Searched) → IsFound search → (e.is_solved ≡ true → P (search_from g e)) → IfSome search P
  if_found None none holds = tt
  if_found (Some s) is holds = subst P (sym is.1) (holds is.0)

  -- and there is one where there is an execution
  pub found_so : (search : Option Searched) → IsFound search → IfSome search P → e.is_solved ≡ true → P (search_from g e)
  found_so None none holds solved = absurd (let unsolved : e.is_solved ≡ false = none in cc)
  found_so (Some s) is holds solved = subst P is.1 holds
