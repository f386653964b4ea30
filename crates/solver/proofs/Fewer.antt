-- Arcs that are taken out of force, and a contradiction that has none of them.
use Rattle.std.proofs.Common.{◌≡◌, ◌≢◌, ◌<◌, ◌+◌, ℕ, suc, Bool, true, false, List, [], ◌∷◌, length, get_or, set, drop, refl, sym, ap, subst, ◌∙◌, inl, inr, arith, All, AllPairs, get_or-set_other}
use Rattle.std.specs.Prelude.{Contains}
use Rattle.std.proofs.lemmas.List.{drop_more}
use Rattle.std.proofs.lemmas.List.Elements.{All-map, All-weaker, All-contains, Contains-get_or}
use Rattle.problem_model.specs.Tables.{Lists}
use Rattle.problem_model.proofs.Tables.{lists_listed}
use Rattle.sync_graph.specs.declared.arc.Arc.{Arc}
use Rattle.sync_graph.specs.Graph.{GraphLists, IsGraph, arc_at, table_of, unnamed}
use Rattle.sync_graph.specs.InForce.{IsInForce, arcs_of}
use Rattle.earliest.specs.Inserted.{IsNegativeCycle}
use Rattle.earliest.proofs.Waiting.{in_force_below}
use Rattle.repair.specs.declared.slot.Slot.{Slot}
use Rattle.repair.specs.Slots.{all_slots}
use Rattle.solver.specs.Changes.{withdrawn}
use Rattle.solver.specs.Solver.{SolverLists, HasRoom}
use Rattle.solver.specs.Current.{IsContradicted, IsSetUp, IsCurrent}

-- ---- flags

-- the flags of other numbers stay
pub flag_still : (flags : List Bool) (numbers : List ℕ) (j : ℕ) → (Contains numbers j → ⊥) → get_or (withdrawn flags numbers) j false ≡ get_or flags j false
flag_still flags [] j free = refl
flag_still flags (k ∷ numbers) j free =
    flag_still (set flags k false) numbers j (λ c. free (suc c.0, (let l : suc c.0 < suc (length numbers) = omega (arith, c.1) in l), c.2))
    ∙ get_or-set_other flags k j false false (λ e. free (0, (let l : 0 < suc (length numbers) = omega arith in l), sym e))

-- ---- a graph from which arcs were withdrawn

module _ (s : SolverLists) (g : GraphLists) (numbers : List ℕ) (set_up : IsSetUp s) (is : IsGraph g) (nodes : g.nodes ≡ s.graph.nodes) (arcs : g.arcs ≡ s.graph.arcs) (flags : g.in_force ≡ withdrawn s.graph.in_force numbers) where
  abbrev pub without_arcs : SolverLists
  without_arcs = record { graph = g; earliest = s.earliest; contradiction = s.contradiction; pool = s.pool; kept = s.kept; front = s.front }

  as_many : length g.nodes ≡ length s.graph.nodes
  as_many = ap length nodes

  pub set_up_without : IsSetUp without_arcs
  set_up_without = record {
    graph = is;
    one_each = set_up.one_each ∙ sym as_many;
    own = set_up.own;
    nodes = subst (λ (n : ℕ). All (λ (slot : Slot). slot.node < n) (all_slots s.kept)) (sym as_many) set_up.nodes;
    room = subst (λ (n : ℕ). HasRoom n without_arcs) (sym as_many) (record { rows = set_up.room.rows; found = set_up.room.found; front = set_up.room.front });
  }

  -- where none of them is a step of the contradiction, it is one still
  module _ (apart : All (λ k. Contains s.contradiction (arc_at g.arcs k) → ⊥) numbers) where
    step_in_force : (a : Arc) → Contains s.contradiction a → IsInForce s.graph a → IsInForce g a
    step_in_force a step i =
        let here : arc_at g.arcs i.0 ≡ a = ap (λ (some : List Arc). arc_at some i.0) arcs ∙ i.2 in
        let out : Contains numbers i.0 → ⊥ = λ c. All-contains (λ k. Contains s.contradiction (arc_at g.arcs k) → ⊥) numbers i.0 apart c (subst (Contains s.contradiction) (sym here) step) in
        (i.0, ap (λ (fs : List Bool). get_or fs i.0 false) flags ∙ flag_still s.graph.in_force numbers i.0 out ∙ i.1, here)

    steps_in_force : All (IsInForce s.graph) s.contradiction → All (IsInForce g) s.contradiction
    steps_in_force all k d l = step_in_force (get_or s.contradiction k d) (Contains-get_or s.contradiction k d l) (all k d l)

    listed : Lists (table_of g) (arcs_of g)
    listed = lists_listed (table_of g) (length g.arcs) (in_force_below g is)

    among : (a : Arc) → IsInForce g a → Contains (arcs_of g) (unnamed a)
    among a i = subst (λ (b : Arc). Contains (arcs_of g) (unnamed b)) i.2 (listed.all i.0 i.1)

    cycle_stands : IsNegativeCycle s.graph s.contradiction → IsNegativeCycle g s.contradiction
    cycle_stands cycle =
        let all : All (IsInForce g) s.contradiction = steps_in_force cycle.in_force in
        record {
          in_force = all;
          contradiction = record {
            closed = (
              cycle.contradiction.closed.0,
              record {
                within = All-map (Contains (arcs_of g)) unnamed s.contradiction (All-weaker (IsInForce g) (λ (a : Arc). Contains (arcs_of g) (unnamed a)) among s.contradiction all);
                joined = cycle.contradiction.closed.1.joined;
              },
            );
            negative = cycle.contradiction.negative;
          };
          short = omega (arith, cycle.short, as_many);
        }

    pub stands_without : IsContradicted s → IsCurrent without_arcs
    stands_without held = record {
      set_up = set_up_without;
      answer = inr (record { unsolved = held.unsolved; cycle = cycle_stands held.cycle; absent = held.absent });
    }

    pub current_without : IsCurrent s → s.earliest.is_solved ≡ false → IsCurrent without_arcs
    current_without current unsolved = elim current.answer [
      | inl now ↦ absurd (let solved : s.earliest.is_solved ≡ true = now.solved in cc)
      | inr held ↦ stands_without held
    ]

-- the arcs in force have numbers
pub numbers_below : (g : GraphLists) (arcs : List Arc) (numbers : List ℕ) → IsGraph g → arcs ≡ g.arcs → All (λ k. get_or g.in_force k false ≡ true) numbers → All (λ k. k < length arcs) numbers
numbers_below g arcs numbers is same all =
    All-weaker (λ (k : ℕ). get_or g.in_force k false ≡ true) (λ (k : ℕ). k < length arcs)
    (λ k force. subst (λ (n : ℕ). k < n) (sym (ap length same)) (in_force_below g is k force)) numbers all

-- ---- the loop over the numbers

-- the arc whose turn it is, and those behind it
pub drop_turn : (numbers : List ℕ) (i : ℕ) → i < length numbers → drop i numbers ≡ get_or numbers i 0 ∷ drop (i + 1) numbers
drop_turn numbers i l = drop_more numbers i 0 l

-- an arc that was taken out leaves those behind it in force
pub rest_in_force : (flags : List Bool) (k : ℕ) (numbers : List ℕ) → AllPairs (λ i j. i ≢ j) (k ∷ numbers) → All (λ j. get_or flags j false ≡ true) (k ∷ numbers)
    → All (λ j. get_or (set flags k false) j false ≡ true) numbers
rest_in_force flags k numbers differ all i d l =
    let j : ℕ = get_or numbers i d in
    let other : k ≢ j = differ 0 (suc i) d (omega arith) (let b : suc i < suc (length numbers) = omega (arith, l) in b) in
    get_or-set_other flags k j false false (λ e. other (sym e)) ∙ all (suc i) d (let b : suc i < suc (length numbers) = omega (arith, l) in b)

pub pairs_behind : (k : ℕ) (numbers : List ℕ) → AllPairs (λ i j. i ≢ j) (k ∷ numbers) → AllPairs (λ i j. i ≢ j) numbers
pairs_behind k numbers differ i j d less l = differ (suc i) (suc j) d (omega arith) (let b : suc j < suc (length numbers) = omega (arith, l) in b)
