-- A node more and an arc more.
use Rattle.std.proofs.Common.{◌≡◌, ◌<◌, ◌+◌, ℕ, true, false, List, [], ◌∷◌, ◌++◌, length, refl, sym, ap, ◌∙◌, inl, inr, arith}
use Rattle.std.specs.Prelude.{pos}
use Rattle.std.proofs.lemmas.List.{length_push}
use Rattle.std.proofs.lemmas.List.Elements.{All-weaker}
use Rattle.problem_model.specs.declared.items.Node.{Node}
use Rattle.sync_graph.specs.declared.arc.Arc.{Arc}
use Rattle.sync_graph.specs.Graph.{GraphLists, IsGraph, with_node, with_arc}
use Rattle.sync_graph.specs.InForce.{IsEarliestOf}
use Rattle.sync_graph.proofs.Listed.{at_other}
use Rattle.earliest.specs.Copied.{IsPartOfGraph}
use Rattle.earliest.specs.Values.{IsEarliestBut}
use Rattle.earliest.specs.Inserted.{IsNegativeCycle}
use Rattle.earliest.proofs.Waiting.{in_force_below}
use Rattle.earliest.proofs.Bounds.{no_arc}
use Rattle.earliest.proofs.Copying.{cycle_of_part}
use Rattle.repair.specs.declared.slot.Slot.{Slot}
use Rattle.repair.specs.Slots.{AreRowsOf, AreRowsBut, all_slots}
use Rattle.solver.specs.Solver.{SolverLists, HasRoom, with_new_node}
use Rattle.solver.specs.Current.{IsSetUp, IsCurrent}
use Rattle.solver.specs.Pushed.{IsPushed}

-- ---- a node
cycle_with_node : (g : GraphLists) (n : Node) (steps : List Arc) → IsNegativeCycle g steps → IsNegativeCycle (with_node g n) steps
cycle_with_node g n steps cycle = record {
  in_force = cycle.in_force;
  contradiction = cycle.contradiction;
  short = omega (arith, cycle.short, length_push g.nodes n);
}

module _ (s : SolverLists) (n : Node) (current : IsCurrent s) (is : IsGraph (with_node s.graph n)) (room : HasRoom (length s.graph.nodes + 1) s)
    (earliest : IsEarliestOf s.graph s.earliest.values → IsEarliestOf (with_node s.graph n) (s.earliest.values ++ pos 0 ∷ []))
    (rows : AreRowsOf s.graph s.kept s.pool → AreRowsOf (with_node s.graph n) s.kept s.pool)
  where
    longer : length (s.graph.nodes ++ n ∷ []) ≡ length s.graph.nodes + 1
    longer = length_push s.graph.nodes n

    pub current_with_node : IsCurrent (with_new_node s n)
    current_with_node = record {
      set_up = record {
        graph = is;
        one_each = length_push s.earliest.values (pos 0) ∙ ap (λ (m : ℕ). m + 1) current.set_up.one_each ∙ sym longer;
        own = current.set_up.own;
        nodes = All-weaker (λ (slot : Slot). slot.node < length s.graph.nodes) (λ (slot : Slot). slot.node < length (s.graph.nodes ++ n ∷ []))
            (λ slot below. omega (arith, below, longer)) (all_slots s.kept) current.set_up.nodes;
        room = record {
          rows = omega (arith, room.rows, longer);
          found = omega (arith, room.found, longer);
          front = omega (arith, room.front, longer);
        };
      };
      answer = elim current.answer [
        | inl now ↦ inl (record { solved = now.solved; earliest = earliest now.earliest; none = now.none; present = now.present; rows = rows now.rows })
        | inr held ↦ inr (record { unsolved = held.unsolved; cycle = cycle_with_node s.graph n s.contradiction held.cycle; absent = held.absent })
      ];
    }

-- ---- an arc
-- what is held of a graph is as before, and the graph has one arc more
abbrev pub with_new_arc : SolverLists → Arc → SolverLists
with_new_arc s a = record { graph = with_arc s.graph a; earliest = s.earliest; contradiction = s.contradiction; pool = s.pool; kept = s.kept; front = s.front }

module _ (g : GraphLists) (a : Arc) (is : IsGraph g) where
  pub part_of_longer : IsPartOfGraph (with_arc g a) g
  part_of_longer = record {
    nodes = refl;
    arcs = λ b i.
        let l : i.0 < length g.arcs = in_force_below g is i.0 i.1 in (
          i.0,
          at_other g.in_force true false i.0 (λ e. (let q : i.0 ≡ length g.arcs = e ∙ is.flags in omega arith)) ∙ i.1,
          at_other g.arcs a no_arc i.0 (λ e. omega arith) ∙ i.2,
        );
  }

module _ (s : SolverLists) (a : Arc) (current : IsCurrent s) (is : IsGraph (with_arc s.graph a)) where
  set_up_with_arc : IsSetUp (with_new_arc s a)
  set_up_with_arc = record {
    graph = is;
    one_each = current.set_up.one_each;
    own = current.set_up.own;
    nodes = current.set_up.nodes;
    room = record { rows = current.set_up.room.rows; found = current.set_up.room.found; front = current.set_up.room.front };
  }

  -- where there was an execution, values and rows are those of the graph without the arc
  pub is_pushed : s.earliest.is_solved ≡ true
      → (IsEarliestOf s.graph s.earliest.values → IsEarliestBut (with_arc s.graph a) (length s.graph.arcs) s.earliest.values)
      → (AreRowsOf s.graph s.kept s.pool → AreRowsBut (with_arc s.graph a) (length s.graph.arcs) s.kept s.pool)
      → IsPushed (length s.graph.arcs) (with_new_arc s a)
  is_pushed solved earliest rows = elim current.answer [
    | inl now ↦ record { set_up = set_up_with_arc; solved = now.solved; earliest = earliest now.earliest; none = now.none; present = now.present; rows = rows now.rows }
    | inr held ↦ absurd (let unsolved : s.earliest.is_solved ≡ false = held.unsolved in cc)
  ]

  -- where there was none, the contradiction is one still
  pub still_contradicted : s.earliest.is_solved ≡ false → IsCurrent (with_new_arc s a)
  still_contradicted unsolved = elim current.answer [
    | inl now ↦ absurd (let yes : s.earliest.is_solved ≡ true = now.solved in cc)
    | inr held ↦ record {
      set_up = set_up_with_arc;
      answer = inr (record {
        unsolved = held.unsolved;
        cycle = cycle_of_part (with_arc s.graph a) s.graph is current.set_up.graph (part_of_longer s.graph a current.set_up.graph) s.contradiction held.cycle;
        absent = held.absent;
      });
    }
  ]
