-- Arcs that are taken out of force where there is an execution.
use Rattle.std.proofs.Common.{◌≡◌, ◌+◌, ◌<◌, ◌≤◌, ℕ, suc, true, false, List, [], ◌∷◌, ◌++◌, length, get_or, take, All, sym, ap, subst, ◌∙◌, inl, inr, arith}
use Rattle.std.specs.Prelude.{ℤ, map}
use Rattle.std.proofs.Math.Seq.{take-suc}
use Rattle.std.proofs.lemmas.List.{map_push, take_all}
use Rattle.std.proofs.lemmas.List.Elements.{All-map, All-weaker}
use Rattle.sync_graph.specs.declared.arc.Arc.{Arc}
use Rattle.sync_graph.specs.Graph.{GraphLists, IsGraph, IsSound, arc_at}
use Rattle.sync_graph.specs.InForce.{IsEarliestOf}
use Rattle.earliest.specs.Withdrawn.{IsEarliestWith}
use Rattle.repair.specs.RowWithdrawals.{AreWithdrawn}
use Rattle.solver.specs.Solver.{SolverLists}
use Rattle.solver.specs.Changes.{withdrawn}
use Rattle.solver.specs.Current.{IsSolvedNow, IsCurrent}
use Rattle.solver.specs.Costs.{TakesFewToWithdrawAll}
use Rattle.solver.specs.Withdrawn.{arcs_numbered, IsCutDown}
use Rattle.solver.proofs.Fewer.{set_up_without}

-- ---- the arcs of numbers, one after another

pub numbered_more : (arcs : List Arc) (numbers : List ℕ) (i : ℕ) → i < length numbers
    → map (arc_at arcs) (take (i + 1) numbers) ≡ map (arc_at arcs) (take i numbers) ++ arc_at arcs (get_or numbers i 0) ∷ []
numbered_more arcs numbers i below =
    let next : i + 1 ≡ suc i = omega arith in
    ap (λ (n : ℕ). map (arc_at arcs) (take n numbers)) next
    ∙ ap (λ (ks : List ℕ). map (arc_at arcs) ks) (take-suc numbers i 0 below)
    ∙ map_push (arc_at arcs) (take i numbers) (get_or numbers i 0)

pub numbered_all : (arcs : List Arc) (numbers : List ℕ) (i : ℕ) → length numbers ≤ i → map (arc_at arcs) (take i numbers) ≡ map (arc_at arcs) numbers
numbered_all arcs numbers i past = ap (λ (ks : List ℕ). map (arc_at arcs) ks) (take_all i numbers past)

-- the arc of one number more is the same in a graph with the same arcs
pub one_more : (arcs some : List Arc) (numbers : List ℕ) (i : ℕ) → i < length numbers → some ≡ arcs
    → map (arc_at arcs) (take i numbers) ++ arc_at some (get_or numbers i 0) ∷ [] ≡ map (arc_at arcs) (take (i + 1) numbers)
one_more arcs some numbers i below same =
    ap (λ (xs : List Arc). map (arc_at arcs) (take i numbers) ++ arc_at xs (get_or numbers i 0) ∷ []) same ∙ sym (numbered_more arcs numbers i below)

-- ---- what is left to repair

solved_so : (s : SolverLists) → IsCurrent s → s.earliest.is_solved ≡ true → IsSolvedNow s
solved_so s current solved = elim current.answer [
  | inl now ↦ now
  | inr held ↦ absurd (let unsolved : s.earliest.is_solved ≡ false = held.unsolved in cc)
]

pub cut_down : (s : SolverLists) (g : GraphLists) (numbers : List ℕ) → IsCurrent s → s.earliest.is_solved ≡ true → IsGraph g
    → g.nodes ≡ s.graph.nodes → g.arcs ≡ s.graph.arcs → g.in_force ≡ withdrawn s.graph.in_force numbers
    → All (λ k. k < length s.graph.arcs) numbers
    → ((values : List ℤ) → IsEarliestOf s.graph values → IsEarliestWith g (arcs_numbered s.graph numbers) values)
    → AreWithdrawn s.graph (arcs_numbered s.graph numbers) g
    → IsCutDown (arcs_numbered s.graph numbers) (record { graph = g; earliest = s.earliest; contradiction = s.contradiction; pool = s.pool; kept = s.kept; front = s.front })
cut_down s g numbers current solved is nodes arcs flags below values rows =
    let now : IsSolvedNow s = solved_so s current solved in
    let sound : All (IsSound (length s.graph.nodes)) (map (arc_at s.graph.arcs) numbers) =
    All-map (IsSound (length s.graph.nodes)) (arc_at s.graph.arcs) numbers
    (All-weaker (λ (k : ℕ). k < length s.graph.arcs) (λ (k : ℕ). IsSound (length s.graph.nodes) (arc_at s.graph.arcs k)) (λ k b. current.set_up.graph.sound k _ b) numbers below) in
    record {
      set_up = set_up_without s g numbers current.set_up is nodes arcs flags;
      solved = solved;
      sound = subst (λ (n : ℕ). All (IsSound n) (map (arc_at s.graph.arcs) numbers)) (sym (ap length nodes)) sound;
      earliest = values s.earliest.values now.earliest;
      none = now.none;
      present = now.present;
      rows = (s.graph, rows, now.rows);
    }

-- ---- steps

pub few_both : (before between after f r : ℕ) → between ≤ before + f + 2 → after ≤ between + r → after ≤ (before + (f + 2 + r))
few_both before between after f r h k = omega arith

-- the same bound from where the graph had more arcs in force
pub few_after : (s : SolverLists) (g : GraphLists) (new : SolverLists) (removed : List Arc) (before after : ℕ)
    → TakesFewToWithdrawAll (record { graph = g; earliest = s.earliest; contradiction = s.contradiction; pool = s.pool; kept = s.kept; front = s.front }) new removed before after
    → TakesFewToWithdrawAll s new removed before after
few_after s g new removed before after few = λ marked marks all. few marked marks (record { values = all.values; rows = all.rows })
