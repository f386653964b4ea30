-- What solving the graph of a widened problem says of the problem.
use Rattle.std.proofs.Common.{◌≡◌, ◌≤◌, ◌+◌, ◌∙◌, ℕ, zero, suc, List, [], ◌∷◌, ◌++◌, length, map, get_or, refl, sym, ap, subst, arith}
use Rattle.std.specs.Prelude.{ℤ}
use Rattle.std.specs.List.{range_with_len}
use Rattle.std.specs.List.Sorted.{IsPermutation}
use Rattle.std.proofs.lemmas.List.{length-map}
use Rattle.std.proofs.lemmas.List.Sorted.{IsPermutation-refl}
use Rattle.problem_model.specs.declared.items.Node.{Node}
use Rattle.problem_model.specs.Problem.{ProblemLists, IsProblem}
use Rattle.problem_model.specs.Nodes.{Reading, AreReadings}
use Rattle.sync_graph.specs.declared.arc.Arc.{Arc}
use Rattle.sync_graph.specs.Graph.{GraphLists, IsGraph}
use Rattle.sync_graph.specs.InForce.{IsEarliestOf}
use Rattle.earliest.specs.Inserted.{IsNegativeCycle}
use Rattle.problem_solver.specs.Order.{AreAllArcs}
use Rattle.cert_check.specs.declared.what.What.{What}
use Rattle.cert_check.specs.Widened.{widened}
use Rattle.cert_check.proofs.Widening.{formed, readings_on}
use Rattle.cert_check.proofs.Comparing.{unwidened}
use Rattle.widen.specs.Weighed.{unweighed}
use Rattle.problem_graph.specs.HeldBounds.{HoldsShortList}
use Rattle.widen.specs.Found.{IsRunAt, IsCycleFor}
use Rattle.widen.proofs.SameNodes.{nodes_same}
use Rattle.widen.proofs.Solved.{earliest_of, values_under, sound_arc, cycle_contradicts, cycle_short}

-- ---- the order in which arcs stand
pub range_more : (a n j : ℕ) → a + n ≡ j → range_with_len a (suc n) ≡ range_with_len a n ++ j ∷ []
range_more a zero j e = let same : a ≡ j = omega (arith, e) in rw same refl
range_more a (suc n) j e = ap (λ (ks : List ℕ). a ∷ ks) (range_more (a + 1) n j (omega (arith, e)))

pub as_they_stand : (g : GraphLists) (order : List ℕ) (n : ℕ) → n ≡ length g.arcs → order ≡ range_with_len 0 n → AreAllArcs g order
as_they_stand g order n all is =
    subst (λ (ks : List ℕ). IsPermutation (range_with_len 0 (length g.arcs)) ks) (sym (is ∙ ap (range_with_len 0) all)) (IsPermutation-refl (range_with_len 0 (length g.arcs)))

pub all_arcs : (g h : GraphLists) (order : List ℕ) → map unweighed h.arcs ≡ map unweighed g.arcs → AreAllArcs g order → AreAllArcs h order
all_arcs g h order same all =
    let long : length g.arcs ≡ length h.arcs = sym (length-map g.arcs unweighed) ∙ ap length (sym same) ∙ length-map h.arcs unweighed in
    subst (λ (n : ℕ). IsPermutation (range_with_len 0 n) order) long all

module _ (what : What) (p : ProblemLists) (e : ℕ) (g : GraphLists) (lawful : IsProblem p) (is : IsGraph g) (readings : List Reading) (are : AreReadings p readings) (holds : HoldsShortList (widened what p e) g) where
  pub run_found : (values : List ℤ) → IsEarliestOf g values → IsRunAt what p e values
  run_found values earliest = record {
    earliest = earliest_of (widened what p e) g (formed what p e lawful.formed) is readings (readings_on what p e readings are) holds values earliest;
    small = values_under g is values earliest;
  }

  pub cycle_found : (arcs : List Arc) → IsNegativeCycle g arcs → IsCycleFor what p e arcs
  cycle_found arcs cycle = record {
    contradiction = cycle_contradicts (widened what p e) g is readings (readings_on what p e readings are) holds arcs cycle;
    short = λ rs are'.
        subst (λ (ns : List Node). length arcs ≤ length ns) (nodes_same what p e rs)
        (cycle_short (widened what p e) g is readings (readings_on what p e readings are) holds arcs cycle rs (readings_on what p e rs are'));
    small = λ i d inside. sound_arc (widened what p e) g is readings (readings_on what p e readings are) holds (get_or arcs i d) (cycle.in_force i d inside);
  }

-- widened by nothing
pub holds_unwidened : (what : What) (p : ProblemLists) (g : GraphLists) → IsProblem p → HoldsShortList p g → HoldsShortList (widened what p 0) g
holds_unwidened what p g lawful holds = subst (λ (q : ProblemLists). HoldsShortList q g) (sym (unwidened what p lawful.fits)) holds
