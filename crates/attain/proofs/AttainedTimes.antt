-- Greatest differences of a problem are one number or none, and executions that attain them, node by node.
use Rattle.std.proofs.Common.{◌≡◌, ◌<◌, ℕ, List, [], ◌∷◌, length, map, get_or, refl, sym, ◌∙◌, ap, arith}
use Rattle.std.specs.Prelude.{ℤ, ◌-ℤ◌, ◌≤ℤ◌, ◌<ℤ◌, All}
use Rattle.std.proofs.lemmas.Int.{ints}
use Rattle.std.proofs.lemmas.List.{length-map}
use Rattle.std.proofs.lemmas.List.Elements.{All-head, All-tail}
use Rattle.problem_model.specs.declared.items.Node.{Node}
use Rattle.problem_model.specs.Problem.{ProblemLists}
use Rattle.problem_model.specs.Bounds.{Times}
use Rattle.problem_model.specs.Bounds as bounds
use Rattle.problem_model.specs.Nodes.{Reading, nodes_of}
use Rattle.problem_model.specs.Executions.{at, IsExecution, values_by}
use Rattle.problem_model.specs.ProblemArcs.{IsGreatestOf, IsUnboundedOf}
use Rattle.problem_model.proofs.Executions.{at-values_by}
use Rattle.sync_graph.specs.Graph.{GraphLists, IsGraph}
use Rattle.sync_graph.specs.InForce.{arcs_of}
use Rattle.cert.specs.CertificateText.{HasOneEach}
use Rattle.problem.specs.Listing.{Listed, listed_nodes}
use Rattle.problem_graph.specs.ListedStanding.{IsNodeBy, StandsForListed}
use Rattle.problem_graph.proofs.ListedExecutions.{times_of}
use Rattle.problem_graph.proofs.NodeNumbers.{number_below, nodes_listed, time_by}

-- ---- one number, or none
pub one_greatest_of : (p : ProblemLists) (m n : Node) (g h : ℤ) → IsGreatestOf p m n g → IsGreatestOf p m n h → g ≡ h
one_greatest_of p m n g h a b =
    let ab : (a.attained.0 n -ℤ a.attained.0 m) ≤ℤ h = b.most a.attained.0 a.attained.1 in
    let ba : (b.attained.0 n -ℤ b.attained.0 m) ≤ℤ g = a.most b.attained.0 b.attained.1 in
    let ea : (a.attained.0 n -ℤ a.attained.0 m) ≡ g = a.attained.2 in
    let eb : (b.attained.0 n -ℤ b.attained.0 m) ≡ h = b.attained.2 in
    omega (arith, ints, ab, ba, ea, eb)

pub no_greatest_of : (p : ProblemLists) (m n : Node) (h : ℤ) → IsUnboundedOf p m n → IsGreatestOf p m n h → ⊥
no_greatest_of p m n h unbounded greatest =
    let more = unbounded h in
    let above : h <ℤ (more.0 n -ℤ more.0 m) = more.2 in
    let most : (more.0 n -ℤ more.0 m) ≤ℤ h = greatest.most more.0 more.1 in
    omega (arith, ints, above, most)

-- ---- real times by number
map_same : (f h : ℕ → ℤ) (ks : List ℕ) → All (λ k. f k ≡ h k) ks → map f ks ≡ map h ks
map_same f h [] same = refl
map_same f h (k ∷ ks) same =
    ap (λ (v : ℤ). v ∷ map f ks) (All-head (λ (i : ℕ). f i ≡ h i) k ks same)
    ∙ ap (λ (vs : List ℤ). h k ∷ vs) (map_same f h ks (All-tail (λ (i : ℕ). f i ≡ h i) k ks same))

module _ (l : Listed) (p : ProblemLists) (readings : List Reading) (g : GraphLists) (stands : StandsForListed l p readings g) where
  pub one_each : (x : ℕ → ℤ) → HasOneEach p (map x (listed_nodes l))
  one_each x = (readings, stands.are_readings, length-map (listed_nodes l) x ∙ nodes_listed l p readings g stands)

  -- the real times of an execution that a function gives by number
  pub times_like : (is : IsGraph g) (f x : ℕ → ℤ) → IsExecution (length g.nodes) (arcs_of g) (values_by f (length g.nodes)) → ((k : ℕ) → k < length g.nodes → x k ≡ f k)
      → (t : Times) × (map x (listed_nodes l) ≡ map t (nodes_of p readings)) × bounds.IsExecution p t × ((k : ℕ) (n : Node) → IsNodeBy l p readings k n → t n ≡ f k)
  times_like is f x execution same =
      let some = times_of l p readings g stands is (values_by f (length g.nodes)) execution in (
        some.0,
        map_same x (at (values_by f (length g.nodes))) (listed_nodes l)
            (λ i d inside. (let below = stands.nodes i d inside in same (get_or (listed_nodes l) i d) below ∙ sym (at-values_by f (length g.nodes) (get_or (listed_nodes l) i d) below)))
            ∙ some.1,
        some.2,
        λ k n by. time_by l p readings g stands (at (values_by f (length g.nodes))) some.0 some.1 k n by ∙ at-values_by f (length g.nodes) k (number_below l p readings g stands k n by),
      )
