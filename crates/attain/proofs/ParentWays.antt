-- Parents of a row lead along declared bounds, from its node or towards it.
use Rattle.std.proofs.Common.{◌≡◌, ◌≢◌, ◌<◌, ◌≤◌, ℕ, zero, suc, true, false, List, [], ◌∷◌, ◌++◌, length, refl, sym, ◌∙◌, ap, subst, arith, inl, inr}
use Rattle.std.specs.Prelude.{ℤ, ◌+ℤ◌, All}
use Rattle.std.proofs.lemmas.Int.{ints}
use Rattle.std.proofs.lemmas.Bool.{cases_eq}
use Rattle.std.proofs.lemmas.List.Elements.{All-nil, All-cons}
use Rattle.problem_model.specs.declared.items.Node.{Node}
use Rattle.problem_model.specs.declared.items.Bound.{Bound}
use Rattle.problem_model.specs.Problem.{ProblemLists}
use Rattle.problem_model.specs.Bounds.{Constraint, Declares}
use Rattle.problem_model.specs.Nodes.{Reading}
use Rattle.problem_model.specs.Parents.{Cells, no_parent, IsTight, LeadsBack, IsRow}
use Rattle.problem_model.specs.Solutions.{WeighedBound, Leads, weight_of}
use Rattle.problem_model.specs.Tables.{ArcTable, reversed_table}
use Rattle.problem_model.specs.Limits.{most_arcs}
use Rattle.sync_graph.specs.declared.arc.Arc.{Arc}
use Rattle.sync_graph.specs.Graph.{GraphLists, IsGraph, arc_at, table_of}
use Rattle.sync_graph.proofs.InForce.{in_force_below}
use Rattle.cert.specs.declared.chain.Step.{Step}
use Rattle.cert.specs.CertificateText.{IsStepOf}
use Rattle.problem.specs.Listing.{Listed}
use Rattle.cert.specs.Shows.{weighed_bounds, LeadsAgainst}
use Rattle.problem_graph.specs.ListedProblem.{IsCarried}
use Rattle.attain.specs.ListedProblem.{AreCarried}
use Rattle.problem_graph.specs.ListedStanding.{IsNodeBy, StandsForListed}
use Rattle.attain.specs.Tight.{HasPath}
use Rattle.attain.specs.Written.{NamesParents}
use Rattle.problem_graph.proofs.ListedExecutions.{bound_of}
use Rattle.problem_graph.proofs.NodeNumbers.{one_node}

-- ---- a path with one bound more
leads_more : (p : ProblemLists) (m n : Node) (steps : List WeighedBound) (b : Bound) (c : Constraint) → Leads p m steps n → Declares p b c → c.from ≡ n → Leads p m (steps ++ (b, c.weight) ∷ []) c.to
leads_more p m n [] b c leads declares begins = (c, declares, refl, begins ∙ sym leads, refl)
leads_more p m n (s ∷ steps) b c (d, declares', weighs, begins', rest) declares begins = (d, declares', weighs, begins', leads_more p d.to n steps b c rest declares begins)

path_more : (p : ProblemLists) (m n : Node) (b : Bound) (c : Constraint) → HasPath p m c.from → Declares p b c → c.to ≡ n → HasPath p m n
path_more p m n b c (steps, leads) declares ends = subst (HasPath p m) ends (steps ++ (b, c.weight) ∷ [], leads_more p m c.from steps b c leads declares refl)

path_before : (p : ProblemLists) (m n : Node) (b : Bound) (c : Constraint) → HasPath p c.to n → Declares p b c → c.from ≡ m → HasPath p m n
path_before p m n b c (steps, leads) declares begins = ((b, c.weight) ∷ steps, (c, declares, refl, begins, leads))

-- ---- parents
-- the number that stands for no arc is not that of one
no_arc_there : (arcs j : ℕ) → arcs ≤ most_arcs → j ≡ no_parent → j < arcs → ⊥
no_arc_there arcs j few is below = omega (arith, few, is, below)

-- a known node whose parent is in force is tight
module _ (g : GraphLists) (is : IsGraph g) (table : ArcTable) (same : (j : ℕ) → table.in_force j ≡ true → (table_of g).in_force j ≡ true) (from : ℕ) (c : Cells) (row : IsRow (length g.nodes) table from c) where
  tight_back : (i k : ℕ) → k ≢ from → LeadsBack table from c i k → IsTight table c k
  tight_back zero k away back = absurd (away back)
  tight_back (suc i) k away back = back.1

  tight : (k : ℕ) → c.known k ≡ true → table.in_force (c.parent k) ≡ true → IsTight table c k
  tight k known force = elim (cases_eq k from) [
    | inl own ↦ absurd (no_arc_there (length g.arcs) (c.parent k) is.arc_limit (ap c.parent own ∙ row.own.2) (in_force_below g is (c.parent k) (same (c.parent k) force)))
    | inr away ↦ (let back = row.back k known in tight_back back.0 k away back.2)
  ]

module _ (l : Listed) (p : ProblemLists) (readings : List Reading) (g : GraphLists) (stands : StandsForListed l p readings g) (is : IsGraph g) where
  -- the steps with their bounds of the problem, which lead somehow and have this sum
  abbrev pub IsWay : (List WeighedBound → Type 0) → List (Bound × ℤ) → ℤ → List Step → Type 0
  IsWay LeadsSo steps sum path =
      AreCarried l steps path × All (IsStepOf p) path × LeadsSo (weighed_bounds path) × (weight_of (weighed_bounds path) ≡ sum) × (length path ≡ length steps)

  carried_step : (a : Arc) (b : Bound) (s : Bound × ℤ) → s ≡ (a.name, a.weight) → IsCarried l a.name b → IsCarried l s.0 b × (s.1 ≡ a.weight)
  carried_step a b s is_step carried = (subst (λ (v : Bound × ℤ). IsCarried l v.0 b) (sym is_step) carried, ap (λ (v : Bound × ℤ). v.1) is_step)

  module _ (from : ℕ) (first : Node) (own : IsNodeBy l p readings from first) (c : Cells) where
    -- ---- outward
    module _ (row : IsRow (length g.nodes) (table_of g) from c) where
      pub upper_way : (steps : List (Bound × ℤ)) (k : ℕ) (n : Node) → IsNodeBy l p readings k n → c.known k ≡ true → NamesParents true g c from k steps
          → (path : List Step) × IsWay (λ (bounds : List WeighedBound). LeadsAgainst p n bounds first) steps (c.value k) path
      upper_way [] k n by known same = (
        [],
        (tt, All-nil (IsStepOf p), one_node l p readings g stands from n first (subst (λ (i : ℕ). IsNodeBy l p readings i n) same by) own, sym (ap c.value same ∙ row.own.1), refl),
      )
      upper_way (s ∷ steps) k n by known (force, is_step, rest) =
          let a : Arc = arc_at g.arcs (c.parent k) in
          let parent = bound_of l p readings g stands (c.parent k) force in
          let t = tight g is (table_of g) (λ j f. f) from c row k known force in
          let more = upper_way steps a.from parent.1.constraint.from parent.1.tail t.tail_known rest in
          let carried = carried_step a parent.0 s is_step parent.1.named in
          let value : c.value k ≡ c.value a.from +ℤ a.weight = t.value in
          let sum : weight_of (weighed_bounds more.0) ≡ c.value a.from = more.1.3 in
          let here : parent.1.constraint.to ≡ n = one_node l p readings g stands k parent.1.constraint.to n (subst (λ (i : ℕ). IsNodeBy l p readings i parent.1.constraint.to) t.ends parent.1.head) by in (
            record { bound = parent.0; weight = a.weight } ∷ more.0,
            (
              (carried.0, carried.1, more.1.0),
              All-cons (IsStepOf p) (record { bound = parent.0; weight = a.weight }) more.0 (parent.1.constraint, parent.1.declares) more.1.1,
              (parent.1.constraint, parent.1.declares, sym parent.1.weighs, here, more.1.2),
              omega (arith, ints, value, sum),
              ap suc more.1.4,
            ),
          )

      path_back : (i k : ℕ) (n : Node) → IsNodeBy l p readings k n → LeadsBack (table_of g) from c i k → HasPath p first n
      path_back zero k n by same = ([], one_node l p readings g stands from first n own (subst (λ (i : ℕ). IsNodeBy l p readings i n) same by))
      path_back (suc i) k n by (away, t, back) =
          let parent = bound_of l p readings g stands (c.parent k) t.in_force in
          let here : parent.1.constraint.to ≡ n = one_node l p readings g stands k parent.1.constraint.to n (subst (λ (j : ℕ). IsNodeBy l p readings j parent.1.constraint.to) t.ends parent.1.head) by in
          path_more p first n parent.0 parent.1.constraint (path_back i (arc_at g.arcs (c.parent k)).from parent.1.constraint.from parent.1.tail back) parent.1.declares here

      -- to each known node there is a path
      pub path_to_known : (k : ℕ) (n : Node) → IsNodeBy l p readings k n → c.known k ≡ true → HasPath p first n
      path_to_known k n by known = let back = row.back k known in path_back back.0 k n by back.2

    -- ---- towards the node
    module _ (row : IsRow (length g.nodes) (reversed_table (table_of g)) from c) where
      pub lower_way : (steps : List (Bound × ℤ)) (k : ℕ) (n : Node) → IsNodeBy l p readings k n → c.known k ≡ true → NamesParents false g c from k steps
          → (path : List Step) × IsWay (λ (bounds : List WeighedBound). Leads p n bounds first) steps (c.value k) path
      lower_way [] k n by known same = (
        [],
        (tt, All-nil (IsStepOf p), one_node l p readings g stands from n first (subst (λ (i : ℕ). IsNodeBy l p readings i n) same by) own, sym (ap c.value same ∙ row.own.1), refl),
      )
      lower_way (s ∷ steps) k n by known (force, is_step, rest) =
          let a : Arc = arc_at g.arcs (c.parent k) in
          let parent = bound_of l p readings g stands (c.parent k) force in
          let t = tight g is (reversed_table (table_of g)) (λ j f. f) from c row k known force in
          let more = lower_way steps a.to parent.1.constraint.to parent.1.head t.tail_known rest in
          let carried = carried_step a parent.0 s is_step parent.1.named in
          let value : c.value k ≡ c.value a.to +ℤ a.weight = t.value in
          let sum : weight_of (weighed_bounds more.0) ≡ c.value a.to = more.1.3 in
          let here : parent.1.constraint.from ≡ n = one_node l p readings g stands k parent.1.constraint.from n (subst (λ (i : ℕ). IsNodeBy l p readings i parent.1.constraint.from) t.ends parent.1.tail) by in (
            record { bound = parent.0; weight = a.weight } ∷ more.0,
            (
              (carried.0, carried.1, more.1.0),
              All-cons (IsStepOf p) (record { bound = parent.0; weight = a.weight }) more.0 (parent.1.constraint, parent.1.declares) more.1.1,
              (parent.1.constraint, parent.1.declares, sym parent.1.weighs, here, more.1.2),
              omega (arith, ints, value, sum),
              ap suc more.1.4,
            ),
          )

      path_on : (i k : ℕ) (n : Node) → IsNodeBy l p readings k n → LeadsBack (reversed_table (table_of g)) from c i k → HasPath p n first
      path_on zero k n by same = ([], one_node l p readings g stands from n first (subst (λ (i : ℕ). IsNodeBy l p readings i n) same by) own)
      path_on (suc i) k n by (away, t, back) =
          let parent = bound_of l p readings g stands (c.parent k) t.in_force in
          let here : parent.1.constraint.from ≡ n = one_node l p readings g stands k parent.1.constraint.from n (subst (λ (j : ℕ). IsNodeBy l p readings j parent.1.constraint.from) t.ends parent.1.tail) by in
          path_before p n first parent.0 parent.1.constraint (path_on i (arc_at g.arcs (c.parent k)).to parent.1.constraint.to parent.1.head back) parent.1.declares here

      -- from each known node there is a path
      pub path_of_known : (k : ℕ) (n : Node) → IsNodeBy l p readings k n → c.known k ≡ true → HasPath p n first
      path_of_known k n by known = let back = row.back k known in path_on back.0 k n by back.2
