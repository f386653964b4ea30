-- What is at hand takes no step.
use Rattle.std.proofs.Common.{◌≡◌, ◌==◌, ℕ, true, false, List, [], length, inl, inr, ◌∙◌, sym, subst, arith}
use Rattle.std.proofs.lemmas.List.{nil_from_length}
use Rattle.sync_graph.specs.declared.arc.Arc.{Arc}
use Rattle.solver.specs.Solver.{SolverLists}
use Rattle.queries.specs.Asking.{HasKeptRows, HoldsContradiction, IsAtHand, IsPairAtHand}

-- what is not empty is a contradiction that is held
pub some_held : (s : SolverLists) (cycle : List Arc) → cycle ≡ s.contradiction → (length cycle == 0) ≡ false → HoldsContradiction s
some_held s cycle is some none =
    let wrong : (0 == 0) ≡ false = subst (λ (arcs : List Arc). (length arcs == 0) ≡ false) (is ∙ none) some in
    let z : ⊥ = cc in z

-- and what is empty says that none is
pub nothing_held : (s : SolverLists) (cycle : List Arc) → cycle ≡ s.contradiction → (length cycle == 0) ≡ true → s.contradiction ≡ []
nothing_held s cycle is empty = sym is ∙ nil_from_length cycle (grind (arith, empty))

module _ (s : SolverLists) (none : s.contradiction ≡ []) (Same : Type 0) where
  -- where no contradiction is held the node is kept
  pub where_kept : (node : ℕ) → (HasKeptRows s node → Same) → IsAtHand s node → Same
  where_kept node same (inl holds) = absurd (holds none)
  where_kept node same (inr kept) = same kept

  -- or one of the two is
  pub where_one_kept : (first second : ℕ) → (HasKeptRows s first → Same) → (HasKeptRows s second → Same) → IsPairAtHand s first second → Same
  where_one_kept first second same same' (inl hand) = where_kept first same hand
  where_one_kept first second same same' (inr hand) = where_kept second same' hand
