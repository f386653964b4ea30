-- Which clock comes after which is told by the follows alone.
use Rattle.std.proofs.Common.{◌≡◌, ℕ, List, [], ◌∷◌, Contains, subst}
use Rattle.problem_model.specs.declared.items.Follow.{Follow}
use Rattle.problem_model.specs.Problem.{ProblemLists}
use Rattle.problem_model.specs.Bounds.{LinesLead, ComesAfter}

module _ (p q : ProblemLists) (same : p.follows ≡ q.follows) where
  pub follow_over : (f : Follow) → Contains p.follows f → Contains q.follows f
  follow_over f among = subst (λ (fs : List Follow). Contains fs f) same among

  lines_over : (c : ℕ) (lines : List Follow) (d : ℕ) → LinesLead p c lines d → LinesLead q c lines d
  lines_over c [] d lead = lead
  lines_over c (f ∷ lines) d (among, from, rest) = (follow_over f among, from, lines_over f.later lines d rest)

  pub after_over : (c d : ℕ) → ComesAfter p c d → ComesAfter q c d
  after_over c d after = (after.0, after.1, lines_over c (after.0 ∷ after.1) d after.2)
