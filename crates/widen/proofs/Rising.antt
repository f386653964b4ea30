-- What is an execution of a problem is one where it is widened further.
use Rattle.std.proofs.Common.{◌≡◌, ◌<◌, ◌≤◌, ◌-◌, ◌^◌, ℕ, List, Option, Some, None, ap, arith, inl, inr}
use Rattle.std.specs.Prelude.{ℤ, ◌-ℤ◌, ◌≤ℤ◌}
use Rattle.std.proofs.lemmas.Int.{ints}
use Rattle.std.proofs.lemmas.Bool.{cases_lt}
use Rattle.problem_model.specs.Problem.{ProblemLists}
use Rattle.problem_model.specs.Bounds.{Times, IsExecution}
use Rattle.problem_model.specs.Solutions.{IsContradictionOf}
use Rattle.problem_model.proofs.Solutions.{no_execution}
use Rattle.cert.specs.declared.chain.Step.{Step}
use Rattle.cert.specs.Shows.{weighed_bounds}
use Rattle.cert_check.specs.declared.what.What.{What}
use Rattle.cert_check.specs.Widened.{widened}
use Rattle.cert_check.proofs.Comparing.{ends_same, declared_less, widened_stamps}
use Rattle.widen.specs.declared.widening.Widening.TheVariants.{Least, Never}
use Rattle.widen.specs.Least.{most_extra, HasExecution, IsLeastWidening, HasNoWidening}
use Rattle.widen.specs.Widening.{IsWideningOf, ShowsWidening}

module _ (what : What) (p : ProblemLists) where
  pub rises : (e f : ℕ) (x : Times) → e ≤ f → IsExecution (widened what p e) x → IsExecution (widened what p f) x
  rises e f x le execution b c declares =
      let less = declared_less what p e f le b c declares in
      let d = less.0 in
      let ends = ends_same (widened what p f) (widened what p e) (widened_stamps what what p f e) b c d declares less.1 in
      let from : x c.from ≡ x d.from = ap x ends.0 in
      let to : x c.to ≡ x d.to = ap x ends.1 in
      let obeyed : (x d.to -ℤ x d.from) ≤ℤ d.weight = execution b d less.1 in
      let weight : d.weight ≤ℤ c.weight = less.2 in
      omega (arith, ints)

  -- where a widening leaves a contradiction, a lesser one has no execution
  pub none_below : (cycle : List Step) (e f : ℕ) → IsContradictionOf (widened what p f) (weighed_bounds cycle) → e ≤ f → HasExecution what p e → ⊥
  none_below cycle e f shown le (x, execution) = no_execution (widened what p f) (weighed_bounds cycle) x shown (rises e f x le execution)

  pub shown_least : (extra : ℕ) (execution : List ℤ) (cycle : Option (List Step)) → extra < 2 ^ 62
      → IsWideningOf p (Least extra execution cycle) → ShowsWidening what p (Least extra execution cycle) → IsLeastWidening what p extra
  shown_least extra execution None within of shown = record {
    within = within;
    heals = (shown.0.0, shown.0.2);
    least = λ f less. let none : extra ≡ 0 = of.1 in absurd (omega (arith, less, none));
  }
  shown_least extra execution (Some cycle) within of shown = record {
    within = within;
    heals = (shown.0.0, shown.0.2);
    least = λ f less. none_below cycle f (extra - 1) shown.1 (omega (arith, less));
  }

  pub shown_never : (cycle : List Step) → ShowsWidening what p (Never cycle) → HasNoWidening what p
  shown_never cycle shown = λ e within. none_below cycle e most_extra shown (omega (arith, within))

  pub one_least : (e f : ℕ) → IsLeastWidening what p e → IsLeastWidening what p f → e ≡ f
  one_least e f x y =
      elim (cases_lt e f) [
        | inl below ↦ absurd (y.least e below x.heals)
        | inr le ↦ elim (cases_lt f e) [
          | inl below ↦ absurd (x.least f below y.heals)
          | inr le' ↦ omega (arith, le, le')
        ]
      ]
