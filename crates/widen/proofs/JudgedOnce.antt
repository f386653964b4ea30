-- What judging answers is yes exactly where the widening shows what it should, and is one.
use Rattle.std.proofs.Common.{◌≡◌, ◌-◌, ◌↔◌, ℕ, List, length, map, Option, Some, None, sym, ◌∙◌, ap, subst, inl, inr}
use Rattle.std.specs.Prelude.{ℤ, All}
use Rattle.problem_model.specs.Problem.{ProblemLists, IsWellFormed}
use Rattle.problem_model.specs.Bounds.{Times}
use Rattle.problem_model.specs.Nodes.{Lists}
use Rattle.cert.specs.declared.chain.Step.{Step}
use Rattle.cert.specs.declared.certificate.Cert.TheVariants as certs
use Rattle.cert.specs.CertificateText.{IsStepOf, HasOneEach}
use Rattle.cert.specs.Shows.{IsExecutionOf}
use Rattle.cert_check.specs.declared.answer.Answer.{Answer}
use Rattle.cert_check.specs.declared.answer.Answer.TheVariants.{Yes}
use Rattle.cert_check.specs.Reasons.{IsAnswer}
use Rattle.cert_check.specs.declared.what.What.{What}
use Rattle.cert_check.specs.Widened.{widened}
use Rattle.cert_check.proofs.Answering.{yes_of}
use Rattle.cert_check.proofs.OneAnswer.{answer_one}
use Rattle.cert_check.proofs.Widening.{formed, readings_on, steps_on}
use Rattle.widen.specs.declared.widening.Widening.{Widening}
use Rattle.widen.specs.declared.widening.Widening.TheVariants.{Least, Never}
use Rattle.widen.specs.Least.{most_extra}
use Rattle.widen.specs.Widening.{HasCycle, IsWideningOf, ShowsBelow, ShowsWidening, IsAnswerBelow, IsJudged}
use Rattle.widen.proofs.SameNodes.{nodes_same}

-- ---- the nodes of a widened problem are those of the problem
pub lists_on : (what : What) (p : ProblemLists) (e : ℕ) (x : Times) (values : List ℤ) → Lists p x values → Lists (widened what p e) x values
lists_on what p e x values (readings, are, is) = (readings, readings_on what p e readings are, is ∙ ap (map x) (sym (nodes_same what p e readings)))

pub each_on : (what : What) (p : ProblemLists) (e : ℕ) (values : List ℤ) → HasOneEach p values → HasOneEach (widened what p e) values
each_on what p e values (readings, are, is) = (readings, readings_on what p e readings are, is ∙ ap length (sym (nodes_same what p e readings)))

module _ (what : What) (p : ProblemLists) (lawful : IsWellFormed p) where
  -- ---- the execution
  run_yes : (e : ℕ) (execution : List ℤ) (a : Answer) → HasOneEach p execution → IsAnswer (widened what p e) (certs.Run execution) a → IsExecutionOf (widened what p e) execution → a ≡ Yes
  run_yes e execution a each is shown = yes_of (widened what p e) (formed what p e lawful) (certs.Run execution) a (each_on what p e execution each) is shown

  run_one : (e : ℕ) (execution : List ℤ) (a b : Answer) → HasOneEach p execution → IsAnswer (widened what p e) (certs.Run execution) a → IsAnswer (widened what p e) (certs.Run execution) b → a ≡ b
  run_one e execution a b each is is' = answer_one (widened what p e) (formed what p e lawful) (certs.Run execution) a b (each_on what p e execution each) is is'

  -- ---- the cycle
  cycle_yes : (e : ℕ) (cycle : List Step) (a : Answer) → All (IsStepOf p) cycle → IsAnswer (widened what p e) (certs.Cycle cycle) a → ((a ≡ Yes) → IsAnswer (widened what p e) (certs.Cycle cycle) Yes) × (IsAnswer (widened what p e) (certs.Cycle cycle) Yes → a ≡ Yes)
  cycle_yes e cycle a steps is = (
    λ agreed. subst (IsAnswer (widened what p e) (certs.Cycle cycle)) agreed is,
    λ shown. yes_of (widened what p e) (formed what p e lawful) (certs.Cycle cycle) a (steps_on what p e cycle steps) is shown,
  )

  cycle_one : (e : ℕ) (cycle : List Step) (a b : Answer) → All (IsStepOf p) cycle → IsAnswer (widened what p e) (certs.Cycle cycle) a → IsAnswer (widened what p e) (certs.Cycle cycle) b → a ≡ b
  cycle_one e cycle a b steps is is' = answer_one (widened what p e) (formed what p e lawful) (certs.Cycle cycle) a b (steps_on what p e cycle steps) is is'

  -- ---- the answer of both
  below_shows : (extra : ℕ) (cycle : Option (List Step)) (a : Answer) → HasCycle p extra cycle → IsAnswerBelow what p extra cycle a → a ≡ Yes → ShowsBelow what p extra cycle
  below_shows extra None a has is agreed = tt
  below_shows extra (Some cycle) a has is agreed = (cycle_yes (extra - 1) cycle a has.1 is).0 agreed

  below_yes : (extra : ℕ) (cycle : Option (List Step)) (a : Answer) → HasCycle p extra cycle → IsAnswerBelow what p extra cycle a → ShowsBelow what p extra cycle → a ≡ Yes
  below_yes extra None a has is shown = is
  below_yes extra (Some cycle) a has is shown = (cycle_yes (extra - 1) cycle a has.1 is).1 shown

  below_one : (extra : ℕ) (cycle : Option (List Step)) (a b : Answer) → HasCycle p extra cycle → IsAnswerBelow what p extra cycle a → IsAnswerBelow what p extra cycle b → a ≡ b
  below_one extra None a b has is is' = is ∙ sym is'
  below_one extra (Some cycle) a b has is is' = cycle_one (extra - 1) cycle a b has.1 is is'

  least_exact : (extra : ℕ) (execution : List ℤ) (cycle : Option (List Step)) (a : Answer) → IsWideningOf p (Least extra execution cycle) → IsJudged what p (Least extra execution cycle) a → ShowsWidening what p (Least extra execution cycle) ↔ (a ≡ Yes)
  least_exact extra execution cycle a of (inl (is, other)) = ((λ shown. absurd (other (run_yes extra execution a of.0 is shown.0))), (λ agreed. absurd (other agreed)))
  least_exact extra execution cycle a of (inr (runs, is)) = ((λ shown. below_yes extra cycle a of.1 is shown.1), (λ agreed. (runs, below_shows extra cycle a of.1 is agreed)))

  pub exact : (w : Widening) (a : Answer) → IsWideningOf p w → IsJudged what p w a → ShowsWidening what p w ↔ (a ≡ Yes)
  exact (Least extra execution cycle) a of is = least_exact extra execution cycle a of is
  exact (Never cycle) a of is = let both = cycle_yes most_extra cycle a of is in ((λ shown. both.1 shown), (λ agreed. both.0 agreed))

  least_one : (extra : ℕ) (execution : List ℤ) (cycle : Option (List Step)) (a b : Answer) → IsWideningOf p (Least extra execution cycle) → IsJudged what p (Least extra execution cycle) a → IsJudged what p (Least extra execution cycle) b → a ≡ b
  least_one extra execution cycle a b of (inl x) (inl y) = run_one extra execution a b of.0 x.0 y.0
  least_one extra execution cycle a b of (inl x) (inr y) = absurd (x.1 (run_yes extra execution a of.0 x.0 y.0))
  least_one extra execution cycle a b of (inr x) (inl y) = absurd (y.1 (run_yes extra execution b of.0 y.0 x.0))
  least_one extra execution cycle a b of (inr x) (inr y) = below_one extra cycle a b of.1 x.1 y.1

  pub judged_one : (w : Widening) (a b : Answer) → IsWideningOf p w → IsJudged what p w a → IsJudged what p w b → a ≡ b
  judged_one (Least extra execution cycle) a b of x y = least_one extra execution cycle a b of x y
  judged_one (Never cycle) a b of x y = cycle_one most_extra cycle a b of x y
