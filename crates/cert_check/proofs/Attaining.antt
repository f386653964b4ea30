-- Faults of parts put together, those of the path or the cut before those of the execution.
use Rattle.std.proofs.Common.{◌≡◌, ◌≢◌, ◌⊎◌, ℕ, List, Option, Some, None, refl}
use Rattle.std.specs.Prelude.{ℤ, ◌-ℤ◌, All}
use Rattle.problem_model.specs.declared.items.Node.TheVariants as nodes
use Rattle.problem_model.specs.Problem.{ProblemLists, IsWellFormed}
use Rattle.problem_model.specs.Bounds.{Times}
use Rattle.problem_model.specs.Nodes as lists
use Rattle.problem_model.specs.Solutions.{weight_of}
use Rattle.cert.specs.declared.chain.Step.{Step}
use Rattle.cert.specs.declared.certificate.EndProof.TheVariants.{At}
use Rattle.cert.specs.CertificateText.{IsStepOf}
use Rattle.cert.specs.Shows.{weighed_bounds, IsExecutionOf, Attains, Parts}
use Rattle.cert_check.specs.declared.answer.Part.{Part}
use Rattle.cert_check.specs.declared.answer.Part.TheVariants.{Cycle}
use Rattle.cert_check.specs.declared.answer.Reason.{Reason}
use Rattle.cert_check.specs.Walks.{Goes}
use Rattle.cert_check.specs.Reasons.{IsBrokenBy, sum_for, home_of, away_of, PathIs, DifferenceIs, CutIs, EndIs}
use Rattle.cert_check.specs.Faults.{FindsFault, ShowsEnd}
use Rattle.cert_check.proofs.Turns.{first_early, first_late, path_early, cut_early, broken_late, broken_early, difference_late, times_late}
use Rattle.cert_check.proofs.Agreeing.{execution_sound}
use Rattle.cert_check.proofs.Cutting.{cut_sound}
use Rattle.cert_check.proofs.Paths.{path_sound}

-- ---- the bounds, then the difference
module _ (p : ProblemLists) (part : Part) (first second : ℕ) (value : ℤ) (values : List ℤ) (o : Option Reason) where
  pub both_found : IsWellFormed p → IsExecutionOf p values → FindsFault part (DifferenceIs p first second value values) ((x : Times) → lists.Lists p x values → (x (nodes.Event second) -ℤ x (nodes.Event first)) ≡ value) o
      → FindsFault part (λ r. IsBrokenBy p values r ⊎ DifferenceIs p first second value values r) (Attains p first second value values) o
  both_found lawful execution found = elim o as (λ o. FindsFault part (DifferenceIs p first second value values) ((x : Times) → lists.Lists p x values → (x (nodes.Event second) -ℤ x (nodes.Event first)) ≡ value) o
      → FindsFault part (λ r. IsBrokenBy p values r ⊎ DifferenceIs p first second value values r) (Attains p first second value values) o) [
        | None ↦ λ is. (execution.0, execution.1, execution.2, is execution.0 execution.1)
        | Some r ↦ λ is. first_late part (IsBrokenBy p values) (DifferenceIs p first second value values) (execution_sound p values lawful execution) r is
      ] found

  pub broken_found : (o ≡ None → ⊥) → FindsFault part (IsBrokenBy p values) (IsExecutionOf p values) o → FindsFault part (λ r. IsBrokenBy p values r ⊎ DifferenceIs p first second value values r) (Attains p first second value values) o
  broken_found some found = elim o as (λ o. (o ≡ None → ⊥) → FindsFault part (IsBrokenBy p values) (IsExecutionOf p values) o
      → FindsFault part (λ r. IsBrokenBy p values r ⊎ DifferenceIs p first second value values r) (Attains p first second value values) o) [
        | None ↦ λ some is. absurd (some refl)
        | Some r ↦ λ some is. first_early part (IsBrokenBy p values) (DifferenceIs p first second value values) 4 (broken_early p values) (difference_late p first second value values) r is
      ] some found

-- ---- the two kinds of ends
module _ (p : ProblemLists) (part : Part) (first second : ℕ) where
  pub path_then : (value : ℤ) (path : List Step) (execution : List ℤ) (o : Option Reason) → IsWellFormed p → part ≢ Cycle → All (IsStepOf p) path
      → Goes p part (nodes.Event second) (weighed_bounds path) (nodes.Event first) × (weight_of (weighed_bounds path) ≡ sum_for part value)
      → FindsFault part (λ r. IsBrokenBy p execution r ⊎ DifferenceIs p first second value execution r) (Attains p first second value execution) o
      → FindsFault part (EndIs p part first second (At value path execution)) (ShowsEnd p part first second (At value path execution)) o
  path_then value path execution None lawful is_path each shown found = (shown.0, shown.1, found)
  path_then value path execution (Some r) lawful is_path each shown found =
      first_late part (PathIs p part first second value path) (λ r. IsBrokenBy p execution r ⊎ DifferenceIs p first second value execution r) (path_sound p part first second value path lawful is_path each shown.0 shown.1) r found

  pub path_found : (value : ℤ) (path : List Step) (execution : List ℤ) (o : Option Reason) → (o ≡ None → ⊥)
      → FindsFault part (PathIs p part first second value path) (Goes p part (nodes.Event second) (weighed_bounds path) (nodes.Event first) × (weight_of (weighed_bounds path) ≡ sum_for part value)) o
      → FindsFault part (EndIs p part first second (At value path execution)) (ShowsEnd p part first second (At value path execution)) o
  path_found value path execution None some found = absurd (some refl)
  path_found value path execution (Some r) some found =
      first_early part (PathIs p part first second value path) (λ r. IsBrokenBy p execution r ⊎ DifferenceIs p first second value execution r) 3 (path_early p part first second value path) (times_late p first second value execution) r found

  pub cut_then : (inside : List ℕ) (execution : List ℤ) (o : Option Reason) → IsWellFormed p → Parts p inside (home_of part first second) (away_of part first second)
      → FindsFault part (IsBrokenBy p execution) (IsExecutionOf p execution) o → FindsFault part (λ r. CutIs p part first second inside r ⊎ IsBrokenBy p execution r) (Parts p inside (home_of part first second) (away_of part first second) × IsExecutionOf p execution) o
  cut_then inside execution None lawful shown found = (shown, found)
  cut_then inside execution (Some r) lawful shown found = first_late part (CutIs p part first second inside) (IsBrokenBy p execution) (cut_sound p part first second inside shown) r found

  pub cut_found : (inside : List ℕ) (execution : List ℤ) (o : Option Reason) → (o ≡ None → ⊥) → FindsFault part (CutIs p part first second inside) (Parts p inside (home_of part first second) (away_of part first second)) o
      → FindsFault part (λ r. CutIs p part first second inside r ⊎ IsBrokenBy p execution r) (Parts p inside (home_of part first second) (away_of part first second) × IsExecutionOf p execution) o
  cut_found inside execution None some found = absurd (some refl)
  cut_found inside execution (Some r) some found = first_early part (CutIs p part first second inside) (IsBrokenBy p execution) 3 (cut_early p part first second inside) (broken_late p execution) r found
