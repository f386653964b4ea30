-- When two certificates of one interval are one but for their paths.
use Rattle.std.specs.Prelude.{◌≡◌, ℕ, List}
use Rattle.problem_model.specs.Problem.{ProblemLists}
use Rattle.problem_model.specs.Nodes.{Reading, AreReadings, nodes_of}
use Rattle.cert.specs.EndLists.{EndLists, Limited, Unlimited}
use Rattle.cert.specs.Listed.{certified}
use Rattle.cert.specs.CertificateText.{ends_lines}
use Rattle.attain.specs.Tight.{AreTight}

-- two ends are one but for the path that shows a limit: the same limit and execution, or the same cut and execution
abbrev pub AreOneEnd : EndLists → EndLists → Type 0
AreOneEnd (Limited value path execution) (Limited other way run) = (value ≡ other) × (execution ≡ run)
AreOneEnd (Limited value path execution) (Unlimited inside run) = ⊥
AreOneEnd (Unlimited inside execution) (Limited other way run) = ⊥
AreOneEnd (Unlimited inside execution) (Unlimited within run) = (inside ≡ within) × (execution ≡ run)

-- two texts are certificates of the interval from one event to another, whose ends are one but for their paths
pub record AreOneProof (p : ProblemLists) (first second : ℕ) (a b : List ℕ) : Type 0 where
  pub readings : List Reading
  pub upper : EndLists
  pub lower : EndLists
  pub other_upper : EndLists
  pub other_lower : EndLists
  pub are : AreReadings p readings
  pub tight : AreTight p readings first second upper lower
  pub other_tight : AreTight p readings first second other_upper other_lower
  pub says : a ≡ certified (ends_lines p (nodes_of p readings) first second upper lower)
  pub other_says : b ≡ certified (ends_lines p (nodes_of p readings) first second other_upper other_lower)
  pub one_upper : AreOneEnd upper other_upper
  pub one_lower : AreOneEnd lower other_lower
