-- What judging real times by a list of bounds answers.
use Rattle.std.specs.Prelude.{◌≡◌, List, All, ℤ, map}
use Rattle.problem_model.specs.declared.items.Bound.{Bound}
use Rattle.problem_model.specs.Problem.{ProblemLists}
use Rattle.problem_model.specs.Bounds.{Times, IsExecution}
use Rattle.problem_model.specs.Nodes.{Reading, AreReadings, nodes_of}
use Rattle.problem_model.specs.ShortList.{ObeysNamed, IsFirstBrokenOf, IsFirstBroken}
use Rattle.cert_check.specs.declared.verdict.Verdict.{Verdict}
use Rattle.cert_check.specs.declared.verdict.Verdict.TheVariants.{Obeys, Broken}

-- the verdict over a list of bounds: all are obeyed, or this is the first that is not
abbrev pub Judges : ProblemLists → Times → List Bound → Verdict → Type 0
Judges p x bounds Obeys = All (ObeysNamed p x) bounds
Judges p x bounds (Broken b weight difference) = IsFirstBrokenOf p x bounds b weight difference

-- the verdict over all that the problem declares: an execution, or the first broken bound of the short list
abbrev pub IsVerdict : ProblemLists → Times → Verdict → Type 0
IsVerdict p x Obeys = IsExecution p x
IsVerdict p x (Broken b weight difference) = IsFirstBroken p x b weight difference

-- the values are the real times of the nodes, over these readings
pub record AreTimes (p : ProblemLists) (x : Times) (readings : List Reading) (values : List ℤ) : Type 0 where
  pub are_readings : AreReadings p readings
  pub listed : values ≡ map x (nodes_of p readings)
