-- The text of a widening.
use Rattle.std.specs.Prelude.{ℕ, List, [], ◌∷◌, ◌++◌, codes, Option, Some, None}
use Rattle.std.specs.List.{flat_map}
use Rattle.atto.specs.Decimal.{decimal_of}
use Rattle.line_format.specs.Words.{line_of}
use Rattle.problem_model.specs.declared.items.Node.{Node}
use Rattle.problem_model.specs.Problem.{ProblemLists}
use Rattle.problem_model.specs.ExecutionText.{value_lines}
use Rattle.cert.specs.declared.chain.Step.{Step}
use Rattle.cert.specs.CertificateText.{step_line}
use Rattle.cert_check.specs.declared.what.What.{What}
use Rattle.widen.specs.declared.widening.Widening.{Widening}
use Rattle.widen.specs.declared.widening.Widening.TheVariants.{Least, Never}
use Rattle.widen.specs.Named.{stated_words}

-- the words of the first line
abbrev pub widening_head : List (List ℕ)
widening_head = codes "widening" ∷ codes "1" ∷ []

-- by how many ns or parts per billion, or the word for no number
abbrev pub least_word : Option ℕ → List ℕ
least_word None = codes "none"
least_word (Some extra) = decimal_of extra

-- the words of the line that says it, with those that name what is widened
abbrev pub least_words : Option ℕ → List (List ℕ) → List (List ℕ)
least_words extra named = codes "least" ∷ least_word extra ∷ named

-- the lines of a cycle, where there is one
abbrev pub cycle_lines : ProblemLists → Option (List Step) → List ℕ
cycle_lines p None = []
cycle_lines p (Some cycle) = line_of (codes "cycle" ∷ []) ++ flat_map (step_line p) cycle

-- the line that says by how much this is widened
abbrev pub least_line : ProblemLists → What → Option ℕ → List ℕ
least_line p what extra = line_of (least_words extra (stated_words p what))

-- what stands between the first line and the end
abbrev pub widening_lines : ProblemLists → List Node → What → Widening → List ℕ
widening_lines p nodes what (Least extra execution cycle) = least_line p what (Some extra) ++ value_lines p nodes execution ++ cycle_lines p cycle
widening_lines p nodes what (Never cycle) = least_line p what None ++ cycle_lines p (Some cycle)

-- the only text of a widening of this, over the nodes in their order
abbrev pub widening_text : ProblemLists → List Node → What → Widening → List ℕ
widening_text p nodes what w = line_of widening_head ++ widening_lines p nodes what w ++ line_of (codes "end" ∷ [])
