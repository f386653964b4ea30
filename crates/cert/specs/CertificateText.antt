-- Certificates of a problem and their text.
use Rattle.std.specs.Prelude.{◌≡◌, ℕ, ◌<◌, List, [], ◌∷◌, ◌++◌, length, codes, ℤ, All, AllPairs}
use Rattle.std.specs.List.{flat_map}
use Rattle.atto.specs.NsText.{ns_text}
use Rattle.line_format.specs.Words.{line_of}
use Rattle.problem_model.specs.declared.items.Node.{Node}
use Rattle.problem_model.specs.Problem.{ProblemLists}
use Rattle.problem_model.specs.ProblemText.{clock_name, event_name}
use Rattle.problem_model.specs.BoundText.{bound_words}
use Rattle.problem_model.specs.Bounds.{Constraint, Declares}
use Rattle.problem_model.specs.Nodes.{Reading, AreReadings, nodes_of}
use Rattle.problem_model.specs.ExecutionText.{value_lines}
use Rattle.cert.specs.declared.chain.Step.{Step}
use Rattle.cert.specs.declared.certificate.EndProof.{EndProof}
use Rattle.cert.specs.declared.certificate.Cert.{Cert}
use Rattle.cert.specs.declared.certificate.Cert.TheVariants.{Cycle, Run, Ends}
use Rattle.cert.specs.EndLists.{EndLists, Limited, Unlimited, end_lists}
use Rattle.cert.specs.Listed.{certified}

-- ---- text
-- the line of a step
abbrev pub step_line : ProblemLists → Step → List ℕ
step_line p s = line_of (codes "step" ∷ bound_words p s.bound ++ ns_text s.weight ∷ [])

-- the line of a clock inside a cut
abbrev pub inside_line : ProblemLists → ℕ → List ℕ
inside_line p clock = line_of (codes "inside" ∷ clock_name p.clocks clock ∷ [])

-- the part of one end: its word and its value, a path and an execution; or that it has no limit, a cut and an execution
abbrev pub end_text : ProblemLists → List Node → List ℕ → List ℕ → EndLists → List ℕ
end_text p nodes part unlimited (Limited value path execution) =
    line_of (part ∷ ns_text value ∷ []) ++ flat_map (step_line p) path ++ value_lines p nodes execution
end_text p nodes part unlimited (Unlimited inside execution) =
    line_of (part ∷ unlimited ∷ []) ++ flat_map (inside_line p) inside ++ value_lines p nodes execution

-- the same of an end as the code holds it
abbrev pub end_lines : ProblemLists → List Node → List ℕ → List ℕ → EndProof → List ℕ
end_lines p nodes part unlimited end = end_text p nodes part unlimited (end_lists end)

-- the line of two events, and the parts of both ends
abbrev pub ends_lines : ProblemLists → List Node → ℕ → ℕ → EndLists → EndLists → List ℕ
ends_lines problem nodes p q upper lower =
    line_of (codes "ends" ∷ event_name problem.events p ∷ event_name problem.events q ∷ [])
    ++ end_text problem nodes (codes "upper") (codes "+inf") upper ++ end_text problem nodes (codes "lower") (codes "-inf") lower

-- what stands between the first line and the end
abbrev pub certificate_lines : ProblemLists → List Node → Cert → List ℕ
certificate_lines p nodes (Cycle steps) = line_of (codes "cycle" ∷ []) ++ flat_map (step_line p) steps
certificate_lines p nodes (Run execution) = line_of (codes "run" ∷ []) ++ value_lines p nodes execution
certificate_lines problem nodes (Ends p q upper lower) = ends_lines problem nodes p q (end_lists upper) (end_lists lower)

-- the only text of a certificate, over the nodes in their order
abbrev pub certificate_text : ProblemLists → List Node → Cert → List ℕ
certificate_text p nodes c = certified (certificate_lines p nodes c)

-- ---- certificates of a problem
-- the problem declares the bound of the step, with whatever weight
abbrev pub IsStepOf : ProblemLists → Step → Type 0
IsStepOf p s = (c : Constraint) × Declares p s.bound c

-- there is one value per node
abbrev pub HasOneEach : ProblemLists → List ℤ → Type 0
HasOneEach p values = (readings : List Reading) × AreReadings p readings × (length values ≡ length (nodes_of p readings))

-- the path or the cut is over the bounds or clocks of the problem, and the execution over its nodes
abbrev pub AreListsOf : ProblemLists → EndLists → Type 0
AreListsOf p (Limited value path execution) = All (IsStepOf p) path × HasOneEach p execution
AreListsOf p (Unlimited inside execution) =
    All (λ k. k < length p.clocks) inside × AllPairs (λ j k. j < k) inside × HasOneEach p execution

-- the same of an end as the code holds it
abbrev pub IsEndOf : ProblemLists → EndProof → Type 0
IsEndOf p end = AreListsOf p (end_lists end)

-- bounds, events, clocks and nodes are those of the problem; nothing is said of weights, of sums, or whether an
-- execution is one
abbrev pub IsCertOf : ProblemLists → Cert → Type 0
IsCertOf p (Cycle steps) = All (IsStepOf p) steps
IsCertOf p (Run execution) = HasOneEach p execution
IsCertOf problem (Ends p q upper lower) = (p < length problem.events) × (q < length problem.events) × IsEndOf problem upper × IsEndOf problem lower
