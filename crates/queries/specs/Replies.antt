-- What is written of two events of a problem.
use Rattle.std.specs.Prelude.{◌≡◌, ◌⊎◌, ◌≤◌, ℕ, List, [], ◌∷◌, length, map, codes}
use Rattle.line_format.specs.Words.{line_of}
use Rattle.problem_model.specs.declared.items.Node.TheVariants as nodes
use Rattle.problem_model.specs.Problem.{ProblemLists}
use Rattle.problem_model.specs.Bounds.{Times, IsExecution, IsReading}
use Rattle.problem_model.specs.Nodes.{Reading, AreReadings, nodes_of}
use Rattle.problem_model.specs.Solutions.{IsContradictionOf}
use Rattle.cert.specs.declared.chain.Step.{Step}
use Rattle.cert.specs.declared.certificate.Cert.TheVariants.{Cycle}
use Rattle.cert.specs.CertificateText.{certificate_text}
use Rattle.intervals.specs.declared.ends.Ends.{Ends}
use Rattle.intervals.specs.declared.order.Order.{Order}
use Rattle.intervals.specs.Executions.{time_difference, time_by, AreEndsOf, IsOrderOf}
use Rattle.attain.specs.Tight.{IsTightText}
use Rattle.queries.specs.declared.comparison.Asked.{Asked}
use Rattle.queries.specs.declared.comparison.Asked.TheVariants as asked
use Rattle.queries.specs.Words.{end_word, order_word}

-- the line has the least and the greatest difference from one event to another over all executions
abbrev pub IsIntervalLine : ProblemLists → ℕ → ℕ → List ℕ → Type 0
IsIntervalLine p first second text = (e : Ends) × AreEndsOf p (time_difference (nodes.Event first) (nodes.Event second)) e
    × (text ≡ line_of (codes "interval" ∷ end_word (codes "-inf") e.least ∷ end_word (codes "+inf") e.greatest ∷ []))

-- the line has the order of two events in every execution
abbrev pub IsOrderLine : ProblemLists → ℕ → ℕ → List ℕ → Type 0
IsOrderLine p first second text = (order : Order) × IsOrderOf p (nodes.Event first) (nodes.Event second) order
    × (text ≡ line_of (codes "order" ∷ order_word order ∷ []))

-- the clock has a reading
abbrev pub HasReading : ProblemLists → ℕ → Type 0
HasReading p clock = (stamp : ℕ) × IsReading p clock stamp

-- the line has the least and the greatest time of an event by a clock, over all executions: the same by each of its readings
abbrev pub IsTimeLine : ProblemLists → ℕ → ℕ → List ℕ → Type 0
IsTimeLine p clock event text = (e : Ends) × ((stamp : ℕ) → IsReading p clock stamp → AreEndsOf p (time_by clock stamp (nodes.Event event)) e)
    × (text ≡ line_of (codes "time" ∷ end_word (codes "-inf") e.least ∷ end_word (codes "+inf") e.greatest ∷ []))

-- the text is the certificate of both ends of the difference from one event to another, with the executions that attain
-- them and the cuts that show that there is none
abbrev pub IsProofText : ProblemLists → ℕ → ℕ → List ℕ → Type 0
IsProofText p first second text = (readings : List Reading) × AreReadings p readings × IsTightText p readings first second text

-- the line says what is asked of two events
abbrev pub IsComparisonLine : Asked → ProblemLists → ℕ → ℕ → List ℕ → Type 0
IsComparisonLine asked.Interval = IsIntervalLine
IsComparisonLine asked.Order = IsOrderLine

-- no real times obey the bounds, and the text is the certificate of a contradiction of at most as many steps as nodes
abbrev pub IsContradictionText : ProblemLists → List ℕ → Type 0
IsContradictionText p text = (steps : List Step) × (readings : List Reading) × ((x : Times) → IsExecution p x → ⊥)
    × IsContradictionOf p (map (λ s. (s.bound, s.weight)) steps) × AreReadings p readings
    × (length steps ≤ length (nodes_of p readings))
    × (text ≡ certificate_text p (nodes_of p readings) (Cycle steps))

-- a line that says so where some execution obeys the bounds, else the certificate of a contradiction
abbrev pub Replies : ProblemLists → (List ℕ → Type 0) → List ℕ → Type 0
Replies p Says text = (((x : Times) × IsExecution p x) × Says text) ⊎ IsContradictionText p text
