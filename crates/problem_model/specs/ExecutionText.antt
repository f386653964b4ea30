-- The text of an execution: a line for each node, in the order of the nodes.
use Rattle.std.specs.Prelude.{ℕ, List, [], ◌∷◌, ◌++◌, codes, ℤ}
use Rattle.std.specs.List.{flat_map, zip}
use Rattle.atto.specs.Decimal.{decimal_of}
use Rattle.atto.specs.NsText.{ns_text}
use Rattle.line_format.specs.Words.{line_of}
use Rattle.problem_model.specs.declared.items.Node.{Node}
use Rattle.problem_model.specs.declared.items.Node.TheVariants.{Event, Reading}
use Rattle.problem_model.specs.Problem.{ProblemLists}
use Rattle.problem_model.specs.ProblemText.{clock_name, event_name}

-- the words of the first line
abbrev pub execution_head : List (List ℕ)
execution_head = codes "execution" ∷ codes "1" ∷ []

-- the words that name a node
abbrev pub node_words : ProblemLists → Node → List (List ℕ)
node_words p (Event e) = codes "event" ∷ event_name p.events e ∷ []
node_words p (Reading clock stamp) = codes "reading" ∷ clock_name p.clocks clock ∷ decimal_of stamp ∷ []

-- the line of a node with its real time
abbrev pub value_line : ProblemLists → Node × ℤ → List ℕ
value_line p v = line_of (node_words p v.0 ++ ns_text v.1 ∷ [])

-- the lines of the nodes with their real times
abbrev pub value_lines : ProblemLists → List Node → List ℤ → List ℕ
value_lines p nodes values = flat_map (value_line p) (zip nodes values)

-- the only text of an execution, over the nodes in their order
abbrev pub execution_text : ProblemLists → List Node → List ℤ → List ℕ
execution_text p nodes values = line_of execution_head ++ value_lines p nodes values ++ line_of (codes "end" ∷ [])
