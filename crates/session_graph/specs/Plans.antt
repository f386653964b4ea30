-- The order in which events and messages come.
use Rattle.std.specs.Prelude.{ℕ, List, map}
use Rattle.problem_model.specs.declared.items.Message.{Message}
use Rattle.session_graph.specs.declared.plans.Turn.{Turn}
use Rattle.session_graph.specs.declared.plans.Due.{Due}

-- the numbers of the events
abbrev pub turn_numbers : List Turn → List ℕ
turn_numbers turns = map (λ (t : Turn). t.event) turns

-- the messages alone
abbrev pub messages_in : List Due → List Message
messages_in dues = map (λ (d : Due). d.message) dues
