-- Events that a problem has while it is made.
use Rattle.std.specs.Prelude.{ℕ}
use Rattle.problem_model.specs.Problem.{ProblemLists}
use Rattle.problem.specs.Line.{HasEvent}
use Rattle.decl.specs.Declaration.{Declaration}
use Rattle.traces.specs.declared.event_id.EventId.{EventId}
use Rattle.traces.specs.Traces.{name_of}

-- the problem has an event of this id's name
abbrev pub IsKnownEvent : Declaration → ProblemLists → EventId → Type 0
IsKnownEvent d p id = (k : ℕ) × HasEvent p k (name_of d id)
