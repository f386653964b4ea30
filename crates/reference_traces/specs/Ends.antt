-- Ends of messages, as the code looks for them.
use Rattle.std.specs.Prelude.{List, [], ◌∷◌, Option, Some, None}
use Rattle.traces.specs.declared.event_id.EventId.{EventId}
use Rattle.traces.specs.Traces.{Placed}

-- the one of these events, if it is the only one
abbrev pub only_event : List Placed → Option EventId
only_event [] = None
only_event (e ∷ []) = Some e.id
only_event (e ∷ f ∷ more) = None
