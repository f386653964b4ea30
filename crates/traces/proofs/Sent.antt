-- What events send.
use Rattle.std.specs.Prelude.{List}
use Rattle.std.specs.List.{flat_map}
use Rattle.traces.specs.declared.event_id.Couple.{Couple}
use Rattle.traces.specs.Traces.{Placed}
use Rattle.traces.specs.Messages.{sent_by}

-- the messages that some events send, among all
abbrev pub sent_of : List Placed → List Placed → List Couple
sent_of events some = flat_map (λ (e : Placed). sent_by events e.seen.mark) some
