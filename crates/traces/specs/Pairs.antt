-- What a message is, one by one.
use Rattle.std.specs.Prelude.{◌≡◌, ◌<◌, ◌⊎◌, List, Contains}
use Rattle.traces.specs.declared.event.Side.{Side}
use Rattle.traces.specs.declared.event.Side.TheVariants.{Send, Receive}
use Rattle.traces.specs.Seen.{EventKey, Keyed}
use Rattle.traces.specs.declared.event_id.EventId.{EventId}
use Rattle.traces.specs.declared.event_id.Couple.{Couple}
use Rattle.traces.specs.Traces.{Placed}

-- the event is one of these, it has this key and this side, and no other one has
pub record IsOnly (events : List Placed) (key : EventKey) (side : Side) (e : Placed) : Type 0 where
  pub among : Contains events e
  pub marked : e.seen.mark ≡ Keyed key side
  pub alone : (other : Placed) → Contains events other → other.seen.mark ≡ Keyed key side → other ≡ e

-- the couple is the only send of a key and the only receive of that key
pub record IsPair (events : List Placed) (m : Couple) : Type 0 where
  pub key : EventKey
  pub sender : Placed
  pub receiver : Placed
  pub sends : IsOnly events key Send sender
  pub receives : IsOnly events key Receive receiver
  pub is : m ≡ record { send = sender.id; receive = receiver.id }

-- an event comes before another: its label does, or it has a lower number under the same label
abbrev pub ComesBefore : EventId → EventId → Type 0
ComesBefore a b = (a.label < b.label) ⊎ ((a.label ≡ b.label) × (a.number < b.number))
