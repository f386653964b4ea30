-- Packets that are kept of what is added: by the place of their label and by their number there.
use Rattle.std.specs.Prelude.{◌≡◌, ℕ, ◌+◌, List, [], ◌∷◌, ◌++◌, slice_get, slice_set, Some, pos}
use Rattle.captures.specs.Capture as captures
use Rattle.mergecap.specs.MergedCapture.{Timed}
use Rattle.traces.specs.Traces.{Trace, Captured, Logged, Traces}

-- a packet under the label at a place, with its number there, at time 0
abbrev pub at_start : ℕ → ℕ → captures.Seen → Timed
at_start place n packet = record { key = record { value = pos 0; place = place; n = n }; packet = packet }

-- packets under the label at a place, numbered from n on
abbrev pub packets_from : ℕ → ℕ → List captures.Seen → List Timed
packets_from place n [] = []
packets_from place n (packet ∷ more) = at_start place n packet ∷ packets_from place (n + 1) more

-- those of what was accepted under the label at a place; a log has none
abbrev pub packets_under : ℕ → Trace → List Timed
packets_under place (Captured bytes capture) = packets_from place 1 capture.packets
packets_under place (Logged rows size) = []

-- all packets, from the label at a place on: label by label, and under each in their order
abbrev pub packets_behind : ℕ → Traces → List Timed
packets_behind place [] = []
packets_behind place (trace ∷ traces) = packets_under place trace ++ packets_behind (place + 1) traces

-- under the label at some place more was accepted, and these are the packets that came with it
pub record BringsPackets (old new : Traces) (packets : List Timed) : Type 0 where
  pub place : ℕ
  pub before : Trace
  pub after : Trace
  pub was : slice_get old place ≡ Some before
  pub is : new ≡ slice_set old place after
  pub more : packets_under place after ≡ packets_under place before ++ packets
