-- Where packets were captured: each label, with each link type that its packets have.
use Rattle.std.specs.Prelude.{◌≡◌, ◌<◌, ◌⊎◌, ℕ, ◌+◌, Bool, ◌==◌, ◌&&◌, if◌then◌else◌, List, [], ◌∷◌, AllPairs, Contains}
use Rattle.mergecap.specs.MergedCapture.{Timed}
use Rattle.merged_blocks.specs.declared.taps.Tap.{Tap}

-- the label of a packet and its link type
abbrev pub tap_of : Timed → Tap
tap_of t = record { place = t.key.place; link = t.packet.link }

-- an earlier label, or the same one and a smaller link type
abbrev pub StandsBefore : Tap → Tap → Type 0
StandsBefore a b = (a.place < b.place) ⊎ ((a.place ≡ b.place) × (a.link < b.link))

-- the taps of packets, each once, in the order of labels and then of link types
pub record AreTapsOf (ts : List Timed) (taps : List Tap) : Type 0 where
  pub each : (tap : Tap) → Contains taps tap → (t : Timed) × Contains ts t × (tap_of t ≡ tap)
  pub every : (t : Timed) → Contains ts t → Contains taps (tap_of t)
  pub sorted : AllPairs StandsBefore taps

-- two taps are one
abbrev pub is_same : Tap → Tap → Bool
is_same a b = (a.place == b.place) && (a.link == b.link)

-- the number of a tap among these: how many stand before it
abbrev pub number_of : List Tap → Tap → ℕ
number_of [] tap = 0
number_of (a ∷ taps) tap = if is_same a tap then 0 else 1 + number_of taps tap
