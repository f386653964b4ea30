-- Blocks that are skipped, and of which not all bytes came.
use Rattle.std.specs.Prelude.{◌≡◌, ℕ, ◌+◌, ◌-◌, ◌<◌, ◌≤◌, ◌||◌, if◌then◌else◌, nat_lt, List, length, take, drop, Option, Some, None, ⊤}
use Rattle.pcapng_stream.specs.declared.order.Order.{Order}
use Rattle.pcapng_stream.specs.declared.skipped.Skipped.{Skipped}
use Rattle.pcapng_stream.specs.Numbers.{word_at}
use Rattle.pcapng_stream.specs.Blocks.{kind_at}
use Rattle.pcapng_stream.specs.Flaws.{is_read}

-- the block of this order that begins so, of which so many bytes came
abbrev pub begun_by : Order → List ℕ → ℕ → Skipped
begun_by order begin came = record { order = order; block_type = word_at order 0 begin; size = word_at order 4 begin; came = came }

-- the block of which so many bytes more came
abbrev pub begun_with : Skipped → ℕ → Skipped
begun_with b more = record { order = b.order; block_type = b.block_type; size = b.size; came = b.came + more }

-- the skipped block that begins so, if the first twelve bytes tell that it is one
abbrev pub skipped_by : Option Order → List ℕ → ℕ → Option Skipped
skipped_by None begin came = None
skipped_by (Some order) begin came = if nat_lt (length begin) 12 || is_read (kind_at order begin) then None else Some (begun_by order begin came)

-- the skipped block that begins these bytes behind blocks of this order
abbrev pub skipped_in : Option Order → List ℕ → Option Skipped
skipped_in present bytes = skipped_by present (take 12 bytes) (length bytes)

-- the bytes that are held: of a skipped block those of its last four
abbrev pub held_of : Option Skipped → List ℕ → List ℕ
held_of None bytes = bytes
held_of (Some b) bytes = drop (b.size - 4) bytes

-- how many bytes wait for more where these are held
abbrev pub waiting_by : Option Skipped → List ℕ → ℕ
waiting_by None held = length held
waiting_by (Some b) held = b.came

-- a skipped block is not whole, and those of its last four bytes that came are held
pub record IsHeld (b : Skipped) (held : List ℕ) : Type 0 where
  pub long : 4 ≤ b.size
  pub cut : b.came < b.size
  pub last : length held ≡ b.came - (b.size - 4)

-- what is held
abbrev pub IsHeldBy : Option Skipped → List ℕ → Type 0
IsHeldBy None held = ⊤
IsHeldBy (Some b) held = IsHeld b held
