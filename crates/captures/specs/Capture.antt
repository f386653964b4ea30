-- Captures as whole streams of bytes: what they stand for, and how they are refused.
use Rattle.std.specs.Prelude.{◌≡◌, ℕ, List, []}
pub use Rattle.packets.specs.Packets.{Seen}
pub use Rattle.packets.specs.Passed.{none_passed, passed_count}
pub use Rattle.packets.specs.Dropped.{none_dropped, saturated}
pub use Rattle.packets.specs.declared.dropped.Dropped.{Dropped}
pub use Rattle.packets.specs.declared.passed.Passed.{Passed}
pub use Rattle.captures.specs.Formats.{IsFault}
use Rattle.captures.specs.Formats.{Formatted, IsFormatted, formatted_dropped, formatted_packets, formatted_passed, formatted_rest}

-- what a stream says: its packets, how many more were passed over, how many were dropped before they were captured, and the bytes
-- behind them, which wait for more
pub record Capture : Type 0 where
  pub packets : List Seen
  pub passed : Passed
  pub dropped : Dropped
  pub rest : List ℕ

-- nothing yet
abbrev pub nothing : Capture
nothing = record { packets = []; passed = none_passed; dropped = none_dropped; rest = [] }

-- what a capture says, whatever format it is in
abbrev pub of_format : Formatted → Capture
of_format c = record { packets = formatted_packets c; passed = formatted_passed c; dropped = formatted_dropped c; rest = formatted_rest c }

-- the stream stands for this capture
pub record Reads (s : List ℕ) (c : Capture) : Type 0 where
  pub read : Formatted
  pub reads : IsFormatted s read
  pub says : c ≡ of_format read
