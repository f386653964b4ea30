-- Packets that a test may arrange and write.
use Rattle.std.specs.Prelude.{◌≤◌, List, length, All, pos, ◌≤ℤ◌}
use Rattle.report.specs.Merging.{AreApart}
use Rattle.mergecap.specs.declared.stored.Stored.{Stored}
use Rattle.mergecap.specs.MergedCapture.{IsShort, merge_keys}
use Rattle.mergecap.specs.Packets.{all_timed}

-- they differ, since none has a number above their count; their times are not below 0, and none has too many bytes
pub record AreReady (kept : List Stored) : Type 0 where
  pub differ : AreApart (merge_keys (all_timed kept))
  pub counted : All (λ (s : Stored). s.n ≤ length kept) kept
  pub times : All (λ (s : Stored). pos 0 ≤ℤ s.value) kept
  pub short : All IsShort (all_timed kept)
