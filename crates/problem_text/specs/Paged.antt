-- Bytes that are held for a while, so that one write takes many pieces.
use Rattle.std.specs.Prelude.{◌≡◌, ℕ, ◌≤◌, List, ◌++◌, Result, OnOk, OnErr}
use Rattle.ports.specs.Content.{Appends, AppendsPrefix, Rose, SinkTold}

-- a piece comes behind the bytes that are held: a front of all these is written, and the rest is held then. Where a write failed,
-- a front is written, and the count of faults rose. It never falls
pub record Puts {A E : Type 0} (piece held holds : List ℕ) (old new : SinkTold) (result : Result A E) : Type 0 where
  pub ok : OnOk result ((gone : List ℕ) × (held ++ piece ≡ gone ++ holds) × Appends old.written new.written gone)
  pub err : OnErr result (AppendsPrefix old.written new.written (held ++ piece))
  pub cause : OnErr result (Rose old.faults new.faults)
  pub no_fall : old.faults ≤ new.faults
