-- A sink that holds some bytes before it passes them on.
use Rattle.std.specs.Prelude.{◌≡◌, ℕ, ◌≤◌, List, ◌++◌, length, take, Option, Some, None, Result, OnOk, OnErr}
use Rattle.ports.specs.Content.{SinkTold, Rose}

-- the sink below, the bytes that it is not given yet, and how many there is room for
pub record Gathered (O : Type 0) : Type 0 where
  pub below : O
  pub held : List ℕ
  pub room : ℕ

-- a piece is held, and the sink below is as it was
abbrev pub HoldsPiece : {O : Type 0} → List ℕ → Gathered O → Gathered O → Type 0
HoldsPiece piece old new = (new.below ≡ old.below) × (new.held ≡ old.held ++ piece)

-- the bytes written below, if that tells them, and those held behind them
abbrev pub behind : Option (List ℕ) → List ℕ → Option (List ℕ)
behind None held = None
behind (Some written) held = Some (written ++ held)

-- what is told over a sink that tells this, with these bytes held
abbrev pub with_held : SinkTold → List ℕ → SinkTold
with_held below held = record { written = behind below.written held; faults = below.faults }

-- just the bytes that were told are written, where they were told
abbrev pub HasWhole : Option (List ℕ) → Option (List ℕ) → Type 0
HasWhole None now = Unit {0}
HasWhole (Some told) now = now ≡ Some told

-- a front of the bytes that were told is written, no shorter than what was written before, where they were told
abbrev pub HasFront : Option (List ℕ) → Option (List ℕ) → Option (List ℕ) → Type 0
HasFront (Some before) (Some told) now = (k : ℕ) × (length before ≤ k) × (k ≤ length told) × (now ≡ Some (take k told))
HasFront before told now = Unit {0}

-- what is held is passed on: the sink below has all that was told, or a front of it where a write failed, and then its
-- count of faults rose. It never falls
pub record Finishes {E : Type 0} (before told now : SinkTold) (result : Result (Unit {0}) E) : Type 0 where
  pub whole : OnOk result (HasWhole told.written now.written)
  pub front : OnErr result (HasFront before.written told.written now.written)
  pub cause : OnErr result (Rose told.faults now.faults)
  pub no_fall : told.faults ≤ now.faults
