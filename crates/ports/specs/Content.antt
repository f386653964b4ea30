-- What a source has left and what a sink holds, where they tell it.
use Rattle.std.specs.Prelude.{◌≡◌, ◌⊎◌, ℕ, ◌-◌, ◌^◌, ◌<◌, ◌≤◌, List, [], ◌++◌, length, take, drop, Option, Some, None, Result, OnOk, OnErr, IfOk, IsErrOf}

-- a count of faults rose, or stands at its last value, 2^64 - 1
abbrev pub Rose : ℕ → ℕ → Type 0
Rose old new = (old < new) ⊎ (new ≡ 2 ^ 64 - 1)

-- n bytes came out of a source into the front of a buffer, where the source tells what it has
abbrev pub TakesBytes : Option (List ℕ) → Option (List ℕ) → List ℕ → ℕ → Type 0
TakesBytes None new buf n = Unit {0}
TakesBytes (Some left) new buf n = (n ≤ length left) × (take n buf ≡ take n left) × (new ≡ Some (drop n left))
    × (n ≡ 0 → 0 < length buf → left ≡ [])

-- the bytes are appended to a sink, where it tells what it has
abbrev pub Appends : Option (List ℕ) → Option (List ℕ) → List ℕ → Type 0
Appends None new bytes = Unit {0}
Appends (Some old) new bytes = new ≡ Some (old ++ bytes)

-- some of the front of the bytes is appended, where the sink tells what it has
abbrev pub AppendsPrefix : Option (List ℕ) → Option (List ℕ) → List ℕ → Type 0
AppendsPrefix old new bytes = (k : ℕ) × (k ≤ length bytes) × Appends old new (take k bytes)

-- what a source tells: the bytes left, if it tells them, and how many reads have failed
pub record SourceTold : Type 0 where
  pub left : Option (List ℕ)
  pub faults : ℕ

-- what a sink tells: the bytes written, if it tells them, and how many writes have failed
pub record SinkTold : Type 0 where
  pub written : Option (List ℕ)
  pub faults : ℕ

-- a read took the first bytes off a source, or it failed, took none, and the count of faults rose
pub record TakesSome {E : Type 0} (old new : SourceTold) (before after : List ℕ) (result : Result ℕ E) : Type 0 where
  pub count : IfOk result (λ n. n ≤ length before)
  pub taken : IfOk result (λ n. TakesBytes old.left new.left after n)
  pub same : OnErr result (new.left ≡ old.left)
  pub cause : OnErr result (Rose old.faults new.faults)
  pub no_fall : old.faults ≤ new.faults

-- a write appended the first bytes of a piece, or it failed, appended none, and the count of faults rose
pub record WritesSome {E : Type 0} (piece : List ℕ) (old new : SinkTold) (result : Result ℕ E) : Type 0 where
  pub count : IfOk result (λ n. n ≤ length piece)
  pub some : IfOk result (λ n. 0 < length piece → 0 < n)
  pub appended : IfOk result (λ n. Appends old.written new.written (take n piece))
  pub same : OnErr result (new.written ≡ old.written)
  pub cause : OnErr result (Rose old.faults new.faults)
  pub no_fall : old.faults ≤ new.faults

-- a text is written: all of it, or a front of it where a write failed, and then the count of faults rose. It never
-- falls
pub record Writes {A E : Type 0} (text : List ℕ) (old new : SinkTold) (result : Result A E) : Type 0 where
  pub ok : OnOk result (Appends old.written new.written text)
  pub err : OnErr result (AppendsPrefix old.written new.written text)
  pub cause : OnErr result (Rose old.faults new.faults)
  pub no_fall : old.faults ≤ new.faults

-- a text of a kind is written, or a front of one where a write failed, which is this error, and then the count of
-- faults rose. Of other errors nothing is said but that the count does not fall
pub record WritesSuch {A E : Type 0} (Such : List ℕ → Type 0) (fault : E) (old new : SinkTold) (result : Result A E) : Type 0 where
  pub reply : OnOk result ((text : List ℕ) × Such text × Appends old.written new.written text)
  pub front : IsErrOf result fault → ((text : List ℕ) × Such text × AppendsPrefix old.written new.written text)
  pub cause : IsErrOf result fault → Rose old.faults new.faults
  pub no_fall : old.faults ≤ new.faults
