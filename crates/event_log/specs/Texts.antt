-- The texts of a row: its message and what stands behind it.
use Rattle.std.specs.Prelude.{ℕ, ◌-◌, ◌<◌, ◌≤◌, List, ◌++◌, length, replicate, All}
use Rattle.std.specs.Int.{IsInRange}

-- at most 64 bytes that print, without a space
pub record IsMessageText (text : List ℕ) : Type 0 where
  pub short : length text ≤ 64
  pub bytes : All (λ c. IsInRange 33 126 c) text

-- such a message of one byte at least
pub record IsWordKey (text : List ℕ) : Type 0 where
  pub some : 0 < length text
  pub message : IsMessageText text

-- at most 200 bytes that print
pub record IsLogText (text : List ℕ) : Type 0 where
  pub short : length text ≤ 200
  pub bytes : All (λ c. IsInRange 32 126 c) text

-- a text in 64 bytes
abbrev pub padded_text : List ℕ → List ℕ
padded_text text = text ++ replicate (64 - length text) 0
