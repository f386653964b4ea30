-- The names of events and clocks.
use Rattle.std.specs.Prelude.{ℕ, ◌-◌, ◌<◌, ◌≤◌, List, ◌++◌, length, replicate, All, Bool, IsTrue, ◌||◌, ◌&&◌, ◌==◌, nat_le}

-- letters, digits, `.`, `_` and `-`
abbrev pub is_clock_byte : ℕ → Bool
is_clock_byte c = (nat_le 48 c && nat_le c 57) || (nat_le 65 c && nat_le c 90) || (nat_le 97 c && nat_le c 122) || (c == 46) || (c == 95) || (c == 45)

-- these and `#`
abbrev pub is_event_byte : ℕ → Bool
is_event_byte c = is_clock_byte c || (c == 35)

-- 1 to 48 of these bytes
pub record IsEventName (text : List ℕ) : Type 0 where
  pub some : 0 < length text
  pub short : length text ≤ 48
  pub bytes : All (λ c. IsTrue (is_event_byte c)) text

-- 1 to 32 bytes of a clock's name
pub record IsClockName (text : List ℕ) : Type 0 where
  pub some : 0 < length text
  pub short : length text ≤ 32
  pub bytes : All (λ c. IsTrue (is_clock_byte c)) text

-- a text in 48 bytes, with zeros behind it
abbrev pub padded_name : List ℕ → List ℕ
padded_name text = text ++ replicate (48 - length text) 0
