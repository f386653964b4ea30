-- The numbers that a trial draws, by a linear congruential generator.
use Rattle.std.specs.Prelude.{ℕ, zero, suc, ◌+◌, ◌*◌, ◌/◌, ◌%◌, ◌^◌}

-- the state behind another
abbrev pub next_state : ℕ → ℕ
next_state state = (state * 6364136223846793005 + 1442695040888963407) % 2 ^ 64

-- the number below the limit that is drawn where the generator comes to this state
abbrev pub drawn : ℕ → ℕ → ℕ
drawn state limit = state / 2 ^ 33 % limit

-- the state after so many draws, where the first one begins at the seed
unfoldable pub state_after : ℕ → ℕ → ℕ
state_after seed zero = seed
state_after seed (suc draws) = next_state (state_after seed draws)

-- a number below the limit, by how many were drawn before
abbrev pub draw : ℕ → ℕ → ℕ → ℕ
draw seed before limit = drawn (state_after seed (before + 1)) limit
