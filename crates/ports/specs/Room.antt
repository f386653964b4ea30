-- How long a line in a fixed buffer is at most.
use Rattle.std.specs.Prelude.{ℕ, List, length, ◌+◌, ◌≤◌}

-- the bytes of such a line: 512
abbrev pub line_room : ℕ
line_room = 512

-- there is room for n bytes more behind such a line
abbrev pub HasRoomBehind : List ℕ → ℕ → Type 0
HasRoomBehind line n = length line + n ≤ line_room
