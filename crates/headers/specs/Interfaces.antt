-- The interface that a frame was captured on.
use Rattle.std.specs.Prelude.{ℕ, ◌==◌, if◌then◌else◌, nat_lt, List, length, Option, Some, None}
use Rattle.headers.specs.Bytes.{word_at}

-- the index in a Linux cooked header of the second version, where its first eight bytes were captured
abbrev pub cooked_interface : List ℕ → Option ℕ
cooked_interface frame = if nat_lt (length frame) 8 then None else Some (word_at 4 frame)

-- the interface of a frame on this link: that index, and on each other link what its capture says
abbrev pub interface_of : ℕ → Option ℕ → List ℕ → Option ℕ
interface_of link told frame = if link == 276 then cooked_interface frame else told
