-- Events that a test numbers.
use Rattle.std.specs.Prelude.{◌≡◌, ◌<◌, ◌+◌, ℕ, List, length, slice_index_or}
use Rattle.msg_match.specs.Groups.{SeenItem}

-- events are numbered from n on, in their order
abbrev pub AreNumberedFrom : ℕ → List SeenItem → Type 0
AreNumberedFrom n items = (k : ℕ) (d : SeenItem) → k < length items → (slice_index_or items k d).event ≡ n + k
