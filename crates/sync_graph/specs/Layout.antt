-- Lists that lie in one table.
use Rattle.std.specs.Prelude.{◌≡◌, ℕ, ◌+◌, ◌<◌, ◌≤◌, ◌⊎◌, List, length, take, drop, All, AllPairs}
use Rattle.sync_graph.specs.declared.lists.Span.{Span}

-- the entries of a list
abbrev pub entries_of : List ℕ → Span → List ℕ
entries_of table s = take s.len (drop s.start table)

-- the list is no longer than its room, which lies within the table
pub record LiesWithin (table : List ℕ) (s : Span) : Type 0 where
  pub len : s.len ≤ s.room
  pub room : s.start + s.room ≤ length table

-- the rooms of both have no place in common
abbrev pub AreDisjointSpans : Span → Span → Type 0
AreDisjointSpans s t = (s.start + s.room ≤ t.start) ⊎ (t.start + t.room ≤ s.start)

-- each list lies within the table, and no two share a place
pub record IsLaidOut (spans : List Span) (table : List ℕ) : Type 0 where
  pub within : All (LiesWithin table) spans
  pub apart : AllPairs AreDisjointSpans spans

-- the list with a place left for one entry more: where it stood, or behind the whole table
pub record HasPlaceForOne (table : List ℕ) (s : Span) (table' : List ℕ) (s' : Span) : Type 0 where
  pub kept : take (length table) table' ≡ table
  pub within : LiesWithin table' s'
  pub entries : entries_of table' s' ≡ entries_of table s
  pub len : s'.len ≡ s.len
  pub free : s'.len < s'.room
  pub stands : ((s'.start ≡ s.start) × (s'.room ≡ s.room)) ⊎ (length table ≤ s'.start)
