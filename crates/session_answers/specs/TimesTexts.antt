-- The text of the ends of all listed events.
use Rattle.std.specs.Prelude.{ℕ, List, [], ◌∷◌, ◌++◌, length, codes}
use Rattle.std.specs.List.{flat_map}
use Rattle.atto.specs.Decimal.{decimal_of}
use Rattle.line_format.specs.Words.{line_of}
use Rattle.problem.specs.Listing.{Listed, name_at}
use Rattle.intervals.specs.declared.ends.Ends.{Ends}
use Rattle.replies.specs.AllTimes.{ends_line}

-- the line of the number of events
abbrev pub times_head : ℕ → List ℕ
times_head count = line_of (codes "times" ∷ decimal_of count ∷ [])

-- the lines of the listed events, by the ends at each node
abbrev pub listed_lines : Listed → (ℕ → Ends) → List ℕ
listed_lines l ends = flat_map (λ (e : ℕ × ℕ). ends_line (name_at l.event_names e.0) (ends e.1)) l.events

-- the whole text
abbrev pub listed_times : Listed → (ℕ → Ends) → List ℕ
listed_times l ends = times_head (length l.events) ++ listed_lines l ends
