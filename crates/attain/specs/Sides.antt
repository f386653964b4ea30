-- The two ends of an interval: what differs between them.
use Rattle.std.specs.Prelude.{ℕ, Bool, true, false, List, codes, ℤ, pos, ◌-ℤ◌, ◌≤ℤ◌}
use Rattle.problem_model.specs.Executions.{at}
use Rattle.problem_model.specs.Rows.{IsGreatestLead, IsLeastLead, least_differences}
use Rattle.problem_model.specs.Tables.{ArcTable, reversed_table}
use Rattle.problem_model.specs.Parents.{Cells}
use Rattle.sync_graph.specs.Graph.{GraphLists, table_of}
use Rattle.problem.specs.Listing.{Listed}
use Rattle.attain.specs.declared.side.Side.{Side}
use Rattle.attain.specs.declared.side.Side.TheVariants.{Upper, Lower}
use Rattle.attain.specs.Written.{WrittenEnd, IsUpperWritten, IsLowerWritten}

-- whether it is the upper end: its row is one from its node, and the clocks inside its cut are known
abbrev pub is_upper : Side → Bool
is_upper Upper = true
is_upper Lower = false

-- the word of its part
abbrev pub part : Side → List ℕ
part Upper = codes "upper"
part Lower = codes "lower"

-- the word for no limit
abbrev pub unlimited : Side → List ℕ
unlimited Upper = codes "+inf"
unlimited Lower = codes "-inf"

-- the arcs as its row follows them
abbrev pub facing : Side → GraphLists → ArcTable
facing Upper g = table_of g
facing Lower g = reversed_table (table_of g)

-- the difference that a distance of its row is
abbrev pub signed : Side → ℤ → ℤ
signed Upper distance = distance
signed Lower distance = pos 0 -ℤ distance

-- greatest or least differences, by the distances of its row
abbrev pub differences : Side → Cells → ℕ → ℤ
differences side c k = signed side (c.value k)

-- by how much the difference of a node exceeds its value
abbrev pub lead : Side → Cells → List ℤ → ℕ → ℤ
lead side c values k = differences side c k -ℤ at values k

-- the first is at least as far out as the second: as great for the upper end, as small for the lower
abbrev pub IsAsFar : Side → ℤ → ℤ → Type 0
IsAsFar Upper a b = b ≤ℤ a
IsAsFar Lower a b = a ≤ℤ b

-- K is the greatest lead, or for the lower end the least
abbrev pub IsLeadOf : Side → ℕ → Cells → List ℤ → ℤ → Type 0
IsLeadOf Upper nodes c values K = IsGreatestLead nodes c.known c.value values K
IsLeadOf Lower nodes c values K = IsLeastLead nodes c.known (least_differences c.value) values K

-- what is written of this end of the interval from node p to node q
abbrev pub IsEndWritten : Side → Listed → GraphLists → List ℤ → Cells → ℕ → ℕ → WrittenEnd → Type 0
IsEndWritten Upper l g values c p q end = IsUpperWritten l g values c p q end
IsEndWritten Lower l g values c p q end = IsLowerWritten l g values c p q end
