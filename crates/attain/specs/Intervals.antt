-- The certificate of the interval between two events, as it is written by the rows of the first one.
use Rattle.std.specs.Prelude.{◌≡◌, ℕ, List, [], ◌∷◌, ◌++◌, slice_get, Some, codes, ℤ}
use Rattle.line_format.specs.Words.{line_of}
use Rattle.problem_model.specs.Parents.{Cells}
use Rattle.row_pool.specs.Row.{cells_of}
use Rattle.sync_graph.specs.Graph.{GraphLists}
use Rattle.problem.specs.Listing.{Listed, name_at}
use Rattle.cert.specs.Listed.{certified}
use Rattle.attain.specs.declared.side.Side.{Side}
use Rattle.attain.specs.Written.{WrittenEnd, written_end, IsUpperWritten, IsLowerWritten}
use Rattle.attain.specs.RowLists.{RowLists, cells_for}
use Rattle.attain.specs.Sides.{part, unlimited, IsEndWritten}

-- the event of this number is the node
abbrev pub IsEventOn : Listed → ℕ → ℕ → Type 0
IsEventOn l event node = (place : ℕ) × (slice_get l.events place ≡ Some (event, node))

-- the text is that of one end of the interval from node p to node q
abbrev pub IsEndText : Side → Listed → GraphLists → List ℤ → Cells → ℕ → ℕ → List ℕ → Type 0
IsEndText side l g values c p q text = (end : WrittenEnd) × IsEndWritten side l g values c p q end × (text ≡ written_end l (part side) (unlimited side) end)

-- the lines name the events of two nodes and give both ends of the interval between them, the upper one by a row from the
-- first, the lower one by a row towards it
pub record IsIntervalByRows (l : Listed) (g : GraphLists) (values : List ℤ) (from to : Cells) (p q : ℕ) (lines : List ℕ) : Type 0 where
  pub first : ℕ
  pub second : ℕ
  pub first_on : IsEventOn l first p
  pub second_on : IsEventOn l second q
  pub upper : WrittenEnd
  pub lower : WrittenEnd
  pub upper_is : IsUpperWritten l g values from p q upper
  pub lower_is : IsLowerWritten l g values to p q lower
  pub lines_are : lines ≡ line_of (codes "ends" ∷ name_at l.event_names first ∷ name_at l.event_names second ∷ [])
      ++ written_end l (codes "upper") (codes "+inf") upper ++ written_end l (codes "lower") (codes "-inf") lower

-- the text is the certificate with such lines
abbrev pub IsIntervalText : Listed → GraphLists → List ℤ → Cells → Cells → ℕ → ℕ → List ℕ → Type 0
IsIntervalText l g values from to p q text = (lines : List ℕ) × IsIntervalByRows l g values from to p q lines × (text ≡ certified lines)

-- ---- by the rows of the first node
-- the text is that of one end of the interval to node q
abbrev pub IsEndBy : Side → Listed → RowLists → ℕ → List ℕ → Type 0
IsEndBy side l r q text = IsEndText side l r.graph r.values (cells_for side r) r.node q text

-- the lines are those of the interval to node q
abbrev pub AreLinesBy : Listed → RowLists → ℕ → List ℕ → Type 0
AreLinesBy l r q lines = IsIntervalByRows l r.graph r.values (cells_of r.from) (cells_of r.to) r.node q lines

-- the text is the certificate with such lines
abbrev pub IsTextBy : Listed → RowLists → ℕ → List ℕ → Type 0
IsTextBy l r q text = IsIntervalText l r.graph r.values (cells_of r.from) (cells_of r.to) r.node q text
