-- The certificate of an interval, as it is written.
use Rattle.std.proofs.Common.{◌≤◌, ◌∷◌, [], ◌++◌, ◌∙◌, ℕ, List, length, ap}
use Rattle.std.specs.Prelude.{ℤ, AllPairs, codes}
use Rattle.line_format.specs.Words.{line_of}
use Rattle.problem_model.specs.Parents.{Cells, IsRow}
use Rattle.problem_model.specs.Tables.{reversed_table}
use Rattle.sync_graph.specs.Graph.{GraphLists, table_of}
use Rattle.problem.specs.Listing.{Listed, name_at}
use Rattle.attain.specs.declared.side.Side.TheVariants.{Upper, Lower}
use Rattle.attain.specs.Written.{written_end}
use Rattle.attain.specs.Intervals.{IsEventOn, IsEndText, IsIntervalByRows}
use Rattle.attain.proofs.Parts.{end_there}

module _ (l : Listed) (g : GraphLists) (values : List ℤ) (from to : Cells) (p q : ℕ) where
  -- both parts behind the line that names the events
  abbrev pub both_parts : (first second : ℕ) → (upper lower : List ℕ) → List ℕ
  both_parts first second upper lower = line_of (codes "ends" ∷ name_at l.event_names first ∷ name_at l.event_names second ∷ []) ++ upper ++ lower

  pub interval_is : (first second : ℕ) → IsEventOn l first p → IsEventOn l second q → (upper lower : List ℕ) → IsEndText Upper l g values from p q upper → IsEndText Lower l g values to p q lower
      → IsIntervalByRows l g values from to p q (both_parts first second upper lower)
  interval_is first second on on' upper lower up down = record {
    first = first;
    second = second;
    first_on = on;
    second_on = on';
    upper = up.0;
    lower = down.0;
    upper_is = up.1;
    lower_is = down.1;
    lines_are = ap (λ (text : List ℕ). both_parts first second text lower) up.2 ∙ ap (both_parts first second (written_end l (codes "upper") (codes "+inf") up.0)) down.2;
  }

  -- there is such a certificate
  pub interval_there : IsRow (length g.nodes) (table_of g) p from → IsRow (length g.nodes) (reversed_table (table_of g)) p to → AllPairs (λ (r s : ℕ × ℕ × ℕ). r.0 ≤ s.0) l.readings
      → (event : ℕ) × IsEventOn l event p → (event : ℕ) × IsEventOn l event q → (lines : List ℕ) × IsIntervalByRows l g values from to p q lines
  interval_there row back rising first second =
      let up = end_there Upper l g values from p q row rising in
      let down = end_there Lower l g values to p q back rising in
      (both_parts first.0 second.0 up.0 down.0, interval_is first.0 second.0 first.1 second.1 up.0 down.0 up.1 down.1)
