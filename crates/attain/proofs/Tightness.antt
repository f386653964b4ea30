-- What is written of the ends of an interval, by the rows of its first event and a listing, is a certificate that shows them.
use Rattle.std.proofs.Common.{◌≡◌, ◌<◌, ℕ, List, length, slice_get, Some, arith}
use Rattle.std.specs.Prelude.{ℤ}
use Rattle.std.proofs.lemmas.Option.{slice_get_within}
use Rattle.problem_model.specs.Problem.{ProblemLists}
use Rattle.problem_model.specs.Nodes.{Reading}
use Rattle.problem_model.specs.Parents.{Cells, IsRow}
use Rattle.problem_model.specs.Tables.{reversed_table}
use Rattle.sync_graph.specs.Graph.{GraphLists, IsGraph, table_of}
use Rattle.sync_graph.specs.InForce.{IsEarliestOf}
use Rattle.problem.specs.Listing.{Listed}
use Rattle.problem_graph.specs.ListedStanding.{StandsForListed}
use Rattle.attain.specs.Tight.{IsTightText}
use Rattle.attain.specs.Written.{WrittenEnd, written_ends, IsUpperWritten, IsLowerWritten}
use Rattle.attain.proofs.EndTexts.{ends_listed}
use Rattle.attain.proofs.LowerTightness.{lower_shown}
use Rattle.problem_graph.proofs.NodeNumbers.{events_count, event_by}
use Rattle.attain.proofs.Sizes.{heights, heights_towards}
use Rattle.attain.proofs.SmallEnds.{upper_small, lower_small}
use Rattle.attain.proofs.UpperTightness.{upper_shown}

module _ (l : Listed) (p : ProblemLists) (readings : List Reading) (g : GraphLists) (values : List ℤ) (from to : ℕ) (outward towards : Cells) where
  pub tight : StandsForListed l p readings g → IsGraph g → IsEarliestOf g values
      → IsRow (length g.nodes) (table_of g) from outward → IsRow (length g.nodes) (reversed_table (table_of g)) from towards
      → (first second j k : ℕ) → slice_get l.events first ≡ Some (j, from) → slice_get l.events second ≡ Some (k, to)
      → (upper lower : WrittenEnd) → IsUpperWritten l g values outward from to upper → IsLowerWritten l g values towards from to lower
      → IsTightText p readings first second (written_ends l j k upper lower)
  tight stands is e row back first second j k here here' upper lower is_upper is_lower =
      let there : first < length p.events = omega (arith, slice_get_within l.events first (j, from) here, events_count l p readings g stands) in
      let there' : second < length p.events = omega (arith, slice_get_within l.events second (k, to) here', events_count l p readings g stands) in
      let own = event_by l p readings g stands first j from here in
      let by = event_by l p readings g stands second k to here' in
      let above = upper_shown l p readings g stands is values e from first own outward row to second by there there' upper is_upper in
      let below = lower_shown l p readings g stands is values e from first own towards back to second by there there' lower is_lower in (
        above.0,
        below.0,
        record {
          upper_of = above.2;
          lower_of = below.2;
          upper_shown = above.3;
          lower_shown = below.3;
          upper_as = above.4;
          lower_as = below.4;
          upper_small = upper_small l p readings g stands is values outward (heights g is values e from outward row) from to upper above.0 above.1 is_upper;
          lower_small = lower_small l p readings g stands is values towards (heights_towards g is values e from towards back) from to lower below.0 below.1 is_lower;
        },
        ends_listed l p readings stands.listed j k first second (from, here) (to, here') upper lower above.0 below.0 above.1 below.1,
      )
