-- The text of the ends of all listed events says them of the events of a listed problem.
use Rattle.std.proofs.Common.{◌≡◌, ◌*◌, ℕ, zero, suc, List, [], ◌∷◌, ◌++◌, length, map, slice_get, Some, refl, sym, ◌∙◌, ap, subst, inl, arith}
use Rattle.std.specs.Prelude.{pos}
use Rattle.std.specs.List.{flat_map}
use Rattle.std.proofs.lemmas.List.{length-map}
use Rattle.std.proofs.lemmas.Option.{get_or_from_slice_get, none-some, same_Some}
use Rattle.problem_model.specs.declared.items.Event.{Event}
use Rattle.problem_model.specs.declared.items.Node.TheVariants as nodes
use Rattle.problem_model.specs.Problem.{ProblemLists}
use Rattle.problem.specs.Listing.{Listed, all_readings, name_at}
use Rattle.problem.proofs.OwnReadings.{own_readings}
use Rattle.problem_graph.specs.ListedStanding.{IsEventAt, StandsForListed}
use Rattle.problem_graph.proofs.NodeNumbers.{events_count}
use Rattle.row_pool.specs.declared.cell.Cell.{Cell}
use Rattle.intervals.specs.declared.ends.Ends.{Ends}
use Rattle.intervals.specs.Ends.{ends_of, shifted}
use Rattle.intervals.proofs.Times.{ends_are, source_ends}
use Rattle.repair.specs.Pairs.{IsPairIn}
use Rattle.solver.specs.Solver.{SolverLists}
use Rattle.solver.specs.Solution.{IsSolutionBy}
use Rattle.solver.proofs.Staying.{solved_now}
use Rattle.attain.specs.Ends.{AreRowsAt}
use Rattle.queries.specs.Asking.{IsSourceReading}
use Rattle.queries.specs.Clocks.{KeepsTime}
use Rattle.queries.specs.Replies.{Replies}
use Rattle.queries.proofs.ListedAnswers.{earliest_there}
use Rattle.queries.proofs.ListedPairs.{pair_fits, pair_of}
use Rattle.queries.proofs.Solutions.{event_below, event_by, reading_below, reading_by, reading_is}
use Rattle.replies.specs.AllTimes.{AreEndsSince, AreTimesBy, IsTimesText, ends_line, ends_lines}
use Rattle.session_answers.specs.Quantities.{TellsSince, TellsTime, pair_by, source_pair}
use Rattle.session_answers.specs.TimesTexts.{listed_lines, listed_times, times_head}
use Rattle.queries.proofs.KeptTimes.{by_each}
use Rattle.session_answers.proofs.RowPairs.{rows_told, source_told}

pub mapped_at : {A B : Type 0} (f : A → B) (xs : List A) (k : ℕ) (y : B) → slice_get (map f xs) k ≡ Some y → (x : A) × (slice_get xs k ≡ Some x) × (f x ≡ y)
mapped_at f [] k y at = absurd (none-some y at)
mapped_at f (x ∷ xs) zero y at = (x, refl, same_Some (f x) y at)
mapped_at f (x ∷ xs) (suc k) y at = mapped_at f xs k y at

-- ---- the text
-- the line of a listed event, by its name and its ends
pub line_is : (l : Listed) (e : ℕ × ℕ) (name : List ℕ) (ends other : Ends) → slice_get l.event_names e.0 ≡ Some name → ends ≡ other → ends_line name ends ≡ ends_line (name_at l.event_names e.0) other
line_is l e name ends other named same =
    ap (λ (n : List ℕ). ends_line n ends) (sym (get_or_from_slice_get l.event_names e.0 name [] named)) ∙ ap (ends_line (name_at l.event_names e.0)) same

lines_are : (names : List (List ℕ)) (ends : ℕ → Ends) (es : List (ℕ × ℕ)) (vs : List Event) → map (λ (e : ℕ × ℕ). name_at names e.0) es ≡ map (λ (v : Event). v.name) vs →
    flat_map (λ (e : ℕ × ℕ). ends_line (name_at names e.0) (ends e.1)) es ≡ ends_lines vs (map (λ (e : ℕ × ℕ). ends e.1) es)
lines_are names ends [] [] same = refl
lines_are names ends [] (v ∷ vs) same = absurd cc
lines_are names ends (e ∷ es) [] same = absurd cc
lines_are names ends (e ∷ es) (v ∷ vs) same =
    let one : name_at names e.0 ≡ v.name = cc in
    let rest : map (λ (e : ℕ × ℕ). name_at names e.0) es ≡ map (λ (v : Event). v.name) vs = cc in
    ap (λ (name : List ℕ). ends_line name (ends e.1) ++ flat_map (λ (e : ℕ × ℕ). ends_line (name_at names e.0) (ends e.1)) es) one
    ∙ ap (λ (text : List ℕ). ends_line v.name (ends e.1) ++ text) (lines_are names ends es vs rest)

module _ (l : Listed) (p : ProblemLists) (s : SolverLists) (solution : IsSolutionBy l p s) where
  stands : StandsForListed l p (all_readings p.events) s.graph
  stands = solution.stands (all_readings p.events) (own_readings p)

  count : length l.events ≡ length p.events
  count = events_count l p (all_readings p.events) s.graph stands

  -- the ends at each event's node are its ends, so the text is one of the problem's times
  pub times_are : (AreEnds : ℕ → Ends → Type 0) (ends : ℕ → Ends) → ((place node : ℕ) → IsEventAt l place node → AreEnds place (ends node)) → IsTimesText p AreEnds (listed_times l ends)
  times_are AreEnds ends are = record {
    all = map (λ (e : ℕ × ℕ). ends e.1) l.events;
    each = length-map l.events (λ (e : ℕ × ℕ). ends e.1) ∙ count;
    are = λ place value at. (
        let x = mapped_at (λ (e : ℕ × ℕ). ends e.1) l.events place value at in
        subst (AreEnds place) x.2 (are place x.0.1 (x.0.0, x.1)));
    is = ap (λ (n : ℕ). times_head n ++ listed_lines l ends) count ∙ ap (λ (text : List ℕ). times_head (length p.events) ++ text) (lines_are l.event_names ends l.events p.events stands.listed.events);
  }

  module _ (none : s.contradiction ≡ []) where
    -- the same as a reply, since there is an execution
    pub times_replied : (Says : List ℕ → Type 0) (text : List ℕ) → Says text → Replies p Says text
    times_replied Says text says =
        let some = earliest_there l p (all_readings p.events) (own_readings p) s solution none in
        inl ((some.0, some.2.execution), says)

    -- ---- by the rows of an event's node
    module _ (first : ℕ) (from to : List Cell) (rows : AreRowsAt s.graph first from to) where
      since_pair : (node : ℕ) → IsPairIn s.graph first node (pair_by from to node)
      since_pair node = rows_told s.graph solution.current.set_up.graph s.earliest.values (solved_now s solution.current none).earliest.execution first from to rows.from_node rows.to_node node

      module _ (start : ℕ) (at_start : IsEventAt l start first) where
        pub since_tells : (place node : ℕ) → IsEventAt l place node → TellsSince from to node
        since_tells place node at =
            let inside = event_below l p s solution start first at_start in
            let below = event_below l p s solution place node at in
            let wide = rows.cells_from in
            let wide' = rows.cells_to in
            record {
              from_inside = omega (arith, below, wide);
              to_inside = omega (arith, below, wide');
              fits = pair_fits l p s first node (pair_by from to node) solution none inside below (since_pair node);
            }

        pub since_told : (place node : ℕ) → IsEventAt l place node → AreEndsSince p start place (ends_of (pair_by from to node))
        since_told place node at =
            ends_are p (nodes.Event start) (nodes.Event place) (pair_by from to node)
            (pair_of l p (all_readings p.events) s first node (nodes.Event start) (nodes.Event place) (pair_by from to node) (own_readings p) solution
            (event_by l p s solution start first at_start) (event_by l p s solution place node at) (since_pair node))

        pub since_text : Replies p (IsTimesText p (AreEndsSince p start)) (listed_times l (λ (node : ℕ). ends_of (pair_by from to node)))
        since_text =
            let ends = λ (node : ℕ). ends_of (pair_by from to node) in
            times_replied (IsTimesText p (AreEndsSince p start)) (listed_times l ends) (times_are (AreEndsSince p start) ends since_told)

    -- ---- by those of the source's reading
    module _ (clock stamp : ℕ) (source : IsSourceReading l s clock stamp) where
      time_pair : (node : ℕ) → IsPairIn s.graph source.0.node node (source_pair s node)
      time_pair node = source_told s solution.current none source.0 source.1 node

      pub time_tells : (place node : ℕ) → IsEventAt l place node → TellsTime s node
      time_tells place node at =
          let inside = reading_below l p s solution clock stamp source.0.node source.2 in
          let below = event_below l p s solution place node at in
          record {
            current = solution.current;
            none = none;
            below = below;
            kept = λ gone. none-some source.0 (sym gone ∙ source.1);
            fits = pair_fits l p s source.0.node node (source_pair s node) solution none inside below (time_pair node);
          }

      time_told : KeepsTime p clock → (place node : ℕ) → IsEventAt l place node → AreTimesBy p clock place (shifted (pos (stamp * 1000000000)) (ends_of (source_pair s node)))
      time_told keeps place node at =
          by_each p clock stamp place keeps (reading_is l p s solution clock stamp source.0.node source.2) (shifted (pos (stamp * 1000000000)) (ends_of (source_pair s node)))
          (source_ends p clock stamp (nodes.Event place) (source_pair s node)
          (pair_of l p (all_readings p.events) s source.0.node node (nodes.Reading clock stamp) (nodes.Event place) (source_pair s node) (own_readings p) solution
          (reading_by l p s solution clock stamp source.0.node source.2) (event_by l p s solution place node at) (time_pair node)))

      pub time_text : KeepsTime p clock → Replies p (IsTimesText p (AreTimesBy p clock)) (listed_times l (λ (node : ℕ). shifted (pos (stamp * 1000000000)) (ends_of (source_pair s node))))
      time_text keeps =
          let ends = λ (node : ℕ). shifted (pos (stamp * 1000000000)) (ends_of (source_pair s node)) in
          times_replied (IsTimesText p (AreTimesBy p clock)) (listed_times l ends) (times_are (AreTimesBy p clock) ends (time_told keeps))
