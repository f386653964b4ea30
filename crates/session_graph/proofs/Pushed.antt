-- Events that are pushed to the roster and have not entered yet, and events that all have.
use Rattle.std.proofs.Common.{◌≡◌, ◌⊎◌, ◌<◌, ◌≤◌, ◌+◌, ◌*◌, ℕ, zero, suc, Bool, true, List, [], ◌∷◌, ◌++◌, Some, None, length, map, set, slice_get, Contains, refl, sym, ◌∙◌, ap, subst, arith, inl, inr, length-append}
use Rattle.std.specs.Prelude.{nat_lt, slice_set}
use Rattle.std.specs.List.{range_with_len}
use Rattle.std.proofs.lemmas.Bool.{cases_eq}
use Rattle.std.proofs.lemmas.Bool.Decides.{nat_tests}
use Rattle.std.proofs.lemmas.List.{length-map, get_or-set_same, get_or-set_other}
use Rattle.std.proofs.lemmas.Option.{none-some, same_Some, slice_get_within}
use Rattle.problem_model.specs.declared.items.Event.{Event}
use Rattle.problem_model.specs.declared.items.Message.{Message}
use Rattle.problem_model.specs.declared.items.Node.TheVariants as nodes
use Rattle.problem_model.specs.Problem.{ProblemLists}
use Rattle.problem.proofs.ListedNodes.{map_at}
use Rattle.sync_graph.specs.Graph.{GraphLists}
use Rattle.problem_graph.specs.Standing.{HasNode}
use Rattle.solver.specs.Solver.{SolverLists}
use Rattle.traces.specs.Seen.{Seen}
use Rattle.traces.proofs.Lists.{place_in}
use Rattle.roster.specs.declared.came.Came.{Came}
use Rattle.roster.specs.Groups.{group_at}
use Rattle.roster.specs.Readings.{Stamped, HasStamp}
use Rattle.roster.specs.Roster.{RosterLists, IsRoster, IsGrown, came_from}
use Rattle.roster.proofs.Holding.{holds_more}
use Rattle.roster.proofs.Pushing.{get_left, get_cases}
use Rattle.roster.proofs.Telling.{among}
use Rattle.roster.specs.Entered.{all_events, events_below}
use Rattle.roster.specs.Rosters.{named_event, problem_by_number, KnowsNodes}
use Rattle.roster.proofs.Loop.{grown_alike}
use Rattle.session_graph.specs.Kept.{KnowsMessages}
use Rattle.session_graph.specs.Growth.{Gains, KeepsNodesThere}
use Rattle.session_graph.specs.UnderWay.{IsChangeUnderWay, KnowsNodesThere, IsEntering}
use Rattle.session_graph.proofs.Both.{each_in}
use Rattle.session_graph.proofs.Entered.{map_back, ends_below, grown_before, one_reading, tells_still}

-- what a group has it has with more behind one of them
group_more : (groups : List (List ℕ)) (label : ℕ) (more : List ℕ) (l k w : ℕ) → slice_get (group_at groups l) k ≡ Some w → slice_get (group_at (set groups label (group_at groups label ++ more)) l) k ≡ Some w
group_more groups label more l k w at = elim (cases_eq l label) [
  | inl same ↦ (
      let at' : slice_get (group_at groups label) k ≡ Some w = subst (λ (j : ℕ). slice_get (group_at groups j) k ≡ Some w) same at in
      let inside : label < length groups = inside_of groups label k w at' in
      ap (λ (j : ℕ). slice_get (group_at (set groups label (group_at groups label ++ more)) j) k) same
      ∙ ap (λ (g : List ℕ). slice_get g k) (get_or-set_same groups label (group_at groups label ++ more) [] inside) ∙ get_left (group_at groups label) more k w at')
  | inr other ↦ ap (λ (g : List ℕ). slice_get g k) (get_or-set_other groups label l (group_at groups label ++ more) [] other) ∙ at
]
  where
    inside_of : (rs : List (List ℕ)) (k j : ℕ) (s : ℕ) → slice_get (group_at rs k) j ≡ Some s → k < length rs
    inside_of [] k j s at' = absurd (none-some s at')
    inside_of (x ∷ rs) zero j s at' = omega arith
    inside_of (x ∷ rs) (suc k) j s at' = (let inside = inside_of rs k j s at' in omega (arith, inside))

is_below : (v n : ℕ) → v < n → nat_lt v n ≡ true
is_below v n less = grind (arith, nat_tests)

-- events that come are no ends yet
no_partner : (label n : ℕ) (stamps : List ℕ) (k : ℕ) (e : Came) → slice_get (came_from label n stamps) k ≡ Some e → e.partner ≡ None
no_partner label n [] k e at = absurd (none-some e at)
no_partner label n (stamp ∷ stamps) zero e at =
    let first : Came = record { stamp = stamp; label = label; number = n; node = 0; partner = None } in
    ap (λ (x : Came). x.partner) (sym (same_Some first e at))
no_partner label n (stamp ∷ stamps) (suc k) e at = no_partner label (n + 1) stamps k e at

came_many : (label n : ℕ) (stamps : List ℕ) → length (came_from label n stamps) ≡ length stamps
came_many label n [] = refl
came_many label n (stamp ∷ stamps) = ap suc (came_many label (n + 1) stamps)

-- ---- behind the push
module _ (old new : RosterLists) (is : IsRoster old) (is' : IsRoster new) (label : ℕ) (stamps : List ℕ) (more : IsGrown old new label stamps) where
  abbrev fresh : List Came
  fresh = came_from label (length (group_at old.under label) + 1) stamps

  pub came_count : length new.came ≡ length old.came + length stamps
  came_count = ap (λ (cs : List Came). length cs) more.came ∙ length-append old.came fresh ∙ ap (λ (n : ℕ). length old.came + n) (came_many label (length (group_at old.under label) + 1) stamps)

  came_old : (w : ℕ) (y : Came) → slice_get old.came w ≡ Some y → slice_get new.came w ≡ Some y
  came_old w y at = ap (λ (cs : List Came). slice_get cs w) more.came ∙ get_left old.came fresh w y at

  came_cases : (w : ℕ) (y : Came) → slice_get new.came w ≡ Some y → (slice_get old.came w ≡ Some y) ⊎ ((k : ℕ) × (w ≡ length old.came + k) × (slice_get fresh k ≡ Some y))
  came_cases w y at = get_cases old.came fresh w y (ap (λ (cs : List Came). slice_get cs w) (sym more.came) ∙ at)

  -- what the roster has gained behind the push, and still when events have entered
  pub pushed_gains : (g : GraphLists) (last : RosterLists) → KnowsNodes old g → KeepsNodesThere g new last → Gains label stamps old last
  pushed_gains g last knows keeps = record {
    declaration = keeps.declaration ∙ more.declaration;
    count = keeps.count ∙ came_count;
    events = λ w y at. keeps.events w y (came_old w y at) (y.node, knows.events w y at);
    readings = λ c t has. keeps.readings c t (more.readings c t has) (t.1, knows.readings c t has);
    under = λ id w (k, is_k, at).
        (k, is_k, ap (λ (us : List (List ℕ)). slice_get (group_at us id.label) k) (keeps.under ∙ more.under) ∙ group_more old.under label (range_with_len (length old.came) (length stamps)) id.label k w at);
    holds = λ seen own rest holds at same. (
        let grown : IsGrown old new label (map (λ (t : Seen). t.stamp) rest) = subst (λ (xs : List ℕ). IsGrown old new label xs) (sym same) more in
        keeps.holds (slice_set seen label (own ++ rest)) (holds_more old new label seen own rest is grown holds at));
  }

  -- ---- the graph has not changed
  module _ (messages : List Message) (s : SolverLists) (way : IsChangeUnderWay messages old s) where
    pub event_before : (w : ℕ) → HasNode s.graph (nodes.Event w) → w < length old.came
    event_before w has =
        let x = way.grown.grown.nodes (nodes.Event w) has in
        let inside : w < length (map (named_event old.declaration) old.came) = slice_get_within (map (named_event old.declaration) old.came) w x.0 x.1.0 in
        omega (arith, inside, length-map old.came (named_event old.declaration))

    pub before_there : (w : ℕ) → w < length old.came → HasNode s.graph (nodes.Event w)
    before_there w less =
        let at = slice_get_some old.came w less in
        (at.0.node, way.grown.knows.events w at.0 at.1)
      where
        slice_get_some : {X : Type 0} (xs : List X) (k : ℕ) → k < length xs → (x : X) × (slice_get xs k ≡ Some x)
        slice_get_some [] k inside = absurd (omega (arith, inside))
        slice_get_some (x ∷ xs) zero inside = (x, refl)
        slice_get_some (x ∷ xs) (suc k) inside = slice_get_some xs k (omega (arith, inside))

    shown : (c t : ℕ) → HasNode s.graph (nodes.Reading c t) → HasStamp (group_at old.readings c) t
    shown c t has =
        let read = way.grown.grown.nodes (nodes.Reading c t) has in
        let y = map_back (named_event old.declaration) old.came read.0 read.1 read.2.0 in
        is.on_clocks.every c t (y.0, among old.came read.0 y.0 y.1, ap (λ (z : Event). z.clock) y.2 ∙ read.3, ap (λ (z : Event). z.stamp) y.2 ∙ read.4)

    knows_there : KnowsNodesThere new s.graph
    knows_there = record {
      events = λ w y at has. elim (came_cases w y at) [
        | inl before ↦ way.grown.knows.events w y before
        | inr (k, is_k, behind) ↦ absurd (let less = event_before w has in omega (arith, less, is_k))
      ];
      readings = λ c t has there. (
          let was = shown c t.0 there in
          let same : (t.0, was.0) ≡ t = one_reading (group_at new.readings c) (is'.on_clocks.rise c) (t.0, was.0) t (more.readings c (t.0, was.0) was.1) has refl in
          subst (λ (z : Stamped). slice_get s.graph.nodes z.1 ≡ Some (nodes.Reading c z.0)) same (way.grown.knows.readings c (t.0, was.0) was.1));
    }

    tells_there : KnowsMessages new messages s.graph
    tells_there =
        tells_still old new messages s.graph s.graph (λ w y at. (y, came_old w y at, refl))
        (λ w y p at partner. elim (came_cases w y at) [
          | inl before ↦ (y, before, partner)
          | inr (k, is_k, behind) ↦ absurd (none-some p (sym (no_partner label (length (group_at old.under label) + 1) stamps k y behind) ∙ partner))
        ])
        (λ k on. (on, refl)) way.grown.tells

    pub begins : IsEntering (events_below (length old.came)) messages new s
    begins = record {
      current = way.current;
      grown = grown_before old new label stamps more messages s.graph way.grown.grown;
      once = way.grown.once;
      knows = knows_there;
      tells = tells_there;
      among = λ m has. (
          let ends = ends_below old messages all_events s.graph way.grown.grown way.grown.tells (λ n has'. (refl, refl)) m has in
          (is_below m.send (length old.came) ends.0, is_below m.receive (length old.came) ends.1));
    }

-- ---- all have entered
module _ (r : RosterLists) (is : IsRoster r) (entered : ℕ → Bool) (messages : List Message) (s : SolverLists) (way : IsEntering entered messages r s) (all : (v : ℕ) → v < length r.came → HasNode s.graph (nodes.Event v)) where
  abbrev p : ProblemLists
  p = problem_by_number r messages

  long : length p.events ≡ length r.came
  long = length-map r.came (named_event r.declaration)

  entered_all : (v : ℕ) → v < length r.came → entered v ≡ true
  entered_all v inside = let x = way.grown.nodes (nodes.Event v) (all v inside) in x.1.1

  ends : (m : Message) → Contains messages m → (m.send < length r.came) × (m.receive < length r.came)
  ends m has = ends_below r messages entered s.graph way.grown way.tells way.among m has

  knows_nodes : KnowsNodes r s.graph
  knows_nodes = record {
    events = λ v e at. way.knows.events v e at (all v (slice_get_within r.came v e at));
    readings = λ c t has. (
        let stamped = is.on_clocks.each c t.0 (t.1, has) in
        let k = place_in r.came stamped.0 stamped.1 in
        way.knows.readings c t has
        (way.grown.every_node (nodes.Reading c t.0)
        (k.0, named_event r.declaration stamped.0, (map_at (named_event r.declaration) r.came k.0 stamped.0 k.1, entered_all k.0 (slice_get_within r.came k.0 stamped.0 k.1)), stamped.2, stamped.3)));
  }

  pub ends_way : length s.graph.nodes ≤ 2 * length r.came → IsChangeUnderWay messages r s
  ends_way few = record {
    current = way.current;
    grown = record {
      grown = grown_alike p entered all_events (λ v inside. entered_all v (omega (arith, inside, long)))
          (each_in (λ (m : Message). m.send < length p.events) messages (λ m has. let x = (ends m has).0 in omega (arith, x, long)))
          (each_in (λ (m : Message). m.receive < length p.events) messages (λ m has. let x = (ends m has).1 in omega (arith, x, long))) [] s.graph way.grown;
      once = way.once;
      knows = knows_nodes;
      tells = way.tells;
    };
    nodes = few;
  }
