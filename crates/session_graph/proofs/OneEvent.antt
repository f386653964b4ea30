-- One event of a roster enters: all that holds of the roster and the graph behind it.
use Rattle.std.proofs.Common.{◌≡◌, ◌≢◌, ◌⊎◌, ◌<◌, ◌≤◌, ◌+◌, ◌==◌, ◌||◌, ℕ, zero, suc, Bool, true, false, List, [], ◌∷◌, ◌++◌, Option, Some, None, length, map, get_or, set, slice_get, Contains, refl, sym, ◌∙◌, ap, subst, arith, inl, inr, length-append}
use Rattle.std.specs.Prelude.{IfSome}
use Rattle.std.proofs.lemmas.Bool.{cases_Bool, cases_eq}
use Rattle.std.proofs.lemmas.List.{length-set, get_or-set_same, get_or-set_other}
use Rattle.std.proofs.lemmas.List.Elements.{All-nil}
use Rattle.std.proofs.lemmas.Option.{none-some, same_Some, slice_get_within, get_or_from_slice_get}
use Rattle.problem_model.specs.declared.items.Clock.{Clock}
use Rattle.problem_model.specs.declared.items.Event.{Event}
use Rattle.problem_model.specs.declared.items.Message.{Message}
use Rattle.problem_model.specs.declared.items.StampBounds.{StampBounds}
use Rattle.problem_model.specs.declared.items.Node.{Node}
use Rattle.problem_model.specs.declared.items.Node.TheVariants as nodes
use Rattle.problem_model.specs.declared.items.Bound.{Bound}
use Rattle.problem_model.specs.declared.items.Bound.TheVariants.{Late, Early}
use Rattle.problem_model.specs.Problem.{ProblemLists, IsChained}
use Rattle.problem_model.specs.Bounds.{ClockAt, EventAt}
use Rattle.problem.proofs.ListedNodes.{map_at}
use Rattle.decl.specs.Declaration.{Declaration, follows_of}
use Rattle.decl.proofs.Following.{follows_lead, laters_differ}
use Rattle.sync_graph.specs.declared.arc.Arc.{Arc}
use Rattle.sync_graph.specs.Graph.{GraphLists, arc_at, with_node}
use Rattle.problem_graph.specs.Standing.{HasNode}
use Rattle.solver.specs.Solver.{SolverLists, HasRoom, with_new_node}
use Rattle.traces.specs.Seen.{Seen}
use Rattle.traces.specs.Traces.{clock_of}
use Rattle.traces.specs.Messages.{bounds_of}
use Rattle.traces.proofs.Members.{no_pairs}
use Rattle.traces.proofs.Lists.{place_in}
use Rattle.roster.specs.declared.came.Came.{Came}
use Rattle.roster.specs.Groups.{group_at}
use Rattle.roster.specs.Readings.{Stamped, HasStamp}
use Rattle.roster.specs.Roster.{RosterLists, IsRoster, HoldsEvents, SetsReading, event_at, id_of, no_event}
use Rattle.roster.proofs.Pushing.{get_left, get_right, get_cases}
use Rattle.roster.proofs.Telling.{among, set_here, set_elsewhere, holds_still, holds_restamped}
use Rattle.roster.specs.Entered.{and_event}
use Rattle.roster.specs.Growing.{IsGrowing, IsGrownTo}
use Rattle.roster.specs.Entering.{Enters, AreMessagesOf, AreNearest}
use Rattle.roster.specs.Once.{IsOn, HasEachOnce, HaveOwnEnds}
use Rattle.roster.specs.Rosters.{named_event, problem_by_number}
use Rattle.roster.proofs.Entry.{entered_now}
use Rattle.roster.proofs.Loop.{event_enters, both_enter}
use Rattle.roster.proofs.Once.{entered_once}
use Rattle.session_graph.specs.Kept.{KnowsMessages, KeepsRows}
use Rattle.session_graph.specs.Pushes.{Brings}
use Rattle.session_graph.specs.Links.{AreThere, AreBeside, bounds_beside}
use Rattle.session_graph.specs.declared.follows.Nearest.{Nearest}
use Rattle.session_graph.specs.Growth.{KeepsNodesThere}
use Rattle.session_graph.specs.UnderWay.{KnowsNodesThere, IsEntering}
use Rattle.session_graph.specs.Arrivals.{HaveCome}
use Rattle.session_graph.proofs.Bringing.{links_few}
use Rattle.session_graph.proofs.Extending.{extends_then, extends_by_nodes}
use Rattle.session_graph.proofs.Seeking.{there_by, beside_by}
use Rattle.session_graph.proofs.Entered.{map_back, told_named, tells_still, one_place}

pub none_behind : {X : Type 0} (xs : List X) → xs ++ [] ≡ xs
none_behind [] = refl
none_behind (x ∷ xs) = ap (λ v. x ∷ v) (none_behind xs)

-- a reading stays where another one is written
set_keeps : (readings : List (List Stamped)) (clock place : ℕ) (was now : Stamped) (c : ℕ) (t : Stamped) → slice_get (group_at readings clock) place ≡ Some was → Contains (group_at readings c) t → (c ≡ clock → t ≡ was → ⊥)
    → Contains (group_at (set readings clock (set (group_at readings clock) place now)) c) t
set_keeps readings clock place was now c t at has apart = elim (cases_eq c clock) [
  | inl same ↦ (
      let inside : clock < length readings = inside_of readings clock place was at in
      let own : Contains (group_at readings clock) t = subst (λ (k : ℕ). Contains (group_at readings k) t) same has in
      let i = place_in (group_at readings clock) t own in
      let other : i.0 ≢ place = (λ here'. apart same (same_Some t was (sym i.1 ∙ ap (slice_get (group_at readings clock)) here' ∙ at))) in
      let still : Contains (set (group_at readings clock) place now) t = among (set (group_at readings clock) place now) i.0 t (set_elsewhere (group_at readings clock) place i.0 now other ∙ i.1) in
      subst (λ (k : ℕ). Contains (group_at (set readings clock (set (group_at readings clock) place now)) k) t) (sym same)
      (subst (λ (rs : List Stamped). Contains rs t) (sym (get_or-set_same readings clock (set (group_at readings clock) place now) [] inside)) still))
  | inr other ↦ subst (λ (rs : List Stamped). Contains rs t) (sym (get_or-set_other readings clock c (set (group_at readings clock) place now) [] other)) has
]
  where
    inside_of : (rs : List (List Stamped)) (k j : ℕ) (s : Stamped) → slice_get (group_at rs k) j ≡ Some s → k < length rs
    inside_of [] k j s at' = absurd (none-some s at')
    inside_of (x ∷ rs) zero j s at' = omega arith
    inside_of (x ∷ rs) (suc k) j s at' = (let inside = inside_of rs k j s at' in omega (arith, inside))

-- the node of a reading is not there for an event
pub reading_new : (s s1 : SolverLists) (v place stamp : ℕ) → s1 ≡ with_new_node s (nodes.Event v) → (HasNode s.graph (nodes.Reading place stamp) → ⊥) → (k : ℕ) → slice_get s1.graph.nodes k ≡ Some (nodes.Reading place stamp) → ⊥
reading_new s s1 v place stamp is fresh k at =
    let own : slice_get (s.graph.nodes ++ nodes.Event v ∷ []) k ≡ Some (nodes.Reading place stamp) = ap (λ (z : SolverLists). slice_get z.graph.nodes k) (sym is) ∙ at in
    elim (get_cases s.graph.nodes (nodes.Event v ∷ []) k (nodes.Reading place stamp) own) [
      | inl before ↦ fresh (k, before)
      | inr (j, is_j, behind) ↦ only j behind
    ]
  where
    only : (j : ℕ) → slice_get (nodes.Event v ∷ []) j ≡ Some (nodes.Reading place stamp) → ⊥
    only zero at' = (let same : nodes.Event v ≡ nodes.Reading place stamp = same_Some (nodes.Event v) (nodes.Reading place stamp) at' in absurd (cc))
    only (suc j) at' = none-some (nodes.Reading place stamp) at'

-- room stays where nodes come
pub room_two : (s s1 s2 : SolverLists) (known : Bool) (v place stamp : ℕ) → s1 ≡ with_new_node s (nodes.Event v) → (known ≡ true → s2 ≡ s1) → (known ≡ false → s2 ≡ with_new_node s1 (nodes.Reading place stamp)) → (n : ℕ) → HasRoom n s → HasRoom n s2
room_two s s1 s2 true v place stamp is same new n room = subst (HasRoom n) (sym (same refl ∙ is)) (record { rows = room.rows; found = room.found; front = room.front })
room_two s s1 s2 false v place stamp is same new n room =
    subst (HasRoom n) (sym (new refl)) (subst (λ (z : SolverLists). HasRoom n (with_new_node z (nodes.Reading place stamp))) (sym is) (record { rows = room.rows; found = room.found; front = room.front }))

or_right : (a b : Bool) → b ≡ true → (a || b) ≡ true
or_right true b is = refl
or_right false b is = is

-- a stamp of a clock's nodes is one that the clock has shown
pub nodes_shown : (r : RosterLists) (is : IsRoster r) (entered : ℕ → Bool) (messages : List Message) (s : SolverLists) → IsEntering entered messages r s → (c t : ℕ) → HasNode s.graph (nodes.Reading c t) → HasStamp (group_at r.readings c) t
nodes_shown r is entered messages s way c t has =
    let read = way.grown.nodes (nodes.Reading c t) has in
    let y = map_back (named_event r.declaration) r.came read.0 read.1 read.2.0 in
    is.on_clocks.every c t (y.0, among r.came read.0 y.0 y.1, ap (λ (z : Event). z.clock) y.2 ∙ read.3, ap (λ (z : Event). z.stamp) y.2 ∙ read.4)

module _ (r : RosterLists) (is : IsRoster r) (v : ℕ) (e : Came) (at : slice_get r.came v ≡ Some e) (s : SolverLists) (absent : HasNode s.graph (nodes.Event v) → ⊥) (place : ℕ) (place_is : clock_of r.declaration (id_of e) ≡ place) where
  abbrev stamp : ℕ
  stamp = e.stamp

  inside : v < length r.came
  inside = slice_get_within r.came v e at

  pub own_shown : HasStamp (group_at r.readings place) e.stamp
  own_shown = subst (λ (k : ℕ). HasStamp (group_at r.readings k) stamp) place_is (is.on_clocks.every (clock_of r.declaration (id_of e)) stamp (e, among r.came v e at, refl, refl))

  abbrev x : Event
  x = named_event r.declaration e

  event_is : (messages : List Message) → EventAt (problem_by_number r messages) v x
  event_is messages = map_at (named_event r.declaration) r.came v e at

  -- the bounds of the entry, on a clock
  abbrev own_bounds : ℕ → Nearest → List Bound
  own_bounds c n = bounds_beside c stamp n ++ (Late v ∷ Early v ∷ [])

  abbrev there_on : ℕ → Type 0
  there_on c = HasNode s.graph (nodes.Reading c e.stamp)

  module _ (known : Bool) (n : Nearest) (has : known ≡ true → HasNode s.graph (nodes.Reading place e.stamp)) (fresh : known ≡ false → HasNode s.graph (nodes.Reading place e.stamp) → ⊥)
      (near : (p : ProblemLists) (y : Event) → p.follows ≡ follows_of r.declaration → y.clock ≡ place → y.stamp ≡ e.stamp → AreNearest p s.graph y n.below n.above n.earlier n.later)
      (lies : IfSome n.later (λ x. x.0 < length r.declaration.clocks)) where
    -- the reading of the event, whatever its name and its own bounds
    abbrev reads : Event
    reads = record { name = []; clock = place; stamp = e.stamp; bounds = None }

    beside : (messages : List Message) → AreBeside (problem_by_number r messages) place n
    beside messages = beside_by (problem_by_number r messages) s.graph reads n (near (problem_by_number r messages) reads refl refl refl)

    -- ---- nodes that come
    module _ (s1 s2 : SolverLists) (event_pushed : s1 ≡ with_new_node s (nodes.Event v)) (same_is : known ≡ true → s2 ≡ s1) (reading_is : known ≡ false → s2 ≡ with_new_node s1 (nodes.Reading place e.stamp)) where
      graph_of_event : s1.graph ≡ with_node s.graph (nodes.Event v)
      graph_of_event = ap (λ (z : SolverLists). z.graph) event_pushed

      graph_known : known ≡ true → s2.graph ≡ with_node s.graph (nodes.Event v)
      graph_known k = ap (λ (z : SolverLists). z.graph) (same_is k) ∙ graph_of_event

      graph_new : known ≡ false → s2.graph ≡ with_node (with_node s.graph (nodes.Event v)) (nodes.Reading place stamp)
      graph_new k = ap (λ (z : SolverLists). z.graph) (reading_is k) ∙ ap (λ (h : GraphLists). with_node h (nodes.Reading place stamp)) graph_of_event

      enters : Enters v x s.graph s2.graph
      enters = elim (cases_Bool known) [
        | inl k ↦ subst (Enters v x s.graph) (sym (graph_known k)) (event_enters v x s.graph (subst there_on (sym place_is) (has k)))
        | inr k ↦ subst (Enters v x s.graph) (sym (graph_new k) ∙ refl) (subst (λ (c : ℕ). Enters v x s.graph (with_node (with_node s.graph (nodes.Event v)) (nodes.Reading c stamp))) place_is (both_enter v x s.graph))
      ]

      pub entered_event : HasNode s2.graph (nodes.Event v)
      entered_event = enters.event

      pub entered_reading : HasNode s2.graph (nodes.Reading place e.stamp)
      entered_reading = subst (λ (c : ℕ). HasNode s2.graph (nodes.Reading c stamp)) place_is enters.reading

      pub over_kept : (n : Node) → HasNode s.graph n → HasNode s2.graph n
      over_kept n (k, at') = (k, enters.kept k n at')

      pub entered_there : AreThere (length r.declaration.clocks) s2.graph place e.stamp n
      entered_there = there_by (problem_by_number r []) s.graph reads n (near (problem_by_number r []) reads refl refl refl) (length r.declaration.clocks) s2.graph over_kept lies

      event_long : length s1.graph.nodes ≡ length s.graph.nodes + 1
      event_long = ap (λ (h : GraphLists). length h.nodes) graph_of_event ∙ length-append s.graph.nodes (nodes.Event v ∷ [])

      pub both_long : length s2.graph.nodes ≤ length s.graph.nodes + 2
      both_long = elim (cases_Bool known) [
        | inl k ↦ (let same = ap (λ (z : SolverLists). length z.graph.nodes) (same_is k) in omega (arith, same, event_long))
        | inr k ↦ (
            let next : length s2.graph.nodes ≡ length s1.graph.nodes + 1 = ap (λ (z : SolverLists). length z.graph.nodes) (reading_is k) ∙ length-append s1.graph.nodes (nodes.Reading place stamp ∷ []) in
            omega (arith, next, event_long))
      ]

      pub entered_arcs : length s2.graph.arcs ≡ length s.graph.arcs
      entered_arcs = ap (λ (as' : List Arc). length as') enters.arcs

      -- ---- what the roster is told
      module _ (r2 r3 : RosterLists) (told_at : r2 ≡ record r { came = set r.came v (record (event_at r.came v) { node = length s.graph.nodes }) })
          (same_roster : known ≡ true → r3 ≡ r2) (sets : known ≡ false → SetsReading r2 r3 place e.stamp (length s1.graph.nodes)) where
        abbrev f : Came
        f = record e { node = length s.graph.nodes }

        told : r2 ≡ record r { came = set r.came v (record e { node = length s.graph.nodes }) }
        told =
            told_at ∙ ap (λ (z : Came). let a : RosterLists = record r { came = set r.came v (record z { node = length s.graph.nodes }) } in a) (get_or_from_slice_get r.came v e no_event at)

        -- the parts but for readings are those of r2
        part : {X : Type 0} (p : RosterLists → X) → ((a : RosterLists) (rs : List (List Stamped)) → p (record a { readings = rs }) ≡ p a) → p r3 ≡ p r2
        part p alike = elim (cases_Bool known) [
          | inl k ↦ ap p (same_roster k)
          | inr k ↦ ap p (sets k).is ∙ alike r2 (set r2.readings place (set (group_at r2.readings place) (sets k).place (stamp, length s1.graph.nodes)))
        ]

        came_is : r3.came ≡ set r.came v f
        came_is = part (λ (a : RosterLists). a.came) (λ a rs. refl) ∙ ap (λ (a : RosterLists). a.came) told

        declaration_is : r3.declaration ≡ r.declaration
        declaration_is = part (λ (a : RosterLists). a.declaration) (λ a rs. refl) ∙ ap (λ (a : RosterLists). a.declaration) told

        under_is : r3.under ≡ r.under
        under_is = part (λ (a : RosterLists). a.under) (λ a rs. refl) ∙ ap (λ (a : RosterLists). a.under) told

        long : length r3.came ≡ length r.came
        long = ap (λ (cs : List Came). length cs) came_is ∙ length-set r.came v f

        problem_same : (messages : List Message) → problem_by_number r3 messages ≡ problem_by_number r messages
        problem_same messages =
            ap (λ (d : Declaration). let p : ProblemLists = record { clocks = d.clocks; follows = follows_of d; events = map (named_event d) r3.came; messages = messages } in p) declaration_is
            ∙ ap (λ (cs : List Came). let p : ProblemLists = record { clocks = r.declaration.clocks; follows = follows_of r.declaration; events = map (named_event r.declaration) cs; messages = messages } in p) came_is
            ∙ ap (λ (es : List Event). let p : ProblemLists = record { clocks = r.declaration.clocks; follows = follows_of r.declaration; events = es; messages = messages } in p) (told_named r.declaration r.came v e f at refl)

        told_here : slice_get r3.came v ≡ Some f
        told_here = ap (λ (cs : List Came). slice_get cs v) came_is ∙ set_here r.came v f inside

        told_other : (w : ℕ) → w ≢ v → slice_get r3.came w ≡ slice_get r.came w
        told_other w other = ap (λ (cs : List Came). slice_get cs w) came_is ∙ set_elsewhere r.came v w f other

        sets_own : known ≡ false → SetsReading (record r { came = set r.came v f }) r3 place stamp (length s1.graph.nodes)
        sets_own k = subst (λ (a : RosterLists). SetsReading a r3 place stamp (length s1.graph.nodes)) told (sets k)

        readings_kept : (c : ℕ) (t : Stamped) → Contains (group_at r.readings c) t → HasNode s.graph (nodes.Reading c t.0) → Contains (group_at r3.readings c) t
        readings_kept c t has' there = elim (cases_Bool known) [
          | inl k ↦ subst (λ (a : RosterLists). Contains (group_at a.readings c) t) (sym (same_roster k ∙ told)) has'
          | inr k ↦ (
              let own = sets_own k in
              subst (λ (a : RosterLists). Contains (group_at a.readings c) t) (sym own.is)
              (set_keeps r.readings place own.place (stamp, own.was) (stamp, length s1.graph.nodes) c t own.there has'
              (λ on same. fresh k
              (subst (λ (n : ℕ). HasNode s.graph (nodes.Reading place n)) (ap (λ (z : Stamped). z.0) same)
              (subst (λ (j : ℕ). HasNode s.graph (nodes.Reading j t.0)) on there)))))
        ]

        holds_kept : (seen : List (List Seen)) → HoldsEvents r seen → HoldsEvents r3 seen
        holds_kept seen holds =
            let held : HoldsEvents r2 seen = subst (λ (a : RosterLists). HoldsEvents a seen) (sym told) (holds_still r seen v f (ap (λ (z : Came). z.stamp) (sym (get_or_from_slice_get r.came v e no_event at))) holds) in
            elim (cases_Bool known) [
              | inl k ↦ subst (λ (a : RosterLists). HoldsEvents a seen) (sym (same_roster k)) held
              | inr k ↦ holds_restamped r2 r3 place stamp (length s1.graph.nodes) seen (sets k) held
            ]

        pub keeps : KeepsNodesThere s.graph r r3
        keeps = record {
          declaration = declaration_is;
          count = long;
          under = under_is;
          events = λ w y at' there. (y, told_other w (λ same. absent (subst (λ (n : ℕ). HasNode s.graph (nodes.Event n)) same there)) ∙ at', refl, refl, refl, refl);
          readings = readings_kept;
          holds = holds_kept;
        }

        -- ---- behind the bounds
        module _ (s3 : SolverLists) (brings : Brings (bounds_beside place e.stamp n ++ (Late v ∷ Early v ∷ [])) s2 s3) (clock : Clock) (clock_is : slice_get r.declaration.clocks place ≡ Some clock)
            (own : Option StampBounds) (own_is : bounds_of r.declaration (id_of e) ≡ own)
            (left : (p : ProblemLists) (flags : ℕ → Bool) (y : Event) → EventAt p v y → y.clock ≡ place → y.stamp ≡ e.stamp → y.bounds ≡ own → ClockAt p place clock
            → p.follows ≡ follows_of r3.declaration → AreBeside p place n → IsGrowing p flags (bounds_beside place e.stamp n ++ (Late v ∷ Early v ∷ [])) s2.graph → IsGrowing p flags [] s3.graph) where
          kept_at : (k : ℕ) (n : Node) → slice_get s.graph.nodes k ≡ Some n → slice_get s3.graph.nodes k ≡ Some n
          kept_at k n at' = ap (λ (ns : List Node). slice_get ns k) brings.nodes ∙ enters.kept k n at'

          pub stands : HasNode s3.graph (nodes.Event v)
          stands = (let two = enters.event in (two.0, ap (λ (ns : List Node). slice_get ns two.0) brings.nodes ∙ two.1))

          event_at_end : slice_get s3.graph.nodes (length s.graph.nodes) ≡ Some (nodes.Event v)
          event_at_end = ap (λ (ns : List Node). slice_get ns (length s.graph.nodes)) brings.nodes ∙ at_two
            where
              at_one : slice_get (s.graph.nodes ++ nodes.Event v ∷ []) (length s.graph.nodes) ≡ Some (nodes.Event v)
              at_one = get_right s.graph.nodes (nodes.Event v ∷ []) (length s.graph.nodes) 0 (omega arith)

              at_two : slice_get s2.graph.nodes (length s.graph.nodes) ≡ Some (nodes.Event v)
              at_two = elim (cases_Bool known) [
                | inl k ↦ ap (λ (h : GraphLists). slice_get h.nodes (length s.graph.nodes)) (graph_known k) ∙ at_one
                | inr k ↦ ap (λ (h : GraphLists). slice_get h.nodes (length s.graph.nodes)) (graph_new k) ∙ get_left (s.graph.nodes ++ nodes.Event v ∷ []) (nodes.Reading place stamp ∷ []) (length s.graph.nodes) (nodes.Event v) at_one
              ]

          reading_at_end : known ≡ false → slice_get s3.graph.nodes (length s1.graph.nodes) ≡ Some (nodes.Reading place stamp)
          reading_at_end k =
              ap (λ (ns : List Node). slice_get ns (length s1.graph.nodes)) brings.nodes
              ∙ ap (λ (z : SolverLists). slice_get z.graph.nodes (length s1.graph.nodes)) (reading_is k)
              ∙ get_right s1.graph.nodes (nodes.Reading place stamp ∷ []) (length s1.graph.nodes) 0 (omega arith)

          -- a node behind it was there, or is one of these two
          was_or_own : (n : Node) → HasNode s3.graph n → HasNode s.graph n ⊎ (n ≡ nodes.Event v) ⊎ (n ≡ nodes.Reading place stamp)
          was_or_own n (k, at') =
              let two : HasNode s2.graph n = (k, ap (λ (ns : List Node). slice_get ns k) (sym brings.nodes) ∙ at') in
              subst (λ (c : ℕ). HasNode s.graph n ⊎ (n ≡ nodes.Event v) ⊎ (n ≡ nodes.Reading c stamp)) place_is (enters.only n two)

          -- a reading that was a node has the node that it had, and one that was not has a new one
          module _ (knows : KnowsNodesThere r s.graph) where
            events_known : (w : ℕ) (y : Came) → slice_get r3.came w ≡ Some y → HasNode s3.graph (nodes.Event w) → slice_get s3.graph.nodes y.node ≡ Some (nodes.Event w)
            events_known w y at' there = elim (cases_eq w v) [
              | inl same ↦ (
                  let one : f ≡ y = same_Some f y (sym told_here ∙ ap (slice_get r3.came) (sym same) ∙ at') in
                  ap (slice_get s3.graph.nodes) (ap (λ (z : Came). z.node) (sym one)) ∙ event_at_end ∙ ap (λ (n : ℕ). Some (nodes.Event n)) (sym same))
              | inr other ↦ elim (was_or_own (nodes.Event w) there) [
                | inl old ↦ kept_at y.node (nodes.Event w) (knows.events w y (sym (told_other w other) ∙ at') old)
                | inr (inl own) ↦ absurd (other (let z : w ≡ v = cc in z))
                | inr (inr own) ↦ absurd (let z : ⊥ = cc in z)
              ]
            ]

            old_known : (c : ℕ) (t : Stamped) → Contains (group_at r.readings c) t → HasNode s.graph (nodes.Reading c t.0) → slice_get s3.graph.nodes t.1 ≡ Some (nodes.Reading c t.0)
            old_known c t has' there = kept_at t.1 (nodes.Reading c t.0) (knows.readings c t has' there)

            readings_of_old : known ≡ true → (c : ℕ) (t : Stamped) → Contains (group_at r3.readings c) t → HasNode s3.graph (nodes.Reading c t.0) → slice_get s3.graph.nodes t.1 ≡ Some (nodes.Reading c t.0)
            readings_of_old k c t has' there =
                let was : Contains (group_at r.readings c) t = subst (λ (a : RosterLists). Contains (group_at a.readings c) t) (same_roster k ∙ told) has' in
                elim (was_or_own (nodes.Reading c t.0) there) [
                  | inl old ↦ old_known c t was old
                  | inr (inl own) ↦ absurd (let z : ⊥ = cc in z)
                  | inr (inr own) ↦ old_known c t was (subst (HasNode s.graph) (sym own) (has k))
                ]

            group_there : (rs : List (List Stamped)) (k j : ℕ) (t : Stamped) → slice_get (group_at rs k) j ≡ Some t → k < length rs
            group_there [] k j t at' = absurd (none-some t at')
            group_there (y ∷ rs) zero j t at' = omega arith
            group_there (y ∷ rs) (suc k) j t at' = (let within = group_there rs k j t at' in omega (arith, within))

            readings_of_new : known ≡ false → (c : ℕ) (t : Stamped) → Contains (group_at r3.readings c) t → HasNode s3.graph (nodes.Reading c t.0) → slice_get s3.graph.nodes t.1 ≡ Some (nodes.Reading c t.0)
            readings_of_new k c t has' there =
                let own = sets_own k in
                let number : ℕ = length s1.graph.nodes in
                let group : List Stamped = group_at r.readings place in
                let new_group : List Stamped = set {A = Stamped} group own.place (stamp, number) in
                let held : Contains (group_at (set r.readings place new_group) c) t = subst (λ (a : RosterLists). Contains (group_at a.readings c) t) own.is has' in
                elim (cases_eq c place) [
                  | inl same ↦ (
                      let within : place < length r.readings = group_there r.readings place own.place (stamp, own.was) own.there in
                      let mine : Contains new_group t =
                      subst (λ (rs : List Stamped). Contains rs t) (get_or-set_same r.readings place new_group [] within)
                      (subst (λ (j : ℕ). Contains (group_at (set r.readings place new_group) j) t) same held) in
                      let i = place_in new_group t mine in
                      elim (cases_eq i.0 own.place) [
                        | inl here' ↦ (
                            let one : (stamp, number) ≡ t = same_Some (stamp, number) t (sym (set_here {X = Stamped} group own.place (stamp, number) (slice_get_within {A = Stamped} group own.place (stamp, own.was) own.there))
                            ∙ ap (slice_get new_group) (sym here') ∙ i.1) in
                            subst (λ (z : Stamped). slice_get s3.graph.nodes z.1 ≡ Some (nodes.Reading c z.0)) one (reading_at_end k ∙ ap (λ (j : ℕ). Some (nodes.Reading j stamp)) (sym same)))
                        | inr other ↦ (
                            let old_at : slice_get group i.0 ≡ Some t = sym (set_elsewhere {X = Stamped} group own.place i.0 (stamp, number) other) ∙ i.1 in
                            let was : Contains (group_at r.readings c) t = subst (λ (j : ℕ). Contains (group_at r.readings j) t) (sym same) (among group i.0 t old_at) in
                            elim (was_or_own (nodes.Reading c t.0) there) [
                              | inl old ↦ old_known c t was old
                              | inr (inl own') ↦ absurd (let z : ⊥ = cc in z)
                              | inr (inr own') ↦ absurd (other (one_place group (is.on_clocks.rise place) i.0 own.place t (stamp, own.was) old_at own.there (let z : t.0 ≡ stamp = cc in z)))
                            ])
                      ])
                  | inr other ↦ (
                      let was : Contains (group_at r.readings c) t = subst (λ (rs : List Stamped). Contains rs t) (get_or-set_other r.readings place c new_group [] other) held in
                      elim (was_or_own (nodes.Reading c t.0) there) [
                        | inl old ↦ old_known c t was old
                        | inr (inl own') ↦ absurd (let z : ⊥ = cc in z)
                        | inr (inr own') ↦ absurd (other (let z : c ≡ place = cc in z))
                      ])
                ]

            knows_all : KnowsNodesThere r3 s3.graph
            knows_all = record {
              events = events_known;
              readings = λ c t has' there. elim (cases_Bool known) [ inl k ↦ readings_of_old k c t has' there | inr k ↦ readings_of_new k c t has' there ];
            }

          module _ (entered : ℕ → Bool) (messages : List Message) (way : IsEntering entered messages r s) where
            not_in : entered v ≡ false
            not_in = elim (cases_Bool (entered v)) [
              | inl is' ↦ absurd (absent (way.grown.every_node (nodes.Event v) (x, (event_is messages, is'))))
              | inr not ↦ not
            ]

            in_and_not : (w : ℕ) → w ≡ v → entered w ≡ true → ⊥
            in_and_not w same is' = (let z : entered v ≡ true = ap entered (sym same) ∙ is' in let n = not_in in let y : ⊥ = cc in y)

            none_own : AreMessagesOf (problem_by_number r messages) entered v []
            none_own = record {
              sent = λ receive m of. absurd (in_and_not m.send of.send_is (way.among m of.among).0);
              received = λ send m of. absurd (in_and_not m.receive of.receive_is (way.among m of.among).1);
            }

            none_apart : HaveOwnEnds v []
            none_apart = record {
              own = All-nil (λ (m : Message). (m.send ≡ v) ⊎ (m.receive ≡ v));
              differ = no_pairs (λ (a b : Message). (a.send ≡ b.send) → (a.receive ≡ b.receive) → ⊥);
            }

            -- follows of a declaration make chains
            chains : IsChained (problem_by_number r messages)
            chains = record { follow_ends = follows_lead r.declaration is.declared; laters_differ = laters_differ r.declaration }

            near_own : AreNearest (problem_by_number r messages) s.graph x n.below n.above n.earlier n.later
            near_own = near (problem_by_number r messages) x refl place_is refl

            growing : IsGrowing (problem_by_number r messages) (and_event entered v) [] s3.graph
            growing =
                left (problem_by_number r messages) (and_event entered v) x (event_is messages) place_is refl own_is clock_is (ap follows_of (sym declaration_is)) (beside messages)
                (subst (λ (c : ℕ). IsGrowing (problem_by_number r messages) (and_event entered v) (own_bounds c n) s2.graph) place_is
                (entered_now (problem_by_number r messages) entered v x (event_is messages) n.below n.above n.earlier n.later [] s.graph chains near_own none_own way.grown s2.graph enters))

            once_grown : HasEachOnce [] s3.graph
            once_grown =
                brings.once [] (subst (λ (bs : List Bound). HasEachOnce bs s2.graph) (sym (none_behind (own_bounds place n)))
                (subst (λ (c : ℕ). HasEachOnce (own_bounds c n) s2.graph) place_is
                (entered_once (problem_by_number r messages) entered v x n.below n.above n.earlier n.later [] s.graph chains not_in near_own none_apart way.grown s2.graph enters way.once)))

            tells_all : KnowsMessages r3 messages s3.graph
            tells_all =
                tells_still r r3 messages s.graph s3.graph
                (λ w y at'. elim (cases_eq w v) [
                  | inl same ↦ (
                      let one : e ≡ y = same_Some e y (sym at ∙ ap (slice_get r.came) (sym same) ∙ at') in
                      (f, ap (slice_get r3.came) same ∙ told_here, ap (λ (z : Came). z.partner) one))
                  | inr other ↦ (y, told_other w other ∙ at', refl)
                ])
                (λ w y p at' partner. elim (cases_eq w v) [
                  | inl same ↦ (
                      let one : f ≡ y = same_Some f y (sym told_here ∙ ap (slice_get r3.came) (sym same) ∙ at') in
                      (e, ap (slice_get r.came) same ∙ at, ap (λ (z : Came). z.partner) one ∙ partner))
                  | inr other ↦ (y, sym (told_other w other) ∙ at', partner)
                ])
                (λ k on. (
                let still : IsOn s2.graph k = subst (λ (fs : List Bool). get_or fs k false ≡ true) (sym enters.in_force) on in
                let stays = brings.stay k still in
                (stays.0, stays.1 ∙ ap (λ (as' : List Arc). arc_at as' k) enters.arcs))) way.tells

            entered_way : IsEntering (and_event entered v) messages r3 s3
            entered_way = record {
              current = brings.current;
              grown = subst (λ (p : ProblemLists). IsGrownTo p (and_event entered v) s3.graph) (sym (problem_same messages)) growing;
              once = once_grown;
              knows = knows_all way.knows;
              tells = tells_all;
              among = λ m has'. (or_right (m.send == v) (entered m.send) (way.among m has').0, or_right (m.receive == v) (entered m.receive) (way.among m has').1);
            }

          pub comes : HaveCome [] r r3 s s3
          comes = record {
            grown = λ entered messages way own. (and_event entered v, entered_way entered messages way);
            keeps = keeps;
            stay = λ n (k, at'). (k, kept_at k n at');
            rows = record { slots = brings.rows.slots ∙ rows_two.slots; source = brings.rows.source ∙ rows_two.source; count = brings.rows.count ∙ rows_two.count; free = brings.rows.free ∙ rows_two.free };
            room = λ n room. brings.room n (room_two s s1 s2 known v place stamp event_pushed same_is reading_is n room);
            extends = extends_then s s2 s3 (extends_by_nodes s s1 s2 known (nodes.Event v) (nodes.Reading place stamp) event_pushed same_is reading_is) brings.extends;
          }
            where
              rows_two : KeepsRows s s2
              rows_two = elim (cases_Bool known) [
                | inl k ↦ subst (KeepsRows s) (sym (same_is k ∙ event_pushed)) (record { slots = refl; source = refl; count = refl; free = refl })
                | inr k ↦ subst (KeepsRows s) (sym (reading_is k ∙ ap (λ (z : SolverLists). with_new_node z (nodes.Reading place stamp)) event_pushed)) (record { slots = refl; source = refl; count = refl; free = refl })
              ]

          pub nodes_few : length s3.graph.nodes ≤ length s.graph.nodes + 2
          nodes_few = (let same = ap (λ (ns : List Node). length ns) brings.nodes in omega (arith, same, both_long))

          pub arcs_few : length s3.graph.arcs ≤ length s.graph.arcs + 6
          arcs_few =
              let few = links_few place e.stamp n entered_there.first entered_there.last in
              let long = length-append (bounds_beside place e.stamp n) (Late v ∷ Early v ∷ []) in
              let count = brings.count in
              omega (arith, few, long, count, entered_arcs)
