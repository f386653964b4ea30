-- The event that comes first in the merge, by number and by place, and the dates that begin from it.
use Rattle.std.proofs.Common.{◌≡◌, ◌⊎◌, inl, inr, ℕ, zero, suc, ◌+◌, ◌-◌, ◌*◌, ◌<◌, ◌≤◌, List, [], ◌∷◌, length, map, get_or, slice_get, Some, None, All, Option, ℤ, pos, ◌+ℤ◌, ◌-ℤ◌, ◌<ℤ◌, ◌≤ℤ◌, refl, sym, ◌∙◌, ap, subst, arith}
use Rattle.std.specs.List.{slice_index_or}
use Rattle.std.specs.declared.cmp.Ordering.{Ordering}
use Rattle.std.specs.declared.cmp.Ordering.TheVariants.{Less, Equal, Greater}
use Rattle.std.specs.Ordering.{MatchOrdering, int_cmp, nat_cmp, ordering_then}
use Rattle.std.proofs.lemmas.Bool.{cases_lt}
use Rattle.std.proofs.lemmas.Cmp.{ranked, int_ranked}
use Rattle.std.proofs.lemmas.Int.{ints}
use Rattle.std.proofs.lemmas.List.{length-map}
use Rattle.std.proofs.lemmas.List.Elements.{All-cons, All-nil}
use Rattle.std.proofs.lemmas.Option.{get_or_from_slice_get, slice_get_within}
use Rattle.problem_model.specs.declared.items.Event.{Event}
use Rattle.problem_model.specs.declared.items.Node.TheVariants as nodes
use Rattle.problem_model.specs.Problem.{ProblemLists}
use Rattle.problem_model.specs.Bounds.{Times}
use Rattle.problem_model.specs.Nodes.{Reading, nodes_of}
use Rattle.problem_model.specs.Executions.{at}
use Rattle.problem_model.specs.Solutions.{IsEarliestExecution, IsFromZero}
use Rattle.problem.specs.Listing.{Listed, all_readings, listed_nodes}
use Rattle.problem_graph.specs.ListedStanding.{IsEventAt}
use Rattle.problem.proofs.ListedNodes.{map_at}
use Rattle.packets.specs.Packets as packets
use Rattle.decl.specs.Declaration.{Declaration}
use Rattle.report.specs.declared.merge.MergeKey.{MergeKey}
use Rattle.report.specs.Merging.{ComesFirst, StandsBefore}
use Rattle.mergecap.specs.declared.start.Start.{Start}
use Rattle.mergecap.specs.MergedCapture.{Timed}
use Rattle.mergecap.specs.Packets.{shift_of}
use Rattle.traces.specs.Seen.{Seen}
use Rattle.traces.specs.declared.event_id.EventId.{EventId}
use Rattle.traces.specs.Traces.{Placed, events_of, event_count}
use Rattle.traces.specs.Messages.{event_with, place_of, problem_of_seen}
use Rattle.traces.proofs.Ids.{ids_differ, length_events}
use Rattle.traces.proofs.Lists.{got}
use Rattle.traces.proofs.Places.{place_is}
use Rattle.solver.specs.Solver.{SolverLists}
use Rattle.roster.specs.declared.came.Came.{Came}
use Rattle.roster.specs.Roster.{RosterLists, IsRoster, HoldsEvents, IsNumberUnder, id_of, event_at, no_event, listed}
use Rattle.roster.specs.Rosters.{named_event}
use Rattle.roster.specs.Groups.{group_at}
use Rattle.roster.proofs.Rosters.{events_are}
use Rattle.replies.specs.Reply.{IsPlacedAt}
use Rattle.replies.proofs.Elements.{some_same, there_some}
use Rattle.replies.proofs.Placing.{within}
use Rattle.session_answers.specs.Ready.{HasNodeOf}
use Rattle.session_answers.proofs.RosterEvents.{came_count, event_place, placed_at}
use Rattle.session.specs.Dates.{AreDatedFrom, IsDateOf, IsFirstEvent, key_at}
use Rattle.session.specs.Firsts.{IsFirstBefore, IsFirstOfTwo, IsNoLater, IsStartOf, key_of_came}
use Rattle.session.specs.Settled.{HasEventOf, at_time, event_of, node_of, settled, valued}
use Rattle.session.proofs.Settles.{all_settled, event_under, node_found}
use Rattle.session.proofs.Standing.{map_there}

-- ---- keys
abbrev pub key_cmp : MergeKey → MergeKey → Ordering
key_cmp a b = ordering_then (int_cmp a.value b.value) (ordering_then (nat_cmp a.place b.place) (nat_cmp a.n b.n))

-- what the three comparisons tell
told : (a b : MergeKey) (v p n : Ordering) → MatchOrdering v (a.value <ℤ b.value) (a.value ≡ b.value) (b.value <ℤ a.value) → MatchOrdering p (a.place < b.place) (a.place ≡ b.place) (b.place < a.place)
    → MatchOrdering n (a.n < b.n) (a.n ≡ b.n) (b.n < a.n) → MatchOrdering (ordering_then v (ordering_then p n)) (ComesFirst a b) ((a.place ≡ b.place) × (a.n ≡ b.n)) (ComesFirst b a)
told a b Less p n value place number = inl value
told a b Greater p n value place number = inl value
told a b Equal Less n value place number = inr (value, inl place)
told a b Equal Greater n value place number = inr (sym value, inl place)
told a b Equal Equal Less value place number = inr (value, inr (place, number))
told a b Equal Equal Greater value place number = inr (sym value, inr (sym place, number))
told a b Equal Equal Equal value place number = (place, number)

-- one of two keys comes first, or both are of one place and number
pub keys_told : (a b : MergeKey) (o : Ordering) → o ≡ key_cmp a b → MatchOrdering o (ComesFirst a b) ((a.place ≡ b.place) × (a.n ≡ b.n)) (ComesFirst b a)
keys_told a b o is =
    subst (λ (x : Ordering). MatchOrdering x (ComesFirst a b) ((a.place ≡ b.place) × (a.n ≡ b.n)) (ComesFirst b a)) (sym is)
    (told a b (int_cmp a.value b.value) (nat_cmp a.place b.place) (nat_cmp a.n b.n) (int_ranked a.value b.value _ refl) (ranked a.place b.place _ refl) (ranked a.n b.n _ refl))

stands_then : (a b c : MergeKey) → StandsBefore a b → StandsBefore b c → StandsBefore a c
stands_then a b c (inl x) (inl y) = inl (omega (arith, x, y))
stands_then a b c (inl x) (inr y) = inl (let same = y.0 in omega (arith, x, same))
stands_then a b c (inr x) (inl y) = inl (let same = x.0 in omega (arith, y, same))
stands_then a b c (inr x) (inr y) = inr (x.0 ∙ y.0, (let less = x.1 in let more = y.1 in omega (arith, less, more)))

pub first_then : (a b c : MergeKey) → ComesFirst a b → ComesFirst b c → ComesFirst a c
first_then a b c (inl x) (inl y) = inl (omega (arith, ints, x, y))
first_then a b c (inl x) (inr y) = inl (subst (λ (v : ℤ). a.value <ℤ v) y.0 x)
first_then a b c (inr x) (inl y) = inl (subst (λ (v : ℤ). v <ℤ c.value) (sym x.0) y)
first_then a b c (inr x) (inr y) = inr (x.0 ∙ y.0, stands_then a b c x.1 y.1)

-- ---- one number after another
module _ (s : SolverLists) (came : List Came) where
  no_later : (a b c : ℕ) → IsNoLater s came a b → IsNoLater s came b c → IsNoLater s came a c
  no_later a b c (inl x) y = subst (λ (n : ℕ). IsNoLater s came n c) x y
  no_later a b c (inr x) (inl y) = inr (subst (λ (n : ℕ). ComesFirst (key_of_came s (event_at came a)) (key_of_came s (event_at came n))) (sym y) x)
  no_later a b c (inr x) (inr y) = inr (first_then (key_of_came s (event_at came a)) (key_of_came s (event_at came b)) (key_of_came s (event_at came c)) x y)

  pub first_on : (first n next : ℕ) → IsFirstBefore s came first n → n < length came → IsFirstOfTwo s came first n next → IsFirstBefore s came next (n + 1)
  first_on first n next before inside (inl (is, later)) = record {
    inside = (let own = before.inside in omega (arith, is, own));
    each = λ v below. elim (cases_lt v n) [
      | inl lower ↦ subst (λ (k : ℕ). IsNoLater s came k v) (sym is) (before.each v lower)
      | inr not ↦ let same : v ≡ n = omega (arith, below, not) in subst (λ (k : ℕ). IsNoLater s came k v) (sym is) (subst (λ (k : ℕ). IsNoLater s came first k) (sym same) later)
    ];
  }
  first_on first n next before inside (inr (is, later)) = record {
    inside = omega (arith, is, inside);
    each = λ v below. elim (cases_lt v n) [
      | inl lower ↦ subst (λ (k : ℕ). IsNoLater s came k v) (sym is) (no_later n first v later (before.each v lower))
      | inr not ↦ inl (omega (arith, below, not, is))
    ];
  }

  pub first_done : (first n : ℕ) → length came ≤ n → IsFirstBefore s came first n → IsFirstBefore s came first (length came)
  first_done first n past before = record { inside = before.inside; each = λ v below. before.each v (omega (arith, past, below)) }

-- ---- in a roster
module _ (r : RosterLists) (is : IsRoster r) where
  -- events of one label and one number have one number among all
  pub number_one : (v w : ℕ) (e f : Came) → slice_get r.came v ≡ Some e → slice_get r.came w ≡ Some f → e.label ≡ f.label → e.number ≡ f.number → v ≡ w
  number_one v w e f at_v at_w labels numbers =
      let x = is.every v e at_v in
      let y = is.every w f at_w in
      let k : suc x.0 ≡ suc y.0 = sym x.1 ∙ numbers ∙ y.1 in
      let same : x.0 ≡ y.0 = omega (arith, k) in
      some_same v w (sym x.2 ∙ ap (λ (n : ℕ). slice_get (group_at r.under e.label) n) same ∙ ap (λ (l : ℕ). slice_get (group_at r.under l) y.0) labels ∙ y.2)

  -- what does not come behind another event comes first, or is the same event
  pub not_behind : (s : SolverLists) (first second : ℕ) (x y : MergeKey) (o : Ordering) → x ≡ key_of_came s (event_at r.came second) → y ≡ key_of_came s (event_at r.came first) → o ≡ key_cmp x y → (o ≡ Less → ⊥)
      → first < length r.came → second < length r.came → IsNoLater s r.came first second
  not_behind s first second x y o at_second at_first is other inside inside' =
      by o (subst (λ (k : MergeKey). MatchOrdering o (ComesFirst k (key_of_came s (event_at r.came first))) ((k.place ≡ (event_at r.came first).label) × (k.n ≡ (event_at r.came first).number)) (ComesFirst (key_of_came s (event_at r.came first)) k)) at_second
      (subst (λ (k : MergeKey). MatchOrdering o (ComesFirst x k) ((x.place ≡ k.place) × (x.n ≡ k.n)) (ComesFirst k x)) at_first (keys_told x y o is))) other
    where
      by : (q : Ordering) → MatchOrdering q (ComesFirst (key_of_came s (event_at r.came second)) (key_of_came s (event_at r.came first)))
          (((event_at r.came second).label ≡ (event_at r.came first).label) × ((event_at r.came second).number ≡ (event_at r.came first).number))
          (ComesFirst (key_of_came s (event_at r.came first)) (key_of_came s (event_at r.came second))) → (q ≡ Less → ⊥) → IsNoLater s r.came first second
      by Less first_is not = absurd (not refl)
      by Greater later not = inr later
      by Equal same not =
          let e = there_some r.came second inside' in
          let f = there_some r.came first inside in
          let own : event_at r.came second ≡ e.0 = get_or_from_slice_get r.came second e.0 no_event e.1 in
          let theirs : event_at r.came first ≡ f.0 = get_or_from_slice_get r.came first f.0 no_event f.1 in
          inl (number_one second first e.0 f.0 e.1 f.1 (ap (λ (c : Came). c.label) (sym own) ∙ same.0 ∙ ap (λ (c : Came). c.label) theirs) (ap (λ (c : Came). c.number) (sym own) ∙ same.1 ∙ ap (λ (c : Came). c.number) theirs))

  module _ (seen : List (List Seen)) (holds : HoldsEvents r seen) where
    -- a packet of an event, whatever is in it
    abbrev packet_of : EventId → Timed
    packet_of id = record { key = record { value = pos 0; place = id.label; n = id.number }; packet = let q : packets.Seen = record { stamp = 0; link = 0; interface = None; original_length = 0; bytes = [] } in q }

    has_event : (j : ℕ) (other : Placed) → slice_get (events_of seen) j ≡ Some other → HasEventOf seen (packet_of other.id)
    has_event j other there =
        let here : IsPlacedAt seen j other.id = map_at (λ (e : Placed). e.id) (events_of seen) j other there in
        let w = within seen j other.id here in
        let own = got seen other.id.label w.label in
        let rows : slice_index_or seen other.id.label [] ≡ own.0 = get_or_from_slice_get seen other.id.label own.0 [] own.1 in
        let first = w.first in
        let last = w.last in
        let long : length (slice_index_or seen other.id.label []) ≡ length own.0 = ap length rows in
        (own.0, other.id.number - 1, own.1, omega (arith, first), omega (arith, first, last, long))

    -- an event at a place came with a number
    pub came_at : (j : ℕ) (other : Placed) → slice_get (events_of seen) j ≡ Some other → (v : ℕ) × (e : Came) × (slice_get r.came v ≡ Some e) × (id_of e ≡ other.id)
    came_at j other there =
        let u = event_under r is seen holds (packet_of other.id) (has_event j other there) in
        let k = u.1 in
        let e = is.numbered other.id.label k.0 u.0 k.2 in
        let number : suc k.0 ≡ other.id.number = sym k.1 in
        (u.0, e.0, e.1, e.2 ∙ ap (λ (n : ℕ). let i : EventId = record { label = other.id.label; number = n } in i) number)

    -- and what came has a place
    pub placed_of : (v : ℕ) (e : Came) → slice_get r.came v ≡ Some e →
        (k : ℕ) × (event : Placed) × (slice_get (events_of seen) k ≡ Some event) × (event.id ≡ id_of e) × (slice_get {X = ℕ × ℕ} (listed r).events k ≡ Some (v, e.node))
    placed_of v e there =
        let node : HasNodeOf r (id_of e) e.node = record { number = v; came = e; there = there; id_is = refl; node_is = refl } in
        let here = event_place r is v e there in
        let one = map_there (λ (q : Placed). q.id) (events_of seen) here.0 (id_of e) (placed_at r is seen holds (id_of e) e.node node) in
        (here.0, one.0, one.1, one.2, here.1)

    -- with the stamp that it came with
    pub stamp_is : (k v : ℕ) (e : Came) (event : Placed) → slice_get r.came v ≡ Some e → slice_get {X = ℕ × ℕ} (listed r).events k ≡ Some (v, e.node) → slice_get (events_of seen) k ≡ Some event → e.stamp ≡ event.seen.stamp
    stamp_is k v e event there at_listed at_events =
        let ours : slice_get (map {A = ℕ × ℕ} {B = Event} (λ x. named_event r.declaration (event_at r.came x.0)) (listed r).events) k ≡ Some (named_event r.declaration (event_at r.came v)) =
        map_at {X = ℕ × ℕ} {Y = Event} (λ x. named_event r.declaration (event_at r.came x.0)) (listed r).events k (v, e.node) at_listed in
        let theirs : slice_get (map (event_with r.declaration) (events_of seen)) k ≡ Some (event_with r.declaration event) = map_at (event_with r.declaration) (events_of seen) k event at_events in
        let same = some_same (named_event r.declaration (event_at r.came v)) (event_with r.declaration event) (sym ours ∙ ap (λ (es : List Event). slice_get es k) (events_are r is seen holds) ∙ theirs) in
        ap (λ (c : Came). c.stamp) (sym (get_or_from_slice_get r.came v e no_event there)) ∙ ap (λ (x : Event). x.stamp) same

    -- where nothing came there is no event
    pub none_came : length r.came ≡ 0 → events_of seen ≡ []
    none_came none =
        let count = came_count r is seen holds in
        let long = length_events seen in
        no_items (events_of seen) (omega (arith, none, count, long))
      where
        no_items : (events : List Placed) → length events ≡ 0 → events ≡ []
        no_items [] zero_is = refl
        no_items (e ∷ events) zero_is = absurd (omega (arith, zero_is))

    -- ---- times
    module _ (s : SolverLists) (p : ProblemLists) (readings : List Reading) (x : Times) (same : map (at s.earliest.values) (listed_nodes (listed r)) ≡ map x (nodes_of p readings))
        (problem_events : p.events ≡ map (event_with r.declaration) (events_of seen)) where
      -- the time of the event at a place is the value of its node
      time_at : (j v : ℕ) (e : Came) (other : Placed) → slice_get (events_of seen) j ≡ Some other → slice_get r.came v ≡ Some e → id_of e ≡ other.id → at s.earliest.values e.node ≡ x (nodes.Event j)
      time_at j v e other there came id_is =
          let t = packet_of other.id in
          let has = has_event j other there in
          let both : valued r s t ∷ [] ≡ settled seen x t ∷ [] =
          all_settled r is seen holds s p readings x same problem_events (t ∷ []) (All-cons (HasEventOf seen) t [] has (All-nil (HasEventOf seen))) in
          let value : at s.earliest.values (node_of r (event_of t)) ≡ x (nodes.Event (place_of (events_of seen) (event_of t))) = ap (λ (ts : List Timed). first_value ts) both in
          let under : IsNumberUnder r.under other.id v = subst (λ (i : EventId). IsNumberUnder r.under i v) id_is (is.every v e came) in
          let node : e.node ≡ node_of r other.id = node_found r is other.id v e under came in
          let place : place_of (events_of seen) other.id ≡ j = place_is (events_of seen) j other (ids_differ seen) there in
          ap (at s.earliest.values) node ∙ value ∙ ap (λ (n : ℕ). x (nodes.Event n)) place
        where
          first_value : List Timed → ℤ
          first_value [] = pos 0
          first_value (t ∷ ts) = t.key.value

      key_same : (j v : ℕ) (e : Came) (other : Placed) → slice_get (events_of seen) j ≡ Some other → slice_get r.came v ≡ Some e → id_of e ≡ other.id → key_of_came s e ≡ key_at x j other
      key_same j v e other there came id_is =
          ap (λ (value : ℤ). let m : MergeKey = record { value = value; place = e.label; n = e.number } in m) (time_at j v e other there came id_is)
          ∙ ap (λ (i : EventId). let m : MergeKey = record { value = x (nodes.Event j); place = i.label; n = i.number } in m) id_is

      -- what comes first by number does by place
      pub first_placed : (v : ℕ) (e : Came) → slice_get r.came v ≡ Some e → IsFirstBefore s r.came v (length r.came) →
          (k : ℕ) × (event : Placed) × IsFirstEvent x (events_of seen) k event × (slice_get {X = ℕ × ℕ} (listed r).events k ≡ Some (v, e.node)) × (e.stamp ≡ event.seen.stamp) × (at s.earliest.values e.node ≡ x (nodes.Event k))
          × (event.id ≡ id_of e)
      first_placed v e came first =
          let q = placed_of v e came in
          let k = q.0 in
          let event = q.1 in
          (k, event, record { there = q.2; first = λ j other there. behind k event q.2 q.3 j other there }, q.4, stamp_is k v e event came q.4 q.2, time_at k v e event q.2 came (sym q.3), q.3)
        where
          behind : (k : ℕ) (event : Placed) → slice_get (events_of seen) k ≡ Some event → event.id ≡ id_of e → (j : ℕ) (other : Placed) → slice_get (events_of seen) j ≡ Some other → (j ≡ k) ⊎ ComesFirst (key_at x k event) (key_at x j other)
          behind k event here id_is j other there =
              let c = came_at j other there in
              let inside = slice_get_within r.came c.0 c.1 c.2 in
              let own : event_at r.came v ≡ e = get_or_from_slice_get r.came v e no_event came in
              let theirs : event_at r.came c.0 ≡ c.1 = get_or_from_slice_get r.came c.0 c.1 no_event c.2 in
              elim (first.each c.0 inside) [
                | inl same ↦
                    let one : c.1 ≡ e = some_same c.1 e (sym c.2 ∙ ap (λ (w : ℕ). slice_get r.came w) same ∙ came) in
                    let ids : other.id ≡ event.id = sym c.3 ∙ ap id_of one ∙ sym id_is in
                    inl (sym (place_is (events_of seen) j other (ids_differ seen) there) ∙ ap (place_of (events_of seen)) ids ∙ place_is (events_of seen) k event (ids_differ seen) here)
                | inr before ↦
                    let mine : key_of_came s (event_at r.came v) ≡ key_at x k event = ap (key_of_came s) own ∙ key_same k v e event here came (sym id_is) in
                    let other_key : key_of_came s (event_at r.came c.0) ≡ key_at x j other = ap (key_of_came s) theirs ∙ key_same j c.0 c.1 other there c.2 c.3 in
                    inr (subst (λ (m : MergeKey). ComesFirst m (key_at x j other)) mine (subst (ComesFirst (key_of_came s (event_at r.came v))) other_key before))
              ]

      pub first_from_zero : IsFromZero p x → (v : ℕ) (e : Came) → slice_get r.came v ≡ Some e → pos 0 ≤ℤ at s.earliest.values e.node
      first_from_zero zero_first v e came =
          let q = placed_of v e came in
          let inside = slice_get_within (events_of seen) q.0 q.1 q.2 in
          let many : length p.events ≡ length (events_of seen) = ap length problem_events ∙ length-map (events_of seen) (event_with r.declaration) in
          subst (λ (value : ℤ). pos 0 ≤ℤ value) (sym (time_at q.0 v e q.1 q.2 came (sym q.3))) (zero_first (nodes.Event q.0) (omega (arith, inside, many)))

-- ---- dates
later_by : (time date x : ℤ) → time ≡ x → x +ℤ (date -ℤ time) ≡ date
later_by time date x is = omega (arith, ints, is)

-- the dates that begin from the event that comes first
pub dated_from : (r : RosterLists) (is : IsRoster r) (s : SolverLists) (stamp : Option ℕ) (seen : List (List Seen)) (x : Times) → IsStartOf r s stamp seen
    → map (at s.earliest.values) (listed_nodes (listed r)) ≡ map x (nodes_of (problem_of_seen r.declaration seen) (all_readings (problem_of_seen r.declaration seen).events)) → IsEarliestExecution (problem_of_seen r.declaration seen) x
    → (v : ℕ) (e : Came) → slice_get r.came v ≡ Some e → IsFirstBefore s r.came v (length r.came) → (start : Start) → start.time ≡ at s.earliest.values e.node
    → ((place : ℕ) → IsEventAt (listed r) place e.node → IsDateOf (problem_of_seen r.declaration seen) r.declaration.source place e.stamp start.date) → AreDatedFrom r.declaration seen (shift_of start)
dated_from r is s stamp seen x begins same earliest v e came first start time date =
    let p = problem_of_seen r.declaration seen in
    let q = first_placed r is seen begins.holds s p (all_readings p.events) x same refl v e came first in
    record {
      times = x;
      earliest = earliest;
      place = q.0;
      event = q.1;
      first = q.2;
      date = start.date;
      is = subst (λ (n : ℕ). IsDateOf p r.declaration.source q.0 n start.date) q.4 (date q.0 (v, q.3));
      by = later_by start.time start.date (x (nodes.Event q.0)) (time ∙ q.5);
    }
