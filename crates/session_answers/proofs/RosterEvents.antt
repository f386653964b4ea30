-- The events of a roster, by number, by name and by place.
use Rattle.std.proofs.Common.{◌≡◌, ℕ, zero, suc, ◌+◌, ◌-◌, ◌<◌, ◌≤◌, List, [], ◌∷◌, length, map, slice_get, Some, None, refl, sym, ◌∙◌, ap, subst, arith}
use Rattle.std.proofs.lemmas.List.{length-map}
use Rattle.std.proofs.lemmas.List.Sums.{sum_by-cons}
use Rattle.std.proofs.lemmas.Option.{none-some, slice_get_within, get_or_from_slice_get}
use Rattle.problem_model.specs.declared.items.Node.TheVariants as nodes
use Rattle.problem_model.specs.Problem.{ProblemLists, IsProblem}
use Rattle.problem_model.specs.Nodes.{Reading}
use Rattle.problem.specs.Line.{HasEvent, IsUnknown}
use Rattle.problem.specs.Listing.{name_at}
use Rattle.problem.proofs.ListedNodes.{map_at}
use Rattle.problem.proofs.Taking.{one_place}
use Rattle.traces.specs.Seen.{Seen}
use Rattle.traces.proofs.Lists.{place_in}
use Rattle.traces.specs.declared.event_id.EventId.{EventId}
use Rattle.traces.specs.Traces.{event_count, name_of}
use Rattle.sync_graph.specs.Graph.{GraphLists}
use Rattle.problem_graph.specs.ListedProblem.{IsListedBy}
use Rattle.problem_graph.specs.ListedStanding.{IsEventAt}
use Rattle.roster.specs.declared.came.Came.{Came}
use Rattle.roster.specs.Groups.{total, sizes_of, group_at, IsPlaceOf}
use Rattle.roster.specs.Roster.{RosterLists, IsRoster, HoldsEvents, Finds, IsNumberUnder, id_of, no_event, event_at, listed}
use Rattle.roster.proofs.Telling.{among}
use Rattle.roster.proofs.Turns.{from_turn, in_turn_at}
use Rattle.roster.specs.Rosters.{KnowsNodes}
use Rattle.replies.specs.Reply.{IsPlacedAt}
use Rattle.session_answers.specs.Ready.{HasNodeOf}
use Rattle.session_answers.specs.Keeping.{IsCalled}
use Rattle.replies.proofs.Elements.{some_same}
use Rattle.replies.proofs.Placing.{ids_at}

-- ---- places among groups
place_among : {T : Type 0} (groups : List (List T)) (h k : ℕ) (x : T) → slice_get (group_at groups h) k ≡ Some x → (place : ℕ) × IsPlaceOf (sizes_of groups) place h k
place_among [] zero k x at = absurd (none-some x at)
place_among [] (suc h) k x at = absurd (none-some x at)
place_among (group ∷ groups) zero k x at = (k, (refl, slice_get_within group k x at))
place_among (group ∷ groups) (suc h) k x at =
    let more = place_among groups h k x at in
    let past : length group ≤ length group + more.0 = omega arith in
    let back : more.0 ≡ length group + more.0 - length group = omega arith in
    (length group + more.0, (past, subst (λ (n : ℕ). IsPlaceOf (sizes_of groups) n h k) back more.1))

-- as many numbers as events under each label
lengths : (f : ℕ → ℕ) (under : List (List ℕ)) (seen : List (List Seen)) → map (λ (vs : List ℕ). map f vs) under ≡ map (λ (ss : List Seen). map (λ (s : Seen). s.stamp) ss) seen →
    map (λ (vs : List ℕ). length vs) under ≡ map (λ (ss : List Seen). length ss) seen
lengths f [] [] e = refl
lengths f [] (ss ∷ seen) e = absurd (cc)
lengths f (vs ∷ under) [] e = absurd (cc)
lengths f (vs ∷ under) (ss ∷ seen) e =
    let one : map f vs ≡ map (λ (s : Seen). s.stamp) ss = cc in
    let rest : map (λ (vs : List ℕ). map f vs) under ≡ map (λ (ss : List Seen). map (λ (s : Seen). s.stamp) ss) seen = cc in
    let long : length vs ≡ length ss = omega (arith, ap length one, length-map vs f, length-map ss (λ (s : Seen). s.stamp)) in
    ap (λ (n : ℕ). n ∷ map (λ (vs : List ℕ). length vs) under) long ∙ ap (λ (l : List ℕ). length ss ∷ l) (lengths f under seen rest)

total_count : (seen : List (List Seen)) → total (map (λ (ss : List Seen). length ss) seen) ≡ event_count seen
total_count [] = refl
total_count (s ∷ seen) = let c = sum_by-cons length s seen in let m = total_count seen in omega (arith, c, m)

pub mapped_at : {A B : Type 0} (f : A → B) (xs : List A) (k : ℕ) (y : B) → slice_get (map f xs) k ≡ Some y → (x : A) × (slice_get xs k ≡ Some x) × (f x ≡ y)
mapped_at f [] k y at = absurd (none-some y at)
mapped_at f (x ∷ xs) zero y at = (x, refl, some_same (f x) y at)
mapped_at f (x ∷ xs) (suc k) y at = mapped_at f xs k y at

-- ---- a roster
module _ (r : RosterLists) (is : IsRoster r) where
  -- an event's place in the listing is that among the groups of its label
  pub event_place : (v : ℕ) (e : Came) → slice_get r.came v ≡ Some e →
      (place : ℕ) × (slice_get {X = ℕ × ℕ} (listed r).events place ≡ Some (v, e.node)) × IsPlaceOf (sizes_of r.under) place e.label (e.number - 1)
  event_place v e at =
      let own = is.every v e at in
      let here = place_among r.under e.label own.0 v own.2 in
      let node : (event_at r.came v).node ≡ e.node = ap (λ (x : Came). x.node) (get_or_from_slice_get r.came v e no_event at) in
      let s : e.number ≡ suc own.0 = own.1 in
      let n : own.0 ≡ e.number - 1 = omega (arith, s) in (
        here.0,
        in_turn_at {T = ℕ} {X = ℕ × ℕ} (λ g w. (w, (event_at r.came w).node)) 0 r.under here.0 e.label own.0 v here.1 own.2 ∙ ap (λ (m : ℕ). Some (v, m)) node,
        subst (λ (m : ℕ). IsPlaceOf (sizes_of r.under) here.0 e.label m) n here.1,
      )

  listed_came : (k : ℕ) (x : ℕ × ℕ) → slice_get {X = ℕ × ℕ} (listed r).events k ≡ Some x → (e : Came) × (slice_get r.came x.0 ≡ Some e)
  listed_came k x at =
      let t = from_turn {T = ℕ} {X = ℕ × ℕ} (λ g w. (w, (event_at r.came w).node)) 0 r.under x (among {X = ℕ × ℕ} (listed r).events k x at) in
      let j = place_in (group_at r.under t.0) t.1 t.2 in
      let e = is.numbered t.0 j.0 t.1 j.1 in
      let same : t.1 ≡ x.0 = ap (λ (y : ℕ × ℕ). y.0) t.3 in
      (e.0, subst (λ (w : ℕ). slice_get r.came w ≡ Some e.0) same e.1)

  -- ---- events and nodes
  -- an event has one node
  pub node_of_one : (event : EventId) (n m : ℕ) → HasNodeOf r event n → HasNodeOf r event m → n ≡ m
  node_of_one event n m a b =
      let x : IsNumberUnder r.under event a.number = subst (λ (i : EventId). IsNumberUnder r.under i a.number) a.id_is (is.every a.number a.came a.there) in
      let y : IsNumberUnder r.under event b.number = subst (λ (i : EventId). IsNumberUnder r.under i b.number) b.id_is (is.every b.number b.came b.there) in
      let s : suc x.0 ≡ suc y.0 = sym x.1 ∙ y.1 in
      let k : x.0 ≡ y.0 = omega (arith, s) in
      let number : a.number ≡ b.number = some_same a.number b.number (sym x.2 ∙ ap (λ (j : ℕ). slice_get (group_at r.under event.label) j) k ∙ y.2) in
      let came : a.came ≡ b.came = some_same a.came b.came (sym a.there ∙ ap (λ (v : ℕ). slice_get r.came v) number ∙ b.there) in
      sym a.node_is ∙ ap (λ (c : Came). c.node) came ∙ b.node_is

  -- a node is that of one event
  pub event_of_one : (g : GraphLists) → KnowsNodes r g → (event other : EventId) (node : ℕ) → HasNodeOf r event node → HasNodeOf r other node → event ≡ other
  event_of_one g knows event other node a b =
      let x : slice_get g.nodes node ≡ Some (nodes.Event a.number) = subst (λ (n : ℕ). slice_get g.nodes n ≡ Some (nodes.Event a.number)) a.node_is (knows.events a.number a.came a.there) in
      let y : slice_get g.nodes node ≡ Some (nodes.Event b.number) = subst (λ (n : ℕ). slice_get g.nodes n ≡ Some (nodes.Event b.number)) b.node_is (knows.events b.number b.came b.there) in
      let same : nodes.Event a.number ≡ nodes.Event b.number = some_same (nodes.Event a.number) (nodes.Event b.number) (sym x ∙ y) in
      let number : a.number ≡ b.number = cc in
      let came : a.came ≡ b.came = some_same a.came b.came (sym a.there ∙ ap (λ (v : ℕ). slice_get r.came v) number ∙ b.there) in
      sym a.id_is ∙ ap id_of came ∙ b.id_is

  pub node_inside : (g : GraphLists) → KnowsNodes r g → (event : EventId) (node : ℕ) → HasNodeOf r event node → node < length g.nodes
  node_inside g knows event node a =
      let x : slice_get g.nodes node ≡ Some (nodes.Event a.number) = subst (λ (n : ℕ). slice_get g.nodes n ≡ Some (nodes.Event a.number)) a.node_is (knows.events a.number a.came a.there) in
      slice_get_within g.nodes node (nodes.Event a.number) x

  -- ---- names
  pub found_inside : (name : List ℕ) (v : ℕ) → Finds r name (Some v) → v < length r.came
  found_inside name v found =
      let inside = slice_get_within (listed r).event_names v name found in
      let long = length-map r.came (λ (c : Came). name_of r.declaration (id_of c)) in
      omega (arith, inside, long)

  pub called_here : (name : List ℕ) (v : ℕ) (e : Came) → Finds r name (Some v) → slice_get r.came v ≡ Some e → IsCalled r name (id_of e) e.node
  called_here name v e found at = record {
    known = record { number = v; came = e; there = at; id_is = refl; node_is = refl };
    named = some_same (name_of r.declaration (id_of e)) name (sym (map_at (λ (c : Came). name_of r.declaration (id_of c)) r.came v e at) ∙ found);
  }

  -- ---- what the roster holds
  module _ (seen : List (List Seen)) (holds : HoldsEvents r seen) where
    pub sizes_are : sizes_of r.under ≡ map (λ (ss : List Seen). length ss) seen
    sizes_are = lengths (λ (v : ℕ). (event_at r.came v).stamp) r.under seen holds

    pub came_count : length r.came ≡ event_count seen
    came_count =
        let all : total (sizes_of r.under) ≡ length r.came = is.count in
        let sizes : total (sizes_of r.under) ≡ total (map (λ (ss : List Seen). length ss) seen) = ap total sizes_are in
        let count = total_count seen in
        omega (arith, all, sizes, count)

    pub labels_are : length seen ≡ length r.declaration.labels
    labels_are =
        let a = length-map seen (λ (ss : List Seen). length ss) in
        let b : length (sizes_of r.under) ≡ length r.under = length-map r.under (λ (vs : List ℕ). length vs) in
        let c : length (sizes_of r.under) ≡ length (map (λ (ss : List Seen). length ss) seen) = ap length sizes_are in
        let d : length r.under ≡ length r.declaration.labels = is.labels in
        omega (arith, a, b, c, d)

    -- the event at an event's place is this one
    pub placed_at : (event : EventId) (node : ℕ) (a : HasNodeOf r event node) → IsPlacedAt seen (event_place a.number a.came a.there).0 event
    placed_at event node a =
        let x = event_place a.number a.came a.there in
        let at : IsPlaceOf (map (λ (ss : List Seen). length ss) seen) x.0 a.came.label (a.came.number - 1) =
        subst (λ (ns : List ℕ). IsPlaceOf ns x.0 a.came.label (a.came.number - 1)) sizes_are x.2 in
        let own = is.every a.number a.came a.there in
        let s : a.came.number ≡ suc own.0 = own.1 in
        let label : 0 + a.came.label ≡ a.came.label = omega arith in
        let number : a.came.number - 1 + 1 ≡ a.came.number = omega (arith, s) in
        ids_at 0 seen x.0 a.came.label (a.came.number - 1) at
        ∙ ap (λ (l : ℕ). Some (let i : EventId = record { label = l; number = a.came.number - 1 + 1 } in i)) label
        ∙ ap (λ (n : ℕ). Some (let i : EventId = record { label = a.came.label; number = n } in i)) number
        ∙ ap (λ (i : EventId). Some i) a.id_is

  -- ---- the problem that it lists
  module _ (p : ProblemLists) (readings : List Reading) (listed_by : IsListedBy (listed r) p readings) where
    -- the event of a name stands at its place in the problem
    pub called : (name : List ℕ) (event : EventId) (node : ℕ) (a : IsCalled r name event node) →
        let place = (event_place a.known.number a.known.came a.known.there).0 in HasEvent p place name × IsEventAt (listed r) place node
    called name event node a =
        let k = a.known in
        let x = event_place k.number k.came k.there in
        let own : name_at (listed r).event_names k.number ≡ name_of r.declaration (id_of k.came) =
        get_or_from_slice_get (listed r).event_names k.number (name_of r.declaration (id_of k.came)) [] (map_at (λ (e : Came). name_of r.declaration (id_of e)) r.came k.number k.came k.there) in
        let there : slice_get (map {A = ℕ × ℕ} {B = List ℕ} (λ e. name_at (listed r).event_names e.0) (listed r).events) x.0 ≡ Some name =
        map_at {X = ℕ × ℕ} {Y = List ℕ} (λ e. name_at (listed r).event_names e.0) (listed r).events x.0 (k.number, k.came.node) x.1
        ∙ ap (λ (n : List ℕ). Some n) (own ∙ ap (λ (i : EventId). name_of r.declaration i) k.id_is ∙ a.named) in
        (subst (λ (ns : List (List ℕ)). slice_get ns x.0 ≡ Some name) listed_by.events there, (k.number, x.1 ∙ ap (λ (m : ℕ). Some (k.number, m)) k.node_is))

    -- and what no event of the roster is called no event of the problem is
    pub unknown : (name : List ℕ) → Finds r name None → IsUnknown p name
    unknown name none k at =
        let here : slice_get (map {A = ℕ × ℕ} {B = List ℕ} (λ e. name_at (listed r).event_names e.0) (listed r).events) k ≡ Some name = subst (λ (ns : List (List ℕ)). slice_get ns k ≡ Some name) (sym listed_by.events) at in
        let x = mapped_at {A = ℕ × ℕ} {B = List ℕ} (λ e. name_at (listed r).event_names e.0) (listed r).events k name here in
        let e = listed_came k x.0 x.1 in
        let own : slice_get (listed r).event_names x.0.0 ≡ Some (name_of r.declaration (id_of e.0)) = map_at (λ (c : Came). name_of r.declaration (id_of c)) r.came x.0.0 e.0 e.1 in
        let same : name_at (listed r).event_names x.0.0 ≡ name_of r.declaration (id_of e.0) = get_or_from_slice_get (listed r).event_names x.0.0 (name_of r.declaration (id_of e.0)) [] own in
        none x.0.0 (own ∙ ap (λ (n : List ℕ). Some n) (sym same ∙ x.2))

    -- all that are called so have one node
    pub one_node : IsProblem p → (name : List ℕ) (event other : EventId) (node again : ℕ) → IsCalled r name event node → IsCalled r name other again → node ≡ again
    one_node lawful name event other node again a b =
        let x = called name event node a in
        let y = called name other again b in
        let place = (event_place a.known.number a.known.came a.known.there).0 in
        let place' = (event_place b.known.number b.known.came b.known.there).0 in
        let same : place ≡ place' = one_place p place place' name lawful x.0 y.0 in
        let one : (x.1.0, node) ≡ (y.1.0, again) = some_same {A = ℕ × ℕ} (x.1.0, node) (y.1.0, again) (sym x.1.1 ∙ ap (λ (k : ℕ). slice_get {X = ℕ × ℕ} (listed r).events k) same ∙ y.1.1) in
        ap (λ (t : ℕ × ℕ). t.1) one
