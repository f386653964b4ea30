-- What a roster holds, by number and by place.
use Rattle.std.proofs.Common.{◌≡◌, ◌≢◌, ◌<◌, ◌≤◌, ◌+◌, ℕ, zero, suc, List, [], ◌∷◌, ◌++◌, length, map, get_or, slice_get, Some, Contains, AllPairs, refl, sym, ◌∙◌, ap, subst, arith}
use Rattle.std.proofs.lemmas.List.{map-append, length-map}
use Rattle.std.proofs.lemmas.Option.{none-some, same_Some, slice_get-get_or, get_or_from_slice_get}
use Rattle.problem_model.specs.declared.items.Event.{Event}
use Rattle.problem_model.specs.declared.items.Message.{Message}
use Rattle.problem_model.specs.declared.items.Node.TheVariants as nodes
use Rattle.problem_model.specs.Bounds.{EventAt}
use Rattle.problem.proofs.ListedNodes.{map_at}
use Rattle.decl.specs.Declaration.{Declaration, follows_of}
use Rattle.sync_graph.specs.Graph.{GraphLists}
use Rattle.traces.specs.Seen.{Seen}
use Rattle.traces.specs.declared.event_id.EventId.{EventId}
use Rattle.traces.specs.Traces.{numbered, events_from, name_of, clock_of}
use Rattle.traces.specs.Messages.{bounds_of, event_with, problem_of_seen}
use Rattle.traces.proofs.Members.{no_pairs, pairs_joined}
use Rattle.traces.proofs.Lists.{place_in, pairs_map}
use Rattle.roster.specs.declared.came.Came.{Came}
use Rattle.roster.specs.Groups.{group_at}
use Rattle.roster.specs.Readings.{Stamped}
use Rattle.roster.specs.Roster.{RosterLists, id_of, no_event, event_at, IsRoster, IsGrown, HoldsEvents, came_from, in_turn, listed}
use Rattle.roster.proofs.Turns.{map-in_turn, from_map, from_turn, into_turn}
use Rattle.roster.proofs.Telling.{among}
use Rattle.roster.specs.Withdrawing.{IsMore, AreMore}
use Rattle.roster.specs.ByNumber.{IsByNumber, AreCarriedMessages, TellsNodes}
use Rattle.roster.specs.Rosters.{named_event, problem_by_number, KnowsNodes}

-- ---- numbers in their turn differ
abbrev plain : ℕ → ℕ → ℕ
plain g v = v

module _ (id : ℕ → EventId) where
  abbrev AreIds : ℕ → List (List ℕ) → Type 0
  AreIds g groups = (h k v : ℕ) → slice_get (group_at groups h) k ≡ Some v → ((id v).label ≡ g + h) × ((id v).number ≡ suc k)

  next_ids : (g : ℕ) (group : List ℕ) (groups : List (List ℕ)) → AreIds g (group ∷ groups) → AreIds (g + 1) groups
  next_ids g group groups are h k v at = let x = are (suc h) k v at in ((let l = x.0 in omega (arith, l)), x.1)

  in_group : (g : ℕ) (group : List ℕ) (groups : List (List ℕ)) → AreIds g (group ∷ groups) → AllPairs (λ (i j : ℕ). i ≢ j) (map (plain g) group)
  in_group g group groups are = pairs_map (λ (i j : ℕ). i ≢ j) (plain g) group (λ i j d less inside same. (
      let a = are 0 i (get_or group i d) (slice_get-get_or group i d (omega (arith, less, inside))) in
      let b = are 0 j (get_or group j d) (slice_get-get_or group j d inside) in
      let n : suc i ≡ suc j = sym a.1 ∙ ap (λ (v : ℕ). (id v).number) same ∙ b.1 in
      omega (arith, less, n)))

  label_of : (g : ℕ) (groups : List (List ℕ)) (v : ℕ) → AreIds g groups → Contains (in_turn plain g groups) v → g ≤ (id v).label
  label_of g groups v are has =
      let x = from_turn plain g groups v has in
      let k = place_in (group_at groups x.0) x.1 x.2 in
      let i = are x.0 k.0 x.1 k.1 in
      let same : (id x.1).label ≡ (id v).label = ap (λ (n : ℕ). (id n).label) x.3 in
      let l = i.0 in
      omega (arith, l, same)

  pub turns_differ : (g : ℕ) (groups : List (List ℕ)) → AreIds g groups → AllPairs (λ (i j : ℕ). i ≢ j) (in_turn plain g groups)
  turns_differ g [] are = no_pairs (λ (i j : ℕ). i ≢ j)
  turns_differ g (group ∷ groups) are =
      pairs_joined (λ (i j : ℕ). i ≢ j) (map (plain g) group) (in_turn plain (g + 1) groups) (in_group g group groups are) (turns_differ (g + 1) groups (next_ids g group groups are))
      (λ i d inside j e within same. (
      let first = from_map (plain g) group (get_or (map (plain g) group) i d) (i, inside, again (map (plain g) group) i d inside) in
      let k = place_in group first.0 first.1 in
      let own = (are 0 k.0 first.0 k.1).0 in
      let here' : (id first.0).label ≡ (id (get_or (map (plain g) group) i d)).label = ap (λ (n : ℕ). (id n).label) first.2 in
      let past = label_of (g + 1) groups (get_or (in_turn plain (g + 1) groups) j e) (next_ids g group groups are) (j, within, again (in_turn plain (g + 1) groups) j e within) in
      let one : (id (get_or (map (plain g) group) i d)).label ≡ (id (get_or (in_turn plain (g + 1) groups) j e)).label = ap (λ (n : ℕ). (id n).label) same in
      omega (arith, own, here', past, one)))
    where
      again : (xs : List ℕ) (k d : ℕ) → k < length xs → get_or xs k (get_or xs k d) ≡ get_or xs k d
      again [] k d inside = absurd (omega (arith, inside))
      again (x ∷ xs) zero d inside = refl
      again (x ∷ xs) (suc k) d inside = again xs k d (omega (arith, inside))

-- ---- events in their order
module _ (d : Declaration) (f : ℕ → Event) where
  abbrev AreEvents : ℕ → ℕ → List ℕ → List Seen → Type 0
  AreEvents label n vs ss = (k v number : ℕ) (s : Seen) → slice_get vs k ≡ Some v → slice_get ss k ≡ Some s → number ≡ n + k → f v ≡ event_with d (record { id = record { label = label; number = number }; seen = s })

  group_events : (label n : ℕ) (vs : List ℕ) (ss : List Seen) → length vs ≡ length ss → AreEvents label n vs ss → map f vs ≡ map (event_with d) (numbered label n ss)
  group_events label n [] [] long are = refl
  group_events label n [] (s ∷ ss) long are = absurd (omega (arith, long))
  group_events label n (v ∷ vs) [] long are = absurd (omega (arith, long))
  group_events label n (v ∷ vs) (s ∷ ss) long are =
      let first : f v ≡ event_with d (record { id = record { label = label; number = n }; seen = s }) = are 0 v n s refl refl (omega arith) in
      let rest : map f vs ≡ map (event_with d) (numbered label (n + 1) ss) = group_events label (n + 1) vs ss (omega (arith, long)) (λ k w number x at at' is. are (suc k) w number x at at' (omega (arith, is))) in
      ap (λ (x : Event). x ∷ map f vs) first ∙ ap (λ (l : List Event). event_with d (record { id = record { label = label; number = n }; seen = s }) ∷ l) rest

  turn_events : (g : ℕ) (under : List (List ℕ)) (seen : List (List Seen)) → map (λ (vs : List ℕ). length vs) under ≡ map (λ (ss : List Seen). length ss) seen → ((h : ℕ) → AreEvents (g + h) 1 (group_at under h) (group_at seen h)) →
      in_turn {T = ℕ} {X = Event} (λ n v. f v) g under ≡ map (event_with d) (events_from g seen)
  turn_events g [] [] long are = refl
  turn_events g [] (ss ∷ seen) long are = absurd (cc)
  turn_events g (vs ∷ under) [] long are = absurd (cc)
  turn_events g (vs ∷ under) (ss ∷ seen) long are =
      let one : length vs ≡ length ss = cc in
      let rest : map (λ (vs : List ℕ). length vs) under ≡ map (λ (ss : List Seen). length ss) seen = cc in
      let first : map f vs ≡ map (event_with d) (numbered g 1 ss) = group_events g 1 vs ss one (subst (λ (l : ℕ). AreEvents l 1 vs ss) (let e : g + 0 ≡ g = omega arith in e) (are 0)) in
      let more : in_turn {T = ℕ} {X = Event} (λ n v. f v) (g + 1) under ≡ map (event_with d) (events_from (g + 1) seen) =
      turn_events (g + 1) under seen rest (λ h. subst (λ (l : ℕ). AreEvents l 1 (group_at under h) (group_at seen h)) (let e : g + suc h ≡ g + 1 + h = omega arith in e) (are (suc h))) in
      ap (λ (l : List Event). l ++ in_turn {T = ℕ} {X = Event} (λ n v. f v) (g + 1) under) first
      ∙ ap (λ (l : List Event). map (event_with d) (numbered g 1 ss) ++ l) more
      ∙ sym (map-append (event_with d) (numbered g 1 ss) (events_from (g + 1) seen))

-- ---- a roster
module _ (r : RosterLists) (is : IsRoster r) (seen : List (List Seen)) (holds : HoldsEvents r seen) where
  abbrev stamp_by : ℕ → ℕ
  stamp_by v = (event_at r.came v).stamp

  abbrev id_by : ℕ → EventId
  id_by v = id_of (event_at r.came v)

  abbrev event_by : ℕ → Event
  event_by v = named_event r.declaration (event_at r.came v)

  event_is : (v : ℕ) (e : Came) → slice_get r.came v ≡ Some e → event_at r.came v ≡ e
  event_is v e at = get_or_from_slice_get r.came v e no_event at

  ids : AreIds id_by 0 r.under
  ids h k v at =
      let e = is.numbered h k v at in
      let same : id_by v ≡ record { label = h; number = suc k } = ap id_of (event_is v e.0 e.1) ∙ e.2 in
      let label : (id_by v).label ≡ h = ap (λ (i : EventId). i.label) same in
      (omega (arith, label), ap (λ (i : EventId). i.number) same)

  lengths : (under : List (List ℕ)) (seen : List (List Seen)) → map (map stamp_by) under ≡ map (λ (ss : List Seen). map (λ (s : Seen). s.stamp) ss) seen → map (λ (vs : List ℕ). length vs) under ≡ map (λ (ss : List Seen). length ss) seen
  lengths [] [] e = refl
  lengths [] (ss ∷ seen) e = absurd (cc)
  lengths (vs ∷ under) [] e = absurd (cc)
  lengths (vs ∷ under) (ss ∷ seen) e =
      let one : map stamp_by vs ≡ map (λ (s : Seen). s.stamp) ss = cc in
      let rest : map (map stamp_by) under ≡ map (λ (ss : List Seen). map (λ (s : Seen). s.stamp) ss) seen = cc in
      let long : length vs ≡ length ss = omega (arith, ap length one, length-map vs stamp_by, length-map ss (λ (s : Seen). s.stamp)) in
      ap (λ (n : ℕ). n ∷ map (λ (vs : List ℕ). length vs) under) long ∙ ap (λ (l : List ℕ). length ss ∷ l) (lengths under seen rest)

  same_stamp : (under : List (List ℕ)) (seen : List (List Seen)) → map (map stamp_by) under ≡ map (λ (ss : List Seen). map (λ (s : Seen). s.stamp) ss) seen → (h k v : ℕ) (s : Seen) → slice_get (group_at under h) k ≡ Some v → slice_get (group_at seen h) k ≡ Some s → stamp_by v ≡ s.stamp
  same_stamp [] [] e zero k v s at at' = absurd (none-some v at)
  same_stamp [] [] e (suc h) k v s at at' = absurd (none-some v at)
  same_stamp [] (ss ∷ seen) e h k v s at at' = absurd (cc)
  same_stamp (vs ∷ under) [] e h k v s at at' = absurd (cc)
  same_stamp (vs ∷ under) (ss ∷ seen) e zero k v s at at' = (let one : map stamp_by vs ≡ map (λ (x : Seen). x.stamp) ss = cc in in_one vs ss k one at at')
    where
      in_one : (vs : List ℕ) (ss : List Seen) (k : ℕ) → map stamp_by vs ≡ map (λ (x : Seen). x.stamp) ss → slice_get vs k ≡ Some v → slice_get ss k ≡ Some s → stamp_by v ≡ s.stamp
      in_one [] ss k e at at' = absurd (none-some v at)
      in_one (w ∷ vs) [] k e at at' = absurd (none-some s at')
      in_one (w ∷ vs) (x ∷ ss) zero e at at' = let head : stamp_by w ≡ x.stamp = cc in ap stamp_by (sym (same_Some w v at)) ∙ head ∙ ap (λ (y : Seen). y.stamp) (same_Some x s at')
      in_one (w ∷ vs) (x ∷ ss) (suc k) e at at' = let rest : map stamp_by vs ≡ map (λ (x : Seen). x.stamp) ss = cc in in_one vs ss k rest at at'
  same_stamp (vs ∷ under) (ss ∷ seen) e (suc h) k v s at at' = let rest : map (map stamp_by) under ≡ map (λ (ss : List Seen). map (λ (s : Seen). s.stamp) ss) seen = cc in same_stamp under seen rest h k v s at at'

  are_events : (h : ℕ) → AreEvents r.declaration event_by (0 + h) 1 (group_at r.under h) (group_at seen h)
  are_events h k v number s at at' n =
      let e = is.numbered h k v at in
      let on : suc k ≡ number = omega (arith, n) in
      let back : h ≡ 0 + h = omega arith in
      let id : id_by v ≡ record { label = 0 + h; number = number } =
      ap id_of (event_is v e.0 e.1) ∙ e.2 ∙ ap (λ (m : ℕ). let i : EventId = record { label = h; number = m } in i) on ∙ ap (λ (l : ℕ). let i : EventId = record { label = l; number = number } in i) back in
      let stamp = same_stamp r.under seen holds h k v s at at' in
      let d = r.declaration in
      ap (λ (i : EventId). let x : Event = record { name = name_of d i; clock = clock_of d i; stamp = stamp_by v; bounds = bounds_of d i } in x) id
      ∙ ap (λ (t : ℕ). let x : Event = record { name = name_of d (record { label = 0 + h; number = number }); clock = clock_of d (record { label = 0 + h; number = number }); stamp = t; bounds = bounds_of d (record { label = 0 + h; number = number }) } in x) stamp

  -- the listed events are those of the problem, in their order
  pub events_are : map {A = ℕ × ℕ} {B = Event} (λ e. event_by e.0) (listed r).events ≡ (problem_of_seen r.declaration seen).events
  events_are =
      map-in_turn {T = ℕ} {X = ℕ × ℕ} {Y = Event} (λ e. event_by e.0) (λ g v. (v, (event_at r.came v).node)) 0 r.under
      ∙ turn_events r.declaration event_by 0 r.under seen (lengths r.under seen holds) are_events

  numbers_are : map {A = ℕ × ℕ} {B = ℕ} (λ e. e.0) (listed r).events ≡ in_turn {T = ℕ} {X = ℕ} plain 0 r.under
  numbers_are = map-in_turn {T = ℕ} {X = ℕ × ℕ} {Y = ℕ} (λ e. e.0) (λ g v. (v, (event_at r.came v).node)) 0 r.under

  named_at : (messages : List Message) (v : ℕ) (e : Event) → EventAt (problem_by_number r messages) v e → (x : Came) × (slice_get r.came v ≡ Some x) × (named_event r.declaration x ≡ e)
  named_at messages v e at = from_named r.came v at
    where
      from_named : (came : List Came) (v : ℕ) → slice_get (map (named_event r.declaration) came) v ≡ Some e → (x : Came) × (slice_get came v ≡ Some x) × (named_event r.declaration x ≡ e)
      from_named [] v at = absurd (none-some e at)
      from_named (x ∷ came) zero at = (x, refl, same_Some (named_event r.declaration x) e at)
      from_named (x ∷ came) (suc v) at = from_named came v at

  pub by_number : (messages : List Message) → AreCarriedMessages (listed r) messages (problem_of_seen r.declaration seen).messages → IsByNumber (listed r) (problem_by_number r messages) (problem_of_seen r.declaration seen)
  by_number messages carried = record {
    clocks = refl;
    follows = refl;
    numbers_differ = subst (AllPairs (λ (j k : ℕ). j ≢ k)) (sym numbers_are) (turns_differ id_by 0 r.under ids);
    placed = λ v place e (node, stands) at. (
        let x = named_at messages v e at in
        let there' : slice_get (problem_of_seen r.declaration seen).events place ≡ Some (event_by v) = subst (λ (es : List Event). slice_get es place ≡ Some (event_by v)) events_are (map_at {X = ℕ × ℕ} (λ y. event_by y.0) (listed r).events place (v, node) stands) in
        there' ∙ ap Some (ap (named_event r.declaration) (event_is v x.0 x.1) ∙ x.2));
    every_event = λ v e at. (
        let x = named_at messages v e at in
        let own = is.every v x.0 x.1 in
        let in' = into_turn {T = ℕ} {X = ℕ × ℕ} (λ g w. (w, (event_at r.came w).node)) 0 r.under x.0.label v (among (group_at r.under x.0.label) own.0 v own.2) in
        let place = place_in {X = ℕ × ℕ} (listed r).events (v, (event_at r.came v).node) in' in
        (place.0, ((event_at r.came v).node, place.1)));
    numbered = λ v place (node, stands). (
        let x = from_turn {T = ℕ} {X = ℕ × ℕ} (λ g w. (w, (event_at r.came w).node)) 0 r.under (v, node) (among {X = ℕ × ℕ} (listed r).events place (v, node) stands) in
        let k = place_in (group_at r.under x.0) x.1 x.2 in
        let e = is.numbered x.0 k.0 x.1 k.1 in
        let same : x.1 ≡ v = ap (λ (y : ℕ × ℕ). y.0) x.3 in
        (named_event r.declaration e.0, subst (λ (w : ℕ). EventAt (problem_by_number r messages) w (named_event r.declaration e.0)) same (map_at (named_event r.declaration) r.came x.1 e.0 e.1)));
    messages = carried;
  }

-- ---- nodes
module _ (r : RosterLists) (is : IsRoster r) (g : GraphLists) (knows : KnowsNodes r g) where
  pub tells : TellsNodes (listed r) g
  tells = record {
    events = λ v node has. (
        let x = from_turn {T = ℕ} {X = ℕ × ℕ} (λ h w. (w, (event_at r.came w).node)) 0 r.under (v, node) has in
        let k = place_in (group_at r.under x.0) x.1 x.2 in
        let e = is.numbered x.0 k.0 x.1 k.1 in
        let same : x.1 ≡ v = ap (λ (y : ℕ × ℕ). y.0) x.3 in
        let own : e.0.node ≡ node = ap (λ (c : Came). c.node) (sym (get_or_from_slice_get r.came x.1 e.0 no_event e.1)) ∙ ap (λ (y : ℕ × ℕ). y.1) x.3 in
        subst (λ (n : ℕ). slice_get g.nodes n ≡ Some (nodes.Event v)) own (knows.events x.1 e.0 e.1 ∙ ap (λ (w : ℕ). Some (nodes.Event w)) same));
    readings = λ clock stamp node has. (
        let x = from_turn {T = Stamped} {X = ℕ × ℕ × ℕ} (λ h s. (h, s.0, s.1)) 0 r.readings (clock, stamp, node) has in
        let on : 0 + x.0 ≡ clock = ap (λ (y : ℕ × ℕ × ℕ). y.0) x.3 in
        let own : x.0 ≡ clock = omega (arith, on) in
        let is_stamp : x.1.0 ≡ stamp = ap (λ (y : ℕ × ℕ × ℕ). y.1) x.3 in
        let is_node : x.1.1 ≡ node = ap (λ (y : ℕ × ℕ × ℕ). y.2) x.3 in
        subst (λ (n : ℕ). slice_get g.nodes n ≡ Some (nodes.Reading clock stamp)) is_node
        (knows.readings x.0 x.1 x.2 ∙ ap (λ (c : ℕ). Some (nodes.Reading c x.1.0)) own ∙ ap (λ (s : ℕ). Some (nodes.Reading clock s)) is_stamp));
  }

-- ---- a push
map_came : (d : Declaration) (xs ys : List Came) → map (named_event d) (xs ++ ys) ≡ map (named_event d) xs ++ map (named_event d) ys
map_came d xs ys = map-append (named_event d) xs ys

pub more_events : (old new : RosterLists) (label : ℕ) (stamps : List ℕ) (before after withdrawn : List Message) → IsGrown old new label stamps → AreMore before after (length old.came) withdrawn → IsMore (problem_by_number old before) (problem_by_number new after) withdrawn
more_events old new label stamps before after withdrawn grown messages =
    let came : List Came = came_from label (length (group_at old.under label) + 1) stamps in
    record {
      clocks = ap (λ (d : Declaration). d.clocks) grown.declaration;
      follows = ap follows_of grown.declaration;
      more = map (named_event old.declaration) came;
      events = ap (λ (d : Declaration). map (named_event d) new.came) grown.declaration ∙ ap (map (named_event old.declaration)) grown.came ∙ map_came old.declaration old.came came;
      messages = subst (λ (n : ℕ). AreMore before after n withdrawn) (sym (length-map old.came (named_event old.declaration))) messages;
    }
