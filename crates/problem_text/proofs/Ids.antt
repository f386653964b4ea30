-- The events of a roster and those that it holds, by their ids.
use Rattle.std.proofs.Common.{◌≡◌, ◌<◌, ℕ, ◌+◌, ◌-◌, suc, List, [], ◌∷◌, ◌++◌, length, map, get_or, slice_get, Some, Contains, refl, sym, ◌∙◌, ap, subst, arith}
use Rattle.std.proofs.lemmas.List.{length-map, map-append}
use Rattle.std.proofs.lemmas.Option.{get_or_from_slice_get, same_Some, slice_get_within}
use Rattle.problem.proofs.ListedNodes.{map_at}
use Rattle.traces.specs.Seen.{Seen}
use Rattle.traces.specs.declared.event_id.EventId.{EventId}
use Rattle.traces.specs.Traces.{Placed, numbered, events_from, events_of, name_of}
use Rattle.traces.proofs.Lists.{got, place_in}
use Rattle.roster.specs.declared.came.Came.{Came}
use Rattle.roster.specs.Groups.{group_at}
use Rattle.roster.specs.Roster.{RosterLists, id_of, no_event, event_at, IsRoster, HoldsEvents, in_turn, listed}
use Rattle.roster.proofs.Telling.{among}
use Rattle.roster.proofs.Turns.{from_turn, map-in_turn}
use Rattle.roster.specs.Told.{number_of}

-- ---- ids in their turn
abbrev made : ℕ → ℕ → EventId
made label number = record { label = label; number = number }

module _ (f : ℕ → EventId) where
  abbrev AreIds : ℕ → ℕ → List ℕ → Type 0
  AreIds label n vs = (k v number : ℕ) → slice_get vs k ≡ Some v → number ≡ n + k → f v ≡ made label number

  group_ids : (label n : ℕ) (vs : List ℕ) (ss : List Seen) → length vs ≡ length ss → AreIds label n vs → map f vs ≡ map (λ (e : Placed). e.id) (numbered label n ss)
  group_ids label n [] [] long are = refl
  group_ids label n [] (s ∷ ss) long are = absurd (omega (arith, long))
  group_ids label n (v ∷ vs) [] long are = absurd (omega (arith, long))
  group_ids label n (v ∷ vs) (s ∷ ss) long are =
      let first : f v ≡ made label n = are 0 v n refl (omega arith) in
      let rest : map f vs ≡ map (λ (e : Placed). e.id) (numbered label (n + 1) ss) = group_ids label (n + 1) vs ss (omega (arith, long)) (λ k w number at is. are (suc k) w number at (omega (arith, is))) in
      ap (λ (i : EventId). i ∷ map f vs) first ∙ ap (λ (l : List EventId). made label n ∷ l) rest

  turn_ids : (g : ℕ) (under : List (List ℕ)) (seen : List (List Seen)) → map (λ (vs : List ℕ). length vs) under ≡ map (λ (ss : List Seen). length ss) seen → ((h : ℕ) → AreIds (g + h) 1 (group_at under h)) →
      in_turn {T = ℕ} {X = EventId} (λ n v. f v) g under ≡ map (λ (e : Placed). e.id) (events_from g seen)
  turn_ids g [] [] long are = refl
  turn_ids g [] (ss ∷ seen) long are = absurd (cc)
  turn_ids g (vs ∷ under) [] long are = absurd (cc)
  turn_ids g (vs ∷ under) (ss ∷ seen) long are =
      let one : length vs ≡ length ss = cc in
      let rest : map (λ (vs : List ℕ). length vs) under ≡ map (λ (ss : List Seen). length ss) seen = cc in
      let first : map f vs ≡ map (λ (e : Placed). e.id) (numbered g 1 ss) = group_ids g 1 vs ss one (subst (λ (l : ℕ). AreIds l 1 vs) (let e : g + 0 ≡ g = omega arith in e) (are 0)) in
      let more : in_turn {T = ℕ} {X = EventId} (λ n v. f v) (g + 1) under ≡ map (λ (e : Placed). e.id) (events_from (g + 1) seen) =
      turn_ids (g + 1) under seen rest (λ h. subst (λ (l : ℕ). AreIds l 1 (group_at under h)) (let e : g + suc h ≡ g + 1 + h = omega arith in e) (are (suc h))) in
      ap (λ (l : List EventId). l ++ in_turn {T = ℕ} {X = EventId} (λ n v. f v) (g + 1) under) first
      ∙ ap (λ (l : List EventId). map (λ (e : Placed). e.id) (numbered g 1 ss) ++ l) more
      ∙ sym (map-append (λ (e : Placed). e.id) (numbered g 1 ss) (events_from (g + 1) seen))

lengths : (f : ℕ → ℕ) (under : List (List ℕ)) (seen : List (List Seen)) → map (map f) under ≡ map (λ (ss : List Seen). map (λ (s : Seen). s.stamp) ss) seen → map (λ (vs : List ℕ). length vs) under ≡ map (λ (ss : List Seen). length ss) seen
lengths f [] [] e = refl
lengths f [] (ss ∷ seen) e = absurd (cc)
lengths f (vs ∷ under) [] e = absurd (cc)
lengths f (vs ∷ under) (ss ∷ seen) e =
    let one : map f vs ≡ map (λ (s : Seen). s.stamp) ss = cc in
    let rest : map (map f) under ≡ map (λ (ss : List Seen). map (λ (s : Seen). s.stamp) ss) seen = cc in
    let long : length vs ≡ length ss = omega (arith, ap length one, length-map vs f, length-map ss (λ (s : Seen). s.stamp)) in
    ap (λ (n : ℕ). n ∷ map (λ (vs : List ℕ). length vs) under) long ∙ ap (λ (l : List ℕ). length ss ∷ l) (lengths f under seen rest)

-- a number with a name is that of an event
pub named_came : (r : RosterLists) (v : ℕ) → v < length (listed r).event_names → v < length r.came
named_came r v named = omega (arith, named, length-map r.came (λ (e : Came). name_of r.declaration (id_of e)))

-- ---- of a roster
module _ (r : RosterLists) (is : IsRoster r) where
  abbrev pub id_by : ℕ → EventId
  id_by v = id_of (event_at r.came v)

  pub event_is : (v : ℕ) (e : Came) → slice_get r.came v ≡ Some e → event_at r.came v ≡ e
  event_is v e at = get_or_from_slice_get r.came v e no_event at

  -- an event has the number that is looked up by its id
  pub own_number : (v : ℕ) → v < length r.came → number_of r.under (id_by v) ≡ v
  own_number v inside =
      let (e, at) = got r.came v inside in
      let (k, number, under) = is.every v e at in
      let same : event_at r.came v ≡ e = event_is v e at in
      let place : e.number - 1 ≡ k = omega (arith, number) in
      ap (λ (x : Came). number_of r.under (id_of x)) same ∙ ap (λ (n : ℕ). get_or (group_at r.under e.label) n 0) place ∙ get_or_from_slice_get (group_at r.under e.label) k v 0 under

  pub listed_came : (v node : ℕ) → Contains {X = ℕ × ℕ} (listed r).events (v, node) → v < length r.came
  listed_came v node held =
      let x = from_turn {T = ℕ} {X = ℕ × ℕ} (λ g w. (w, (event_at r.came w).node)) 0 r.under (v, node) held in
      let k = place_in (group_at r.under x.0) x.1 x.2 in
      let e = is.numbered x.0 k.0 x.1 k.1 in
      let same : x.1 ≡ v = ap (λ (y : ℕ × ℕ). y.0) x.3 in
      subst (λ (n : ℕ). n < length r.came) same (slice_get_within r.came x.1 e.0 e.1)

  module _ (seen : List (List Seen)) (holds : HoldsEvents r seen) where
    -- the listed events have the ids of those that are held, in their order
    pub ids_are : map {A = ℕ × ℕ} {B = EventId} (λ e. id_by e.0) (listed r).events ≡ map (λ (e : Placed). e.id) (events_of seen)
    ids_are =
        map-in_turn {T = ℕ} {X = ℕ × ℕ} {Y = EventId} (λ e. id_by e.0) (λ g v. (v, (event_at r.came v).node)) 0 r.under
        ∙ turn_ids id_by 0 r.under seen (lengths (λ (v : ℕ). (event_at r.came v).stamp) r.under seen holds)
        (λ h k v number at n.
        let e = is.numbered h k v at in
        let on : suc k ≡ number = omega (arith, n) in
        let back : h ≡ 0 + h = omega arith in
        ap id_of (event_is v e.0 e.1) ∙ e.2 ∙ ap (λ (m : ℕ). made h m) on ∙ ap (λ (l : ℕ). made l number) back)

    pub as_many : length (listed r).events ≡ length (events_of seen)
    as_many = sym (length-map (listed r).events (λ (e : ℕ × ℕ). id_by e.0)) ∙ ap length ids_are ∙ length-map (events_of seen) (λ (e : Placed). e.id)

    -- the event at a place, by number and as it is held
    pub same_id : (k v node : ℕ) (e : Placed) → slice_get {X = ℕ × ℕ} (listed r).events k ≡ Some (v, node) → slice_get (events_of seen) k ≡ Some e → id_by v ≡ e.id
    same_id k v node e at at' =
        same_Some (id_by v) e.id
        (sym (map_at {X = ℕ × ℕ} (λ x. id_by x.0) (listed r).events k (v, node) at)
        ∙ ap (λ (l : List EventId). slice_get l k) ids_are
        ∙ map_at (λ (x : Placed). x.id) (events_of seen) k e at')

    pub listed_at : (k v node : ℕ) → slice_get {X = ℕ × ℕ} (listed r).events k ≡ Some (v, node) → v < length r.came
    listed_at k v node at = listed_came v node (among {X = ℕ × ℕ} (listed r).events k (v, node) at)

    -- an event that is held has a number
    pub held_came : (e : Placed) → Contains (events_of seen) e → number_of r.under e.id < length r.came
    held_came e held =
        let (k, at) = place_in (events_of seen) e held in
        let inside : k < length (listed r).events = (let i = slice_get_within (events_of seen) k e at in omega (arith, i, as_many)) in
        let (x, there) = got {X = ℕ × ℕ} (listed r).events k inside in
        let here : x.0 < length r.came = listed_at k x.0 x.1 there in
        subst (λ (n : ℕ). n < length r.came) (sym (own_number x.0 here) ∙ ap (λ (i : EventId). number_of r.under i) (same_id k x.0 x.1 e there at)) here

    -- and the event of this number has its id
    pub held_id : (e : Placed) → Contains (events_of seen) e → id_by (number_of r.under e.id) ≡ e.id
    held_id e held =
        let (k, at) = place_in (events_of seen) e held in
        let inside : k < length (listed r).events = (let i = slice_get_within (events_of seen) k e at in omega (arith, i, as_many)) in
        let (x, there) = got {X = ℕ × ℕ} (listed r).events k inside in
        let here : x.0 < length r.came = listed_at k x.0 x.1 there in
        let id : id_by x.0 ≡ e.id = same_id k x.0 x.1 e there at in
        let number : number_of r.under e.id ≡ x.0 = ap (λ (i : EventId). number_of r.under i) (sym id) ∙ own_number x.0 here in
        ap id_by number ∙ id
