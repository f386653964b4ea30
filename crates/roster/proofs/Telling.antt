-- Rosters of which nodes and partners are told: what they hold stays.
use Rattle.std.proofs.Common.{◌≡◌, ◌≢◌, ℕ, zero, suc, ◌<◌, List, [], ◌∷◌, length, map, get_or, set, slice_get, Some, Contains, refl, sym, ◌∙◌, ap, subst, arith, inl, inr}
use Rattle.std.proofs.lemmas.Bool.{cases_eq}
use Rattle.std.proofs.lemmas.List.{length-set, get_or-set_same, get_or-set_other}
use Rattle.std.proofs.lemmas.Option.{none-some, same_Some, slice_get_within, get_or_from_slice_get}
use Rattle.decl.specs.Declaration.{Declaration}
use Rattle.traces.specs.Seen.{Seen}
use Rattle.traces.specs.declared.event_id.EventId.{EventId}
use Rattle.traces.specs.Traces.{clock_of}
use Rattle.traces.proofs.Lists.{place_in}
use Rattle.roster.specs.declared.came.Came.{Came}
use Rattle.roster.specs.Groups.{total, group_at}
use Rattle.roster.specs.Readings.{Stamped, Rise, HasStamp}
use Rattle.roster.specs.Roster.{RosterLists, id_of, event_at, IsNumberUnder, IsStamp, IsRoster, HoldsEvents, SetsReading}
use Rattle.roster.proofs.GroupSizes.{same_sizes}

-- ---- one place is written
pub set_here : {X : Type 0} (xs : List X) (k : ℕ) (x : X) → k < length xs → slice_get (set xs k x) k ≡ Some x
set_here [] k x inside = absurd (omega (arith, inside))
set_here (a ∷ xs) zero x inside = refl
set_here (a ∷ xs) (suc k) x inside = set_here xs k x (omega (arith, inside))

pub set_elsewhere : {X : Type 0} (xs : List X) (k j : ℕ) (x : X) → j ≢ k → slice_get (set xs k x) j ≡ slice_get xs j
set_elsewhere [] zero j x other = refl
set_elsewhere [] (suc k) j x other = refl
set_elsewhere (a ∷ xs) zero zero x other = absurd (other refl)
set_elsewhere (a ∷ xs) zero (suc j) x other = refl
set_elsewhere (a ∷ xs) (suc k) zero x other = refl
set_elsewhere (a ∷ xs) (suc k) (suc j) x other = set_elsewhere xs k j x (λ same. other (ap suc same))

pub among : {X : Type 0} (xs : List X) (k : ℕ) (x : X) → slice_get xs k ≡ Some x → Contains xs x
among xs k x at = (k, slice_get_within xs k x at, get_or_from_slice_get xs k x x at)

-- ---- events
-- the same events, but for their nodes and partners
pub record AreSame (old new : List Came) : Type 0 where
  pub long : length new ≡ length old
  pub forth : (v : ℕ) (e : Came) → slice_get old v ≡ Some e → (f : Came) × (slice_get new v ≡ Some f) × (id_of f ≡ id_of e) × (f.stamp ≡ e.stamp)
  pub back : (v : ℕ) (f : Came) → slice_get new v ≡ Some f → (e : Came) × (slice_get old v ≡ Some e) × (id_of e ≡ id_of f) × (e.stamp ≡ f.stamp)

pub told_same : (came : List Came) (v : ℕ) (e f : Came) → slice_get came v ≡ Some e → id_of f ≡ id_of e → f.stamp ≡ e.stamp → AreSame came (set came v f)
told_same came v e f at id stamp = record {
  long = length-set came v f;
  forth = λ w x there. elim (cases_eq w v) [
    | inl same ↦ (
        let one : e ≡ x = same_Some e x (sym at ∙ ap (slice_get came) (sym same) ∙ there) in
        (f, ap (slice_get (set came v f)) same ∙ set_here came v f (slice_get_within came v e at), id ∙ ap id_of one, stamp ∙ ap (λ (y : Came). y.stamp) one))
    | inr other ↦ (x, set_elsewhere came v w f other ∙ there, refl, refl)
  ];
  back = λ w y there. elim (cases_eq w v) [
    | inl same ↦ (
        let one : f ≡ y = same_Some f y (sym (set_here came v f (slice_get_within came v e at)) ∙ ap (slice_get (set came v f)) (sym same) ∙ there) in
        (e, ap (slice_get came) same ∙ at, sym id ∙ ap id_of one, sym stamp ∙ ap (λ (x : Came). x.stamp) one))
    | inr other ↦ (y, sym (set_elsewhere came v w f other) ∙ there, refl, refl)
  ];
}

-- the roster with these events in place of its own
abbrev pub retold : RosterLists → List Came → RosterLists
retold r came = record { declaration = r.declaration; came = came; under = r.under; readings = r.readings }

stamp_over : (d : Declaration) (old new : List Came) (clock stamp : ℕ) → ((v : ℕ) (e : Came) → slice_get old v ≡ Some e → (f : Came) × (slice_get new v ≡ Some f) × (id_of f ≡ id_of e) × (f.stamp ≡ e.stamp)) →
    IsStamp d old clock stamp → IsStamp d new clock stamp
stamp_over d old new clock stamp over (e, is_in, on, is) =
    let v = place_in old e is_in in
    let f = over v.0 e v.1 in
    (f.0, among new v.0 f.0 f.1, ap (clock_of d) f.2 ∙ on, f.3 ∙ is)

pub retold_is : (r : RosterLists) (came : List Came) → IsRoster r → AreSame r.came came → IsRoster (retold r came)
retold_is r came is same = record {
  declared = is.declared;
  labels = is.labels;
  clocks = is.clocks;
  numbered = λ label k v at. (let e = is.numbered label k v at in let f = same.forth v e.0 e.1 in (f.0, f.1, f.2 ∙ e.2));
  every = λ v f at. (let e = same.back v f at in subst (λ (id : EventId). IsNumberUnder r.under id v) e.2 (is.every v e.0 e.1));
  count = is.count ∙ sym same.long;
  few = (let n = is.few in let m = same.long in omega (arith, n, m));
  on_clocks = record {
    rise = is.on_clocks.rise;
    each = λ c s has. stamp_over r.declaration r.came came c s same.forth (is.on_clocks.each c s has);
    every = λ c s stamped. is.on_clocks.every c s (stamp_over r.declaration came r.came c s same.back stamped);
    few = (let n = is.on_clocks.few in let m = same.long in omega (arith, n, m));
  };
}

-- ---- readings
-- the roster with these readings in place of its own
abbrev pub restamped : RosterLists → List (List Stamped) → RosterLists
restamped r readings = record { declaration = r.declaration; came = r.came; under = r.under; readings = readings }

stamps_stay : (group : List Stamped) (k stamp was node : ℕ) → slice_get {X = Stamped} group k ≡ Some (stamp, was) → map (λ (s : Stamped). s.0) (set {A = Stamped} group k (stamp, node)) ≡ map (λ (s : Stamped). s.0) group
stamps_stay [] k stamp was node at = absurd (none-some (let r : Stamped = (stamp, was) in r) at)
stamps_stay (s ∷ group) zero stamp was node at =
    let one : s ≡ (stamp, was) = same_Some s (stamp, was) at in
    ap (λ (n : ℕ). n ∷ map (λ (x : Stamped). x.0) group) (sym (ap (λ (x : Stamped). x.0) one))
stamps_stay (s ∷ group) (suc k) stamp was node at = ap (λ (ns : List ℕ). s.0 ∷ ns) (stamps_stay group k stamp was node at)

stamp_in : (xs ys : List Stamped) (stamp : ℕ) → map (λ (s : Stamped). s.0) xs ≡ map (λ (s : Stamped). s.0) ys → HasStamp xs stamp → HasStamp ys stamp
stamp_in xs ys stamp same (node, is_in) =
    let k = place_in {X = Stamped} xs (stamp, node) is_in in
    let y = of_stamps xs ys k.0 (stamp, node) same k.1 in
    let first : stamp ≡ y.0.0 = y.2 in
    (y.0.1, among ys k.0 (stamp, y.0.1) (y.1 ∙ ap (λ (n : ℕ). let r : Stamped = (n, y.0.1) in Some r) (sym first)))
  where
    of_stamps : (xs ys : List Stamped) (k : ℕ) (x : Stamped) → map (λ (s : Stamped). s.0) xs ≡ map (λ (s : Stamped). s.0) ys → slice_get xs k ≡ Some x → (y : Stamped) × (slice_get ys k ≡ Some y) × (x.0 ≡ y.0)
    of_stamps [] ys k x same at = absurd (none-some x at)
    of_stamps (a ∷ xs) [] k x same at = absurd (cc)
    of_stamps (a ∷ xs) (b ∷ ys) zero x same at = let head : a.0 ≡ b.0 = cc in (b, refl, ap (λ (s : Stamped). s.0) (sym (same_Some a x at)) ∙ head)
    of_stamps (a ∷ xs) (b ∷ ys) (suc k) x same at = let rest : map (λ (s : Stamped). s.0) xs ≡ map (λ (s : Stamped). s.0) ys = cc in of_stamps xs ys k x rest at

rise_by : (xs ys : List Stamped) → map (λ (s : Stamped). s.0) xs ≡ map (λ (s : Stamped). s.0) ys → Rise xs → Rise ys
rise_by xs ys same rise i j d less inside =
    let long : length xs ≡ length ys = longs xs ys same in
    let a : (get_or xs i d).0 ≡ (get_or ys i d).0 = firsts xs ys same i d in
    let b : (get_or xs j d).0 ≡ (get_or ys j d).0 = firsts xs ys same j d in
    let before = rise i j d less (omega (arith, inside, long)) in
    omega (arith, a, b, before)
  where
    longs : (xs ys : List Stamped) → map (λ (s : Stamped). s.0) xs ≡ map (λ (s : Stamped). s.0) ys → length xs ≡ length ys
    longs [] [] same = refl
    longs [] (b ∷ ys) same = absurd (cc)
    longs (a ∷ xs) [] same = absurd (cc)
    longs (a ∷ xs) (b ∷ ys) same = let rest : map (λ (s : Stamped). s.0) xs ≡ map (λ (s : Stamped). s.0) ys = cc in ap suc (longs xs ys rest)

    firsts : (xs ys : List Stamped) → map (λ (s : Stamped). s.0) xs ≡ map (λ (s : Stamped). s.0) ys → (k : ℕ) (d : Stamped) → (get_or xs k d).0 ≡ (get_or ys k d).0
    firsts [] [] same k d = refl
    firsts [] (b ∷ ys) same k d = absurd (cc)
    firsts (a ∷ xs) [] same k d = absurd (cc)
    firsts (a ∷ xs) (b ∷ ys) same zero d = let head : a.0 ≡ b.0 = cc in head
    firsts (a ∷ xs) (b ∷ ys) same (suc k) d = let rest : map (λ (s : Stamped). s.0) xs ≡ map (λ (s : Stamped). s.0) ys = cc in firsts xs ys rest k d

module _ (r : RosterLists) (is : IsRoster r) (clock place stamp was node : ℕ) (inside : clock < length r.readings) (at : slice_get {X = Stamped} (group_at r.readings clock) place ≡ Some (stamp, was)) where
  abbrev now : List Stamped
  now = set {A = Stamped} (group_at r.readings clock) place (stamp, node)

  same_here : map (λ (s : Stamped). s.0) (group_at (set r.readings clock now) clock) ≡ map (λ (s : Stamped). s.0) (group_at r.readings clock)
  same_here = ap (map (λ (s : Stamped). s.0)) (get_or-set_same r.readings clock now [] inside) ∙ stamps_stay (group_at r.readings clock) place stamp was node at

  same_stamps : (c : ℕ) → map (λ (s : Stamped). s.0) (group_at (set r.readings clock now) c) ≡ map (λ (s : Stamped). s.0) (group_at r.readings c)
  same_stamps c = elim (cases_eq c clock) [
    | inl same ↦ ap (λ (h : ℕ). map (λ (s : Stamped). s.0) (group_at (set r.readings clock now) h)) same ∙ same_here ∙ ap (λ (h : ℕ). map (λ (s : Stamped). s.0) (group_at r.readings h)) (sym same)
    | inr other ↦ ap (map (λ (s : Stamped). s.0)) (get_or-set_other r.readings clock c now [] other)
  ]

  pub restamped_is : IsRoster (restamped r (set r.readings clock (set {A = Stamped} (group_at r.readings clock) place (stamp, node))))
  restamped_is = record {
    declared = is.declared;
    labels = is.labels;
    clocks = length-set r.readings clock now ∙ is.clocks;
    numbered = is.numbered;
    every = is.every;
    count = is.count;
    few = is.few;
    on_clocks = record {
      rise = λ c. rise_by (group_at r.readings c) (group_at (set r.readings clock now) c) (sym (same_stamps c)) (is.on_clocks.rise c);
      each = λ c s has. is.on_clocks.each c s (stamp_in (group_at (set r.readings clock now) c) (group_at r.readings c) s (same_stamps c) has);
      every = λ c s stamped. stamp_in (group_at r.readings c) (group_at (set r.readings clock now) c) s (sym (same_stamps c)) (is.on_clocks.every c s stamped);
      few = (let n = is.on_clocks.few in let m = ap total (same_sizes r.readings clock now inside (length-set (group_at r.readings clock) place (stamp, node))) in omega (arith, n, m));
    };
  }

-- ---- what is held
map_as : (f g : ℕ → ℕ) (vs : List ℕ) → ((v : ℕ) → f v ≡ g v) → map f vs ≡ map g vs
map_as f g [] same = refl
map_as f g (v ∷ vs) same = ap (λ (n : ℕ). n ∷ map f vs) (same v) ∙ ap (λ (ns : List ℕ). g v ∷ ns) (map_as f g vs same)

maps_as : (f g : ℕ → ℕ) (under : List (List ℕ)) → ((v : ℕ) → f v ≡ g v) → map (map f) under ≡ map (map g) under
maps_as f g [] same = refl
maps_as f g (vs ∷ under) same = ap (λ (ns : List ℕ). ns ∷ map (map f) under) (map_as f g vs same) ∙ ap (λ (l : List (List ℕ)). map g vs ∷ l) (maps_as f g under same)

stamp_there : (came : List Came) (v w : ℕ) (f : Came) → f.stamp ≡ (event_at came v).stamp → (event_at (set came v f) w).stamp ≡ (event_at came w).stamp
stamp_there [] zero w f same = refl
stamp_there [] (suc v) w f same = refl
stamp_there (e ∷ came) zero zero f same = same
stamp_there (e ∷ came) zero (suc w) f same = refl
stamp_there (e ∷ came) (suc v) zero f same = refl
stamp_there (e ∷ came) (suc v) (suc w) f same = stamp_there came v w f same

pub holds_still : (r : RosterLists) (seen : List (List Seen)) (v : ℕ) (f : Came) → f.stamp ≡ (event_at r.came v).stamp → HoldsEvents r seen → HoldsEvents (retold r (set r.came v f)) seen
holds_still r seen v f same holds = maps_as (λ (w : ℕ). (event_at (set r.came v f) w).stamp) (λ (w : ℕ). (event_at r.came w).stamp) r.under (λ w. stamp_there r.came v w f same) ∙ holds

pub holds_restamped : (old new : RosterLists) (clock stamp node : ℕ) (seen : List (List Seen)) → SetsReading old new clock stamp node → HoldsEvents old seen → HoldsEvents new seen
holds_restamped old new clock stamp node seen sets holds = subst (λ (r : RosterLists). HoldsEvents r seen) (sym sets.is) holds
