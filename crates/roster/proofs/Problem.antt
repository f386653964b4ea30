-- A roster lists the problem of what it holds.
use Rattle.std.proofs.Common.{◌≡◌, ℕ, ◌+◌, zero, suc, List, [], ◌∷◌, ◌++◌, length, map, slice_get, Some, Contains, option_map, refl, sym, ◌∙◌, ap, subst, arith, inl, inr}
use Rattle.std.proofs.lemmas.List.{length-map, map-append}
use Rattle.std.proofs.lemmas.List.Elements.{Contains-append_cases, Contains-append_left, Contains-append_right}
use Rattle.std.proofs.lemmas.Option.{none-some, same_Some, slice_get-map, get_or_from_slice_get, slice_get_within}
use Rattle.problem_model.specs.declared.items.Event.{Event}
use Rattle.problem_model.specs.Problem.{ProblemLists}
use Rattle.problem_model.specs.Bounds.{IsReading}
use Rattle.problem_model.specs.Nodes.{Reading, AreReadings}
use Rattle.problem_model.proofs.OneList.{readings_one}
use Rattle.problem.specs.Listing.{name_at}
use Rattle.decl.specs.Declaration.{Declaration}
use Rattle.traces.specs.Seen.{Seen}
use Rattle.traces.specs.declared.event_id.EventId.{EventId}
use Rattle.traces.specs.Traces.{Placed, numbered, events_from, events_of, name_of, clock_by, clock_of}
use Rattle.traces.specs.Messages.{event_with, problem_of_seen}
use Rattle.traces.proofs.Members.{here, there, head_or_tail, none_in}
use Rattle.traces.proofs.Lists.{place_in}
use Rattle.problem_graph.specs.ListedProblem.{IsListedBy}
use Rattle.roster.specs.declared.came.Came.{Came}
use Rattle.roster.specs.Groups.{group_at}
use Rattle.roster.specs.Readings.{Stamped}
use Rattle.roster.specs.Roster.{RosterLists, id_of, no_event, event_at, IsStamp, IsRoster, HoldsEvents, in_turn, listed}
use Rattle.roster.proofs.Turns.{map-map, map-in_turn, from_map, into_map, from_turn, into_turn, on_clock, turns_rise}

-- ---- lists that are one when their elements are told by numbers
same_in : {A B : Type 0} (f : A → ℕ) (g : B → ℕ) (xs : List A) (ys : List B) → map f xs ≡ map g ys → (k : ℕ) (x : A) → slice_get xs k ≡ Some x → (y : B) × (slice_get ys k ≡ Some y) × (f x ≡ g y)
same_in f g [] ys e k x at = absurd (none-some x at)
same_in f g (a ∷ xs) [] e k x at = absurd (cc)
same_in {A} {B} f g (a ∷ xs) (b ∷ ys) e zero x at =
    let head : f a ≡ g b = cc in
    let is : a ≡ x = same_Some a x at in
    (b, refl, ap f (sym is) ∙ head)
same_in f g (a ∷ xs) (b ∷ ys) e (suc k) x at = let rest : map f xs ≡ map g ys = cc in same_in f g xs ys rest k x at

same_groups : {A B : Type 0} (f : A → ℕ) (g : B → ℕ) (xs : List (List A)) (ys : List (List B)) → map (map f) xs ≡ map (map g) ys → (h : ℕ) → map f (group_at xs h) ≡ map g (group_at ys h)
same_groups f g [] [] e zero = refl
same_groups f g [] [] e (suc h) = refl
same_groups f g [] (y ∷ ys) e h = absurd (cc)
same_groups f g (x ∷ xs) [] e h = absurd (cc)
same_groups f g (x ∷ xs) (y ∷ ys) e zero = let head : map f x ≡ map g y = cc in head
same_groups f g (x ∷ xs) (y ∷ ys) e (suc h) = let rest : map (map f) xs ≡ map (map g) ys = cc in same_groups f g xs ys rest h

-- ---- events in their order
numbered_in : (label n : ℕ) (ss : List Seen) (k : ℕ) (s : Seen) → slice_get ss k ≡ Some s → (e : Placed) × Contains (numbered label n ss) e × (e.id.label ≡ label) × (e.seen ≡ s)
numbered_in label n [] k s at = absurd (none-some s at)
numbered_in label n (x ∷ ss) zero s at =
    let e : Placed = record { id = record { label = label; number = n }; seen = x } in
    (e, here e (numbered label (n + 1) ss), refl, same_Some x s at)
numbered_in label n (x ∷ ss) (suc k) s at =
    let e : Placed = record { id = record { label = label; number = n }; seen = x } in
    let rest = numbered_in label (n + 1) ss k s at in
    (rest.0, there e rest.0 (numbered label (n + 1) ss) rest.1, rest.2, rest.3)

numbered_of : (label n : ℕ) (ss : List Seen) (e : Placed) → Contains (numbered label n ss) e → (e.id.label ≡ label) × ((k : ℕ) × (slice_get ss k ≡ Some e.seen))
numbered_of label n [] e c = absurd (none_in e c)
numbered_of label n (x ∷ ss) e c =
    let first : Placed = record { id = record { label = label; number = n }; seen = x } in
    elim (head_or_tail first e (numbered label (n + 1) ss) c) [
      | inl same ↦ (sym (ap (λ (p : Placed). p.id.label) same), (0, ap (λ (p : Placed). Some p.seen) same))
      | inr more ↦ (let rest = numbered_of label (n + 1) ss e more in (rest.0, (suc rest.1.0, rest.1.1)))
    ]

events_in : (g : ℕ) (seen : List (List Seen)) (h k : ℕ) (s : Seen) → slice_get (group_at seen h) k ≡ Some s → (e : Placed) × Contains (events_from g seen) e × (e.id.label ≡ g + h) × (e.seen ≡ s)
events_in g [] zero k s at = absurd (none-some s at)
events_in g [] (suc h) k s at = absurd (none-some s at)
events_in g (ss ∷ seen) zero k s at =
    let e = numbered_in g 1 ss k s at in
    (e.0, Contains-append_left (numbered g 1 ss) (events_from (g + 1) seen) e.0 e.1, (let l = e.2 in omega (arith, l)), e.3)
events_in g (ss ∷ seen) (suc h) k s at =
    let e = events_in (g + 1) seen h k s at in
    (e.0, Contains-append_right (numbered g 1 ss) (events_from (g + 1) seen) e.0 e.1, (let l = e.2 in omega (arith, l)), e.3)

events_out : (g : ℕ) (seen : List (List Seen)) (e : Placed) → Contains (events_from g seen) e → (h : ℕ) × (e.id.label ≡ g + h) × ((k : ℕ) × (slice_get (group_at seen h) k ≡ Some e.seen))
events_out g [] e c = absurd (none_in e c)
events_out g (ss ∷ seen) e c = elim (Contains-append_cases (numbered g 1 ss) (events_from (g + 1) seen) e c) [
  | inl first ↦ (let x = numbered_of g 1 ss e first in (0, (let l = x.0 in omega (arith, l)), x.1))
  | inr more ↦ (let x = events_out (g + 1) seen e more in (suc x.0, (let l = x.1 in omega (arith, l)), x.2))
]

-- ---- names in their order
module _ (d : Declaration) (names : List (List ℕ)) where
  abbrev AreNamed : ℕ → ℕ → List ℕ → Type 0
  AreNamed label n vs = (k v number : ℕ) → slice_get vs k ≡ Some v → number ≡ n + k → name_at names v ≡ name_of d (record { label = label; number = number })

  group_names : (label n : ℕ) (vs : List ℕ) (ss : List Seen) → length vs ≡ length ss → AreNamed label n vs → map (name_at names) vs ≡ map (λ (e : Placed). name_of d e.id) (numbered label n ss)
  group_names label n [] [] long are = refl
  group_names label n [] (s ∷ ss) long are = absurd (omega (arith, long))
  group_names label n (v ∷ vs) [] long are = absurd (omega (arith, long))
  group_names label n (v ∷ vs) (s ∷ ss) long are =
      let first : name_at names v ≡ name_of d (record { label = label; number = n }) = are 0 v n refl (omega arith) in
      let more : map (name_at names) vs ≡ map (λ (e : Placed). name_of d e.id) (numbered label (n + 1) ss) =
      group_names label (n + 1) vs ss (omega (arith, long)) (λ k w number at is. are (suc k) w number at (omega (arith, is))) in
      ap (λ (x : List ℕ). x ∷ map (name_at names) vs) first ∙ ap (λ (l : List (List ℕ)). name_of d (record { label = label; number = n }) ∷ l) more

  all_names : (g : ℕ) (under : List (List ℕ)) (seen : List (List Seen)) → map (λ (vs : List ℕ). length vs) under ≡ map (λ (ss : List Seen). length ss) seen → ((h : ℕ) → AreNamed (g + h) 1 (group_at under h)) →
      in_turn {T = ℕ} {X = List ℕ} (λ n v. name_at names v) g under ≡ map (λ (e : Placed). name_of d e.id) (events_from g seen)
  all_names g [] [] long are = refl
  all_names g [] (ss ∷ seen) long are = absurd (cc)
  all_names g (vs ∷ under) [] long are = absurd (cc)
  all_names g (vs ∷ under) (ss ∷ seen) long are =
      let one : length vs ≡ length ss = cc in
      let rest : map (λ (vs : List ℕ). length vs) under ≡ map (λ (ss : List Seen). length ss) seen = cc in
      let first : map (name_at names) vs ≡ map (λ (e : Placed). name_of d e.id) (numbered g 1 ss) =
      group_names g 1 vs ss one (subst (λ (l : ℕ). AreNamed l 1 vs) (let e : g + 0 ≡ g = omega arith in e) (are 0)) in
      let more : in_turn {T = ℕ} {X = List ℕ} (λ n v. name_at names v) (g + 1) under ≡ map (λ (e : Placed). name_of d e.id) (events_from (g + 1) seen) =
      all_names (g + 1) under seen rest (λ h. subst (λ (l : ℕ). AreNamed l 1 (group_at under h)) (let e : g + suc h ≡ g + 1 + h = omega arith in e) (are (suc h))) in
      ap (λ (l : List (List ℕ)). l ++ in_turn {T = ℕ} {X = List ℕ} (λ n v. name_at names v) (g + 1) under) first
      ∙ ap (λ (l : List (List ℕ)). map (λ (e : Placed). name_of d e.id) (numbered g 1 ss) ++ l) more
      ∙ sym (map-append (λ (e : Placed). name_of d e.id) (numbered g 1 ss) (events_from (g + 1) seen))

-- ---- the problem
clock_by_label : (d : Declaration) (a b : EventId) → a.label ≡ b.label → clock_of d a ≡ clock_of d b
clock_by_label d a b same = ap (λ (l : ℕ). clock_by (slice_get d.labels l)) same

lengths_same : (f : ℕ → ℕ) (under : List (List ℕ)) (seen : List (List Seen)) → map (map f) under ≡ map (λ (ss : List Seen). map (λ (s : Seen). s.stamp) ss) seen →
    map (λ (vs : List ℕ). length vs) under ≡ map (λ (ss : List Seen). length ss) seen
lengths_same f [] [] e = refl
lengths_same f [] (ss ∷ seen) e = absurd (cc)
lengths_same f (vs ∷ under) [] e = absurd (cc)
lengths_same f (vs ∷ under) (ss ∷ seen) e =
    let one : map f vs ≡ map (λ (s : Seen). s.stamp) ss = cc in
    let rest : map (map f) under ≡ map (λ (ss : List Seen). map (λ (s : Seen). s.stamp) ss) seen = cc in
    let long : length vs ≡ length ss = omega (arith, ap length one, length-map vs f, length-map ss (λ (s : Seen). s.stamp)) in
    ap (λ (n : ℕ). n ∷ map (λ (vs : List ℕ). length vs) under) long ∙ ap (λ (l : List ℕ). length ss ∷ l) (lengths_same f under seen rest)

module _ (r : RosterLists) (is : IsRoster r) (seen : List (List Seen)) (holds : HoldsEvents r seen) where
  abbrev stamp_by : ℕ → ℕ
  stamp_by v = (event_at r.came v).stamp

  abbrev stamp_seen : Seen → ℕ
  stamp_seen s = s.stamp

  abbrev made : ProblemLists
  made = problem_of_seen r.declaration seen

  abbrev names : List (List ℕ)
  names = map (λ (e : Came). name_of r.declaration (id_of e)) r.came

  named : (h : ℕ) → AreNamed r.declaration names (0 + h) 1 (group_at r.under h)
  named h k v number at n =
      let e = is.numbered h k v at in
      let there' : slice_get names v ≡ Some (name_of r.declaration (id_of e.0)) = slice_get-map (λ (e : Came). name_of r.declaration (id_of e)) r.came v ∙ ap (option_map (λ (e : Came). name_of r.declaration (id_of e))) e.1 in
      let on : suc k ≡ number = omega (arith, n) in
      let back : h ≡ 0 + h = omega arith in
      get_or_from_slice_get names v (name_of r.declaration (id_of e.0)) [] there' ∙ ap (name_of r.declaration) e.2
      ∙ ap (λ (m : ℕ). name_of r.declaration (record { label = h; number = m })) on ∙ ap (λ (l : ℕ). name_of r.declaration (record { label = l; number = number })) back

  pub events_are : map (λ (e : ℕ × ℕ). name_at (listed r).event_names e.0) (listed r).events ≡ map (λ (e : Event). e.name) made.events
  events_are =
      map-in_turn {T = ℕ} {X = ℕ × ℕ} {Y = List ℕ} (λ e. name_at names e.0) (λ g v. (v, (event_at r.came v).node)) 0 r.under
      ∙ all_names r.declaration names 0 r.under seen (lengths_same stamp_by r.under seen holds) named
      ∙ sym (map-map (λ (e : Event). e.name) (event_with r.declaration) (events_of seen))

  -- ---- readings
  stamp_of : (v : ℕ) (e : Came) → slice_get r.came v ≡ Some e → stamp_by v ≡ e.stamp
  stamp_of v e at = ap (λ (x : Came). x.stamp) (get_or_from_slice_get r.came v e no_event at)

  was_read : (clock stamp : ℕ) → IsStamp r.declaration r.came clock stamp → IsReading made clock stamp
  was_read clock stamp (e, among, on, is_stamp) =
      let v = place_in r.came e among in
      let under = is.every v.0 e v.1 in
      let s = same_in stamp_by stamp_seen (group_at r.under e.label) (group_at seen e.label) (same_groups stamp_by stamp_seen r.under seen holds e.label) under.0 v.0 under.2 in
      let placed = events_in 0 seen e.label under.0 s.0 s.1 in
      let label : placed.0.id.label ≡ e.label = (let l = placed.2 in omega (arith, l)) in (
        event_with r.declaration placed.0,
        into_map (event_with r.declaration) (events_of seen) placed.0 placed.1,
        clock_by_label r.declaration placed.0.id (id_of e) label ∙ on,
        ap (λ (x : Seen). x.stamp) placed.3 ∙ sym s.2 ∙ stamp_of v.0 e v.1 ∙ is_stamp,
      )

  was_stamped : (clock stamp : ℕ) → IsReading made clock stamp → IsStamp r.declaration r.came clock stamp
  was_stamped clock stamp (x, among, on, is_stamp) =
      let e = from_map (event_with r.declaration) (events_of seen) x among in
      let out = events_out 0 seen e.0 e.1 in
      let v = same_in stamp_seen stamp_by (group_at seen out.0) (group_at r.under out.0) (sym (same_groups stamp_by stamp_seen r.under seen holds out.0)) out.2.0 e.0.seen out.2.1 in
      let came = is.numbered out.0 out.2.0 v.0 v.1 in
      let label : (id_of came.0).label ≡ e.0.id.label = (let l : (id_of came.0).label ≡ out.0 = ap (λ (i : EventId). i.label) came.2 in let m = out.1 in omega (arith, l, m)) in (
        came.0,
        (v.0, slice_get_within r.came v.0 came.0 came.1, get_or_from_slice_get r.came v.0 came.0 came.0 came.1),
        clock_by_label r.declaration (id_of came.0) e.0.id label ∙ ap (λ (y : Event). y.clock) e.2 ∙ on,
        sym (stamp_of v.0 came.0 came.1) ∙ sym v.2 ∙ ap (λ (y : Event). y.stamp) e.2 ∙ is_stamp,
      )

  abbrev all : List Reading
  all = in_turn {T = Stamped} {X = Reading} on_clock 0 r.readings

  pub all_are : AreReadings made all
  all_are = record {
    each = λ clock stamp c.
        let t = from_turn {T = Stamped} {X = Reading} on_clock 0 r.readings (clock, stamp) c in
        let own : t.0 ≡ clock = (let e : 0 + t.0 ≡ clock = ap (λ (x : Reading). x.0) t.3 in omega (arith, e)) in
        let stamped : t.1.0 ≡ stamp = ap (λ (x : Reading). x.1) t.3 in
        was_read clock stamp (subst (λ (h : ℕ). IsStamp r.declaration r.came h stamp) own (is.on_clocks.each t.0 stamp (t.1.1, subst (λ (s : ℕ). Contains {X = Stamped} (group_at r.readings t.0) (s, t.1.1)) stamped t.2)));
    every = λ clock stamp read.
        let has = is.on_clocks.every clock stamp (was_stamped clock stamp read) in
        subst (λ (h : ℕ). Contains {X = Reading} all (h, stamp)) (let e : 0 + clock ≡ clock = omega arith in e) (into_turn {T = Stamped} {X = Reading} on_clock 0 r.readings clock (stamp, has.0) has.1);
    rising = turns_rise 0 r.readings is.on_clocks.rise;
  }

  pub stamps_are : (readings : List Reading) → AreReadings made readings → map {A = ℕ × ℕ × ℕ} {B = Reading} (λ x. (x.0, x.1)) (listed r).readings ≡ readings
  stamps_are readings are =
      map-in_turn {T = Stamped} {X = ℕ × ℕ × ℕ} {Y = Reading} (λ x. (x.0, x.1)) (λ c s. (c, s.0, s.1)) 0 r.readings ∙ readings_one made all readings all_are are

  pub listed_by : (readings : List Reading) → AreReadings made readings → IsListedBy (listed r) made readings
  listed_by readings are = record { clocks = refl; events = events_are; stamps = stamps_are readings are }
