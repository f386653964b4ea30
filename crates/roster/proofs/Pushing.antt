-- A roster with events of a label more.
use Rattle.std.proofs.Common.{◌≡◌, ◌≢◌, ℕ, ◌+◌, ◌<◌, ◌≤◌, ◌⊎◌, zero, suc, List, [], ◌∷◌, ◌++◌, length, set, slice_get, Some, None, Contains, refl, sym, ◌∙◌, ap, subst, arith, inl, inr, length-append}
use Rattle.std.specs.List.{range_with_len}
use Rattle.std.proofs.lemmas.Bool.{cases_eq}
use Rattle.std.proofs.lemmas.List.{length-set, get_or-set_same, get_or-set_other}
use Rattle.std.proofs.lemmas.List.FromFn.{length-range_with_len}
use Rattle.std.proofs.lemmas.List.Elements.{Contains-append_cases, Contains-append_left, Contains-append_right}
use Rattle.std.proofs.lemmas.Option.{none-some, same_Some, slice_get_within}
use Rattle.problem_model.specs.Limits.{most_events}
use Rattle.decl.specs.declared.items.Label.{Label}
use Rattle.decl.specs.Declaration.{Declaration, IsDeclaration, IsClockOf}
use Rattle.traces.specs.declared.event_id.EventId.{EventId}
use Rattle.traces.specs.Traces.{clock_by, clock_of}
use Rattle.traces.proofs.Members.{here, there, head_or_tail, none_in}
use Rattle.traces.proofs.Lists.{all_at}
use Rattle.roster.specs.declared.came.Came.{Came}
use Rattle.roster.specs.Groups.{group_at}
use Rattle.roster.specs.Readings.{Stamped, Rise, HasStamp, JoinsStamps}
use Rattle.roster.proofs.GroupSizes.{total_sets}
use Rattle.roster.specs.Roster.{RosterLists, id_of, IsNumbered, IsNumberUnder, IsStamp, AreOnClocks, IsRoster, IsGrown, came_from}

-- ---- lists in a row
pub get_left : {X : Type 0} (xs ys : List X) (i : ℕ) (x : X) → slice_get xs i ≡ Some x → slice_get (xs ++ ys) i ≡ Some x
get_left [] ys i x at = absurd (none-some x at)
get_left (a ∷ xs) ys zero x at = at
get_left (a ∷ xs) ys (suc i) x at = get_left xs ys i x at

pub get_right : {X : Type 0} (xs ys : List X) (i k : ℕ) → i ≡ length xs + k → slice_get (xs ++ ys) i ≡ slice_get ys k
get_right [] ys i k is = ap (λ (n : ℕ). slice_get ys n) (let e : i ≡ k = omega (arith, is) in e)
get_right (a ∷ xs) ys zero k is = absurd (omega (arith, is))
get_right (a ∷ xs) ys (suc i) k is = get_right xs ys i k (omega (arith, is))

pub get_cases : {X : Type 0} (xs ys : List X) (i : ℕ) (x : X) → slice_get (xs ++ ys) i ≡ Some x → (slice_get xs i ≡ Some x) ⊎ ((k : ℕ) × (i ≡ length xs + k) × (slice_get ys k ≡ Some x))
get_cases [] ys i x at = inr (i, omega arith, at)
get_cases (a ∷ xs) ys zero x at = inl at
get_cases (a ∷ xs) ys (suc i) x at = elim (get_cases xs ys i x at) [
  | inl before ↦ inl before
  | inr (k, is, there') ↦ inr (k, omega (arith, is), there')
]

pub range_at : (a n k : ℕ) → k < n → slice_get (range_with_len a n) k ≡ Some (a + k)
range_at a zero k inside = absurd (omega (arith, inside))
range_at a (suc n) zero inside = ap Some (let e : a ≡ a + 0 = omega arith in e)
range_at a (suc n) (suc k) inside = range_at (a + 1) n k (omega (arith, inside)) ∙ ap Some (let e : a + 1 + k ≡ a + suc k = omega arith in e)

range_is : (a n k v : ℕ) → slice_get (range_with_len a n) k ≡ Some v → (v ≡ a + k) × (k < n)
range_is a zero k v at = absurd (none-some v at)
range_is a (suc n) zero v at = ((let e : a ≡ v = same_Some a v at in omega (arith, e)), omega arith)
range_is a (suc n) (suc k) v at = let more = range_is (a + 1) n k v at in ((let e = more.0 in omega (arith, e)), (let l = more.1 in omega (arith, l)))

-- ---- events that come
abbrev pub new_event : ℕ → ℕ → ℕ → Came
new_event label number stamp = record { stamp = stamp; label = label; number = number; node = 0; partner = None }

came_at : (label n : ℕ) (stamps : List ℕ) (k : ℕ) → k < length stamps → (e : Came) × (slice_get (came_from label n stamps) k ≡ Some e) × (e.label ≡ label) × (e.number ≡ n + k)
came_at label n [] k inside = absurd (omega (arith, inside))
came_at label n (s ∷ stamps) zero inside = (new_event label n s, refl, refl, omega arith)
came_at label n (s ∷ stamps) (suc k) inside = let more = came_at label (n + 1) stamps k (omega (arith, inside)) in (more.0, more.1, more.2, (let e = more.3 in omega (arith, e)))

came_is : (label n : ℕ) (stamps : List ℕ) (k : ℕ) (e : Came) → slice_get (came_from label n stamps) k ≡ Some e → (k < length stamps) × (e.label ≡ label) × (e.number ≡ n + k)
came_is label n [] k e at = absurd (none-some e at)
came_is label n (s ∷ stamps) zero e at =
    let same : new_event label n s ≡ e = same_Some (new_event label n s) e at in
    (omega arith, sym (ap (λ (x : Came). x.label) same), (let m : n ≡ e.number = ap (λ (x : Came). x.number) same in omega (arith, m)))
came_is label n (s ∷ stamps) (suc k) e at = let more = came_is label (n + 1) stamps k e at in ((let l = more.0 in omega (arith, l)), more.1, (let m = more.2 in omega (arith, m)))

came_stamp : (label n : ℕ) (stamps : List ℕ) (e : Came) → Contains (came_from label n stamps) e → (e.label ≡ label) × Contains stamps e.stamp
came_stamp label n [] e c = absurd (none_in e c)
came_stamp label n (s ∷ stamps) e c = elim (head_or_tail (new_event label n s) e (came_from label (n + 1) stamps) c) [
  | inl same ↦ (sym (ap (λ (x : Came). x.label) same), subst (Contains (s ∷ stamps)) (ap (λ (x : Came). x.stamp) same) (here s stamps))
  | inr more ↦ (let rest = came_stamp label (n + 1) stamps e more in (rest.0, there s e.stamp stamps rest.1))
]

stamp_came : (label n : ℕ) (stamps : List ℕ) (stamp : ℕ) → Contains stamps stamp → (e : Came) × Contains (came_from label n stamps) e × (e.label ≡ label) × (e.stamp ≡ stamp)
stamp_came label n [] stamp c = absurd (none_in stamp c)
stamp_came label n (s ∷ stamps) stamp c = elim (head_or_tail s stamp stamps c) [
  | inl same ↦ (new_event label n s, here (new_event label n s) (came_from label (n + 1) stamps), refl, same)
  | inr more ↦ (let rest = stamp_came label (n + 1) stamps stamp more in (rest.0, there (new_event label n s) rest.0 (came_from label (n + 1) stamps) rest.1, rest.2, rest.3))
]

length-came_from : (label n : ℕ) (stamps : List ℕ) → length (came_from label n stamps) ≡ length stamps
length-came_from label n [] = refl
length-came_from label n (s ∷ stamps) = ap suc (length-came_from label (n + 1) stamps)

pub on_clock_of : (d : Declaration) (l : Label) (label : ℕ) → slice_get d.labels label ≡ Some l → (e : Came) → e.label ≡ label → clock_of d (id_of e) ≡ l.clock
on_clock_of d l label own e same = ap (λ (k : ℕ). clock_by (slice_get d.labels k)) same ∙ ap clock_by own

pub clock_inside : (d : Declaration) (l : Label) (label : ℕ) → IsDeclaration d → slice_get d.labels label ≡ Some l → l.clock < length d.clocks
clock_inside d l label lawful own =
    let on = all_at (λ (x : Label). IsClockOf d.owners x.host x.clock) d.labels label l lawful.labels.label_clocks own in
    let inside : l.clock < length d.owners = slice_get_within d.owners l.clock on.0 on.1 in
    let many = lawful.clocks.clocks_owned in
    omega (arith, inside, many)

id_is : (e : Came) (label number : ℕ) → e.label ≡ label → e.number ≡ number → id_of e ≡ record { label = label; number = number }
id_is e label number l n = rw (l, n) refl

module _ (r : RosterLists) (is : IsRoster r) (label clock : ℕ) (stamps : List ℕ) (now : List Stamped) (inside : label < length r.under) (on : clock < length r.readings)
    (own : (e : Came) → e.label ≡ label → clock_of r.declaration (id_of e) ≡ clock) (joins : JoinsStamps (group_at r.readings clock) stamps now) (few : length r.came + length stamps ≤ most_events) where
  abbrev pub more : List Came
  more = came_from label (length (group_at r.under label) + 1) stamps

  abbrev pub pushed : RosterLists
  pushed = record {
    declaration = r.declaration;
    came = r.came ++ came_from label (length (group_at r.under label) + 1) stamps;
    under = set r.under label (group_at r.under label ++ range_with_len (length r.came) (length stamps));
    readings = set r.readings clock now;
  }

  under_here : group_at pushed.under label ≡ group_at r.under label ++ range_with_len (length r.came) (length stamps)
  under_here = get_or-set_same r.under label (group_at r.under label ++ range_with_len (length r.came) (length stamps)) [] inside

  under_there : (g : ℕ) → g ≢ label → group_at pushed.under g ≡ group_at r.under g
  under_there g other = get_or-set_other r.under label g (group_at r.under label ++ range_with_len (length r.came) (length stamps)) [] other

  readings_here : group_at pushed.readings clock ≡ now
  readings_here = get_or-set_same r.readings clock now [] on

  readings_there : (c : ℕ) → c ≢ clock → group_at pushed.readings c ≡ group_at r.readings c
  readings_there c other = get_or-set_other r.readings clock c now [] other

  still : (v l n : ℕ) → IsNumbered r.came v l n → IsNumbered pushed.came v l n
  still v l n (e, at, id) = (e, get_left r.came more v e at, id)

  numbers : (k v : ℕ) → slice_get (group_at r.under label ++ range_with_len (length r.came) (length stamps)) k ≡ Some v → IsNumbered pushed.came v label (suc k)
  numbers k v at = elim (get_cases (group_at r.under label) (range_with_len (length r.came) (length stamps)) k v at) [
    | inl before ↦ still v label (suc k) (is.numbered label k v before)
    | inr (j, place, there') ↦ (
        let range = range_is (length r.came) (length stamps) j v there' in
        let e = came_at label (length (group_at r.under label) + 1) stamps j range.1 in
        let n : e.0.number ≡ length (group_at r.under label) + 1 + j = e.3 in
        (e.0, get_right r.came more v j range.0 ∙ e.1, id_is e.0 label (suc k) e.2 (omega (arith, n, place))))
  ]

  pushed_numbered : (g k v : ℕ) → slice_get (group_at pushed.under g) k ≡ Some v → IsNumbered pushed.came v g (suc k)
  pushed_numbered g k v at = elim (cases_eq g label) [
    | inl same ↦ subst (λ (l : ℕ). IsNumbered pushed.came v l (suc k)) (sym same)
        (numbers k v (subst (λ (vs : List ℕ). slice_get vs k ≡ Some v) (ap (group_at pushed.under) same ∙ under_here) at))
    | inr other ↦ still v g (suc k) (is.numbered g k v (subst (λ (vs : List ℕ). slice_get vs k ≡ Some v) (under_there g other) at))
  ]

  under_still : (id : EventId) (v : ℕ) → IsNumberUnder r.under id v → IsNumberUnder pushed.under id v
  under_still id v (k, n, at) = (
    k,
    n,
    elim (cases_eq id.label label) [
      | inl same ↦ subst (λ (vs : List ℕ). slice_get vs k ≡ Some v) (sym (ap (group_at pushed.under) same ∙ under_here))
          (get_left (group_at r.under label) (range_with_len (length r.came) (length stamps)) k v (subst (λ (l : ℕ). slice_get (group_at r.under l) k ≡ Some v) same at))
      | inr other ↦ subst (λ (vs : List ℕ). slice_get vs k ≡ Some v) (sym (under_there id.label other)) at
    ],
  )

  pushed_every : (v : ℕ) (e : Came) → slice_get pushed.came v ≡ Some e → IsNumberUnder pushed.under (id_of e) v
  pushed_every v e at = elim (get_cases r.came more v e at) [
    | inl before ↦ under_still (id_of e) v (is.every v e before)
    | inr (j, place, there') ↦ (
        let facts = came_is label (length (group_at r.under label) + 1) stamps j e there' in
        let n : e.number ≡ length (group_at r.under label) + 1 + j = facts.2 in
        let here' : slice_get (group_at r.under label ++ range_with_len (length r.came) (length stamps)) (length (group_at r.under label) + j) ≡ Some v =
        get_right (group_at r.under label) (range_with_len (length r.came) (length stamps)) (length (group_at r.under label) + j) j refl
        ∙ range_at (length r.came) (length stamps) j facts.0 ∙ ap Some (sym place) in (
          length (group_at r.under label) + j,
          omega (arith, n),
          subst (λ (vs : List ℕ). slice_get vs (length (group_at r.under label) + j) ≡ Some v) (sym (ap (group_at pushed.under) facts.1 ∙ under_here)) here',
        ))
  ]

  stamp_still : (c s : ℕ) → IsStamp r.declaration r.came c s → IsStamp r.declaration pushed.came c s
  stamp_still c s (e, among, clock', stamp') = (e, Contains-append_left r.came more e among, clock', stamp')

  stamp_new : (s : ℕ) → Contains stamps s → IsStamp r.declaration pushed.came clock s
  stamp_new s c =
      let e = stamp_came label (length (group_at r.under label) + 1) stamps s c in
      (e.0, Contains-append_right r.came more e.0 e.1, own e.0 e.2, e.3)

  each_here : (s : ℕ) → HasStamp now s → IsStamp r.declaration pushed.came clock s
  each_here s (node, among) = elim (joins.only (s, node) among) [
    | inl before ↦ stamp_still clock s (is.on_clocks.each clock s (node, before))
    | inr new ↦ stamp_new s new.0
  ]

  has_still : (c s : ℕ) → HasStamp (group_at r.readings c) s → HasStamp (group_at pushed.readings c) s
  has_still c s (node, among) = elim (cases_eq c clock) [
    | inl same ↦ (
      node,
      subst (λ (rs : List Stamped). Contains {X = Stamped} rs (s, node)) (sym (ap (group_at pushed.readings) same ∙ readings_here))
          (joins.kept (s, node) (subst (λ (k : ℕ). Contains {X = Stamped} (group_at r.readings k) (s, node)) same among)),
    )
    | inr other ↦ (node, subst (λ (rs : List Stamped). Contains {X = Stamped} rs (s, node)) (sym (readings_there c other)) among)
  ]

  pushed_on : AreOnClocks r.declaration pushed.came pushed.readings
  pushed_on = record {
    rise = λ c. elim (cases_eq c clock) [
      | inl same ↦ subst Rise (sym (ap (group_at pushed.readings) same ∙ readings_here)) joins.rise
      | inr other ↦ subst Rise (sym (readings_there c other)) (is.on_clocks.rise c)
    ];
    each = λ c s has. elim (cases_eq c clock) [
      | inl same ↦ subst (λ (k : ℕ). IsStamp r.declaration pushed.came k s) (sym same) (each_here s (subst (λ (rs : List Stamped). HasStamp rs s) (ap (group_at pushed.readings) same ∙ readings_here) has))
      | inr other ↦ stamp_still c s (is.on_clocks.each c s (subst (λ (rs : List Stamped). HasStamp rs s) (readings_there c other) has))
    ];
    every = λ c s stamped. elim (Contains-append_cases r.came more stamped.0 stamped.1) [
      | inl before ↦ has_still c s (is.on_clocks.every c s (stamped.0, before, stamped.2, stamped.3))
      | inr new ↦ (
          let e = came_stamp label (length (group_at r.under label) + 1) stamps stamped.0 new in
          let same : c ≡ clock = sym stamped.2 ∙ own stamped.0 e.0 in
          subst (λ (rs : List Stamped). HasStamp rs s) (sym (ap (group_at pushed.readings) same ∙ readings_here)) (joins.added s (subst (Contains stamps) stamped.3 e.1)))
    ];
    few =
        let a = total_sets r.readings clock now on in
        let b = joins.few in
        let c = is.on_clocks.few in
        omega (arith, a, b, c, length-append r.came more, length-came_from label (length (group_at r.under label) + 1) stamps);
  }

  pub pushed_is : IsRoster pushed
  pushed_is = record {
    declared = is.declared;
    labels = length-set r.under label (group_at r.under label ++ range_with_len (length r.came) (length stamps)) ∙ is.labels;
    clocks = length-set r.readings clock now ∙ is.clocks;
    numbered = pushed_numbered;
    every = pushed_every;
    count =
        let a = total_sets r.under label (group_at r.under label ++ range_with_len (length r.came) (length stamps)) inside in
        let b = is.count in
        omega (
          arith,
          a,
          b,
          length-append r.came more,
          length-came_from label (length (group_at r.under label) + 1) stamps,
          length-append (group_at r.under label) (range_with_len (length r.came) (length stamps)),
          length-range_with_len (length r.came) (length stamps),
        );
    few = omega (arith, few, length-append r.came more, length-came_from label (length (group_at r.under label) + 1) stamps);
    on_clocks = pushed_on;
  }

  pub pushed_grown : IsGrown r pushed label stamps
  pushed_grown = record {
    declaration = refl;
    came = refl;
    under = refl;
    readings = λ c s among. elim (cases_eq c clock) [
      | inl same ↦ subst (λ (rs : List Stamped). Contains rs s) (sym (ap (group_at pushed.readings) same ∙ readings_here)) (joins.kept s (subst (λ (k : ℕ). Contains (group_at r.readings k) s) same among))
      | inr other ↦ subst (λ (rs : List Stamped). Contains rs s) (sym (readings_there c other)) among
    ];
    fresh = λ c s among. elim (cases_eq c clock) [
      | inl same ↦ elim (joins.only s (subst (λ (rs : List Stamped). Contains rs s) (ap (group_at pushed.readings) same ∙ readings_here) among)) [
        | inl before ↦ inl (subst (λ (k : ℕ). Contains (group_at r.readings k) s) (sym same) before)
        | inr new ↦ inr new.1
      ]
      | inr other ↦ inl (subst (λ (rs : List Stamped). Contains rs s) (readings_there c other) among)
    ];
  }

  -- the lists of the code are these
  module _ (came : List Came) (under : List (List ℕ)) (readings : List (List Stamped)) (came_is : came ≡ pushed.came) (under_is : under ≡ pushed.under) (readings_is : readings ≡ pushed.readings) where
    abbrev pub pushed_so : RosterLists
    pushed_so = record { declaration = r.declaration; came = came; under = under; readings = readings }

    same_roster : pushed ≡ pushed_so
    same_roster = rw (came_is, under_is, readings_is) refl

    pub pushed_so_is : IsRoster pushed_so
    pushed_so_is = subst IsRoster same_roster pushed_is

    pub pushed_so_grown : IsGrown r pushed_so label stamps
    pushed_so_grown = subst (λ (x : RosterLists). IsGrown r x label stamps) same_roster pushed_grown

range_next : (a n : ℕ) → range_with_len a (suc n) ≡ range_with_len a n ++ (a + n) ∷ []
range_next a zero = ap (λ (x : ℕ). x ∷ []) (let e : a ≡ a + 0 = omega arith in e)
range_next a (suc n) = ap (λ (xs : List ℕ). a ∷ xs) (range_next (a + 1) n) ∙ ap (λ (x : ℕ). a ∷ (range_with_len (a + 1) n ++ x ∷ [])) (let e : a + 1 + n ≡ a + suc n = omega arith in e)

pub range_more : (a n : ℕ) → range_with_len a (n + 1) ≡ range_with_len a n ++ (a + n) ∷ []
range_more a n = ap (range_with_len a) (let e : n + 1 ≡ suc n = omega arith in e) ∙ range_next a n
