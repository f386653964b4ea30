-- The bounds that a problem declares: their weights are small, and arcs stand for those of the short list.
use Rattle.std.proofs.Common.{◌≡◌, ◌<◌, ◌≤◌, ◌+◌, ◌*◌, ◌-◌, ◌^◌, ◌==◌, ℕ, zero, suc, List, [], ◌∷◌, ◌++◌, length, get_or, slice_get, Option, Some, None, refl, sym, ap, subst, arith, inl, inr}
use Rattle.std.specs.Prelude.{pos, neg_ℤ, All, AllPairs, Contains, IfSome}
use Rattle.std.specs.List.{flat_map}
use Rattle.std.proofs.lemmas.Int.{ints}
use Rattle.std.proofs.lemmas.Nat.{mul-le}
use Rattle.std.proofs.lemmas.Bool.{cases_eq, eq-eqb, ne_eqb, cond-true, cond-false}
use Rattle.std.proofs.lemmas.List.Elements.{All-nil, All-cons, All-head, All-tail, All-append, All-contains, All-contains_itself, Contains-get_or}
use Rattle.std.proofs.lemmas.Option.{slice_get_within, get_or_from_slice_get}
use Rattle.atto.specs.Span.{least_of, most_of}
use Rattle.problem_model.specs.declared.items.Clock.{Clock}
use Rattle.problem_model.specs.declared.items.Follow as items
use Rattle.problem_model.specs.declared.items.Event.{Event}
use Rattle.problem_model.specs.declared.items.Message.{Message}
use Rattle.problem_model.specs.declared.items.StampBounds.{StampBounds}
use Rattle.problem_model.specs.declared.items.Bound.{Bound}
use Rattle.problem_model.specs.declared.items.Bound.TheVariants.{SpanMost, SpanLeast, Late, Early, Follow, DelayMost, DelayLeast}
use Rattle.problem_model.specs.Problem.{ProblemLists, IsProblem, ClockFits, EventFits, MessageFits}
use Rattle.problem_model.specs.Bounds.{Constraint, Declares, IsReading, ClockAt, early_of, late_of}
use Rattle.problem_model.specs.Nodes.{Reading, AreReadings, IsEarlierReading}
use Rattle.problem_model.specs.ShortList.{short_list, neighbour_bounds, span_bounds, event_bounds, clocks_before, first_reading, nearest_reading, follow_bound, follow_bounds, most_bound, message_bounds}
use Rattle.problem_model.proofs.Following.{chained_by, by_last}
use Rattle.problem_model.proofs.NearestFollows.{Joins, follows_are}
use Rattle.problem_model.proofs.OneName.{declared_one}
use Rattle.problem_model.specs.Executions.{Arc}
use Rattle.problem_model.specs.ProblemArcs.{IsArcOf, StandsFor}
use Rattle.problem_model.proofs.Solutions.{place_of}
use Rattle.cert.proofs.Declaring.{reading_fits}
use Rattle.problem_graph.proofs.BoundEnds.{ends_are}
use Rattle.attain.specs.Tight.{IsUnder}

-- ---- weights
up_to : (n : ℕ) → n < 2 ^ 93 → IsUnder 93 (pos n)
up_to n few = (omega (arith, ints, few), omega (arith, ints, few))

down_to : (n : ℕ) → n < 2 ^ 93 → IsUnder 93 (neg_ℤ (pos n))
down_to n few = (omega (arith, ints, few), omega (arith, ints, few))

span_few : (d rate : ℕ) → d < 2 ^ 62 → rate ≤ 2000000000 → d * rate < 2 ^ 93
span_few d rate small slow =
    let most : d * rate ≤ 2 ^ 62 * 2000000000 = mul-le d rate (2 ^ 62) 2000000000 (omega (arith, small)) slow in
    let limit : 2 ^ 62 * 2000000000 < 2 ^ 93 = omega arith in
    omega (arith, most, limit)

delay_few : (d : ℕ) → d < 2 ^ 62 → d * 1000000000 < 2 ^ 93
delay_few d small = span_few d 1000000000 small (omega arith)

holds_at : {A : Type 0} (P : A → Type 0) (xs : List A) (k : ℕ) (a : A) → All P xs → slice_get xs k ≡ Some a → P a
holds_at P xs k a all there = subst P (get_or_from_slice_get xs k a a there) (all k a (slice_get_within xs k a there))

most_fits : (o : Option ℕ) (most : ℕ) → IfSome o (λ n. n < 2 ^ 62) → o ≡ Some most → most < 2 ^ 62
most_fits o most fits is = subst (λ (v : Option ℕ). IfSome v (λ n. n < 2 ^ 62)) is fits

-- bounds of an event are few ns, whether they are its own or its clock's
late_fits : (o : Option StampBounds) (n : ℕ) → IfSome o (λ own. (own.early < 2 ^ 62) × (own.late < 2 ^ 62)) → n < 2 ^ 62 → (elim o [ None ↦ n | Some own ↦ own.late ]) < 2 ^ 62
late_fits None n own clock = clock
late_fits (Some b) n own clock = own.1

early_fits : (o : Option StampBounds) (n : ℕ) → IfSome o (λ own. (own.early < 2 ^ 62) × (own.late < 2 ^ 62)) → n < 2 ^ 62 → (elim o [ None ↦ n | Some own ↦ own.early ]) < 2 ^ 62
early_fits None n own clock = clock
early_fits (Some b) n own clock = own.0

module _ (p : ProblemLists) (lawful : IsProblem p) where
  event_fits : (e : ℕ) (v : Event) → slice_get p.events e ≡ Some v → EventFits v
  event_fits e v at = holds_at EventFits p.events e v lawful.fits.events_fit at

  weight_small : (b : Bound) (c : Constraint) → Declares p b c → IsUnder 93 c.weight
  weight_small (SpanMost clock s t) c (k, at, is, is', before, same) =
      let fits = holds_at ClockFits p.clocks clock k lawful.fits.clocks_fit at in
      let long : k.rate.long ≤ 1000000000 = fits.1 in
      let last : t < 2 ^ 62 = reading_fits p clock t lawful is' in
      subst (IsUnder 93) (sym (ap (λ (v : Constraint). v.weight) same)) (up_to (most_of k.rate (t - s)) (span_few (t - s) (1000000000 + k.rate.long) (omega (arith, last)) (omega (arith, long))))
  weight_small (SpanLeast clock s t) c (k, at, is, is', before, same) =
      let last : t < 2 ^ 62 = reading_fits p clock t lawful is' in
      subst (IsUnder 93) (sym (ap (λ (v : Constraint). v.weight) same)) (down_to (least_of k.rate (t - s)) (span_few (t - s) (1000000000 - k.rate.short) (omega (arith, last)) (omega arith)))
  weight_small (Late e) c (v, k, at, at', same) =
      let fits = holds_at ClockFits p.clocks v.clock k lawful.fits.clocks_fit at' in
      subst (IsUnder 93) (sym (ap (λ (v : Constraint). v.weight) same)) (up_to (late_of k v * 1000000000) (delay_few (late_of k v) (late_fits v.bounds k.late (event_fits e v at).1 fits.3)))
  weight_small (Early e) c (v, k, at, at', same) =
      let fits = holds_at ClockFits p.clocks v.clock k lawful.fits.clocks_fit at' in
      subst (IsUnder 93) (sym (ap (λ (v : Constraint). v.weight) same)) (up_to (early_of k v * 1000000000) (delay_few (early_of k v) (early_fits v.bounds k.early (event_fits e v at).1 fits.2)))
  weight_small (Follow earlier s later t) c (f, has, to, after, is, is', same) =
      let fits : f.gap < 2 ^ 62 = All-contains (λ (v : items.Follow). v.gap < 2 ^ 62) p.follows f lawful.fits.gaps_fit has in
      subst (IsUnder 93) (sym (ap (λ (v : Constraint). v.weight) same)) (down_to (f.gap * 1000000000) (delay_few f.gap fits))
  weight_small (DelayMost send receive) c (m, most, has, is, is', is_most, same) =
      let fits = All-contains MessageFits p.messages m lawful.fits.messages_fit has in
      subst (IsUnder 93) (sym (ap (λ (v : Constraint). v.weight) same)) (up_to (most * 1000000000) (delay_few most (most_fits m.most most fits.1 is_most)))
  weight_small (DelayLeast send receive) c (m, has, is, is', same) =
      let fits = All-contains MessageFits p.messages m lawful.fits.messages_fit has in
      subst (IsUnder 93) (sym (ap (λ (v : Constraint). v.weight) same)) (down_to (m.least * 1000000000) (delay_few m.least fits.0))

pub declared_small : (p : ProblemLists) → IsProblem p → (b : Bound) (c : Constraint) → Declares p b c → IsUnder 93 c.weight
declared_small p lawful b c declares = weight_small p lawful b c declares

-- ---- the short list is declared
some_at : {A : Type 0} (xs : List A) (k : ℕ) → k < length xs → (x : A) × (slice_get xs k ≡ Some x)
some_at [] k inside = absurd (omega (arith, inside))
some_at (x ∷ xs) zero inside = (x, refl)
some_at (x ∷ xs) (suc k) inside = some_at xs k (omega (arith, inside))

module _ (p : ProblemLists) (lawful : IsProblem p) where
  abbrev IsOf : Bound → Type 0
  IsOf b = (c : Constraint) × Declares p b c

  clock_of : (clock stamp : ℕ) → IsReading p clock stamp → (k : Clock) × ClockAt p clock k
  clock_of clock stamp (e, has, is, is') = some_at p.clocks clock (subst (λ (n : ℕ). n < length p.clocks) is (All-contains (λ (e : Event). e.clock < length p.clocks) p.events e lawful.formed.event_clocks has))

  later : (a b : Reading) → IsEarlierReading a b → a.0 ≡ b.0 → a.1 < b.1
  later a b (inl less) same = absurd (omega (arith, less, same))
  later a b (inr more) same = more.1

  neighbours : (a b : Reading) → IsEarlierReading a b → IsReading p a.0 a.1 → IsReading p b.0 b.1 → All IsOf (neighbour_bounds a b)
  neighbours a b before is is' = elim (cases_eq a.0 b.0) [
    | inl same ↦ (
        let k = clock_of a.0 a.1 is in
        let other : IsReading p a.0 b.1 = subst (λ (n : ℕ). IsReading p n b.1) (sym same) is' in
        let less = later a b before same in
        subst (All IsOf) (sym (cond-true (a.0 == b.0) (SpanMost a.0 a.1 b.1 ∷ SpanLeast a.0 a.1 b.1 ∷ []) [] (eq-eqb a.0 b.0 same)))
        (All-cons IsOf (SpanMost a.0 a.1 b.1) (SpanLeast a.0 a.1 b.1 ∷ []) (_, (k.0, k.1, is, other, less, refl))
        (All-cons IsOf (SpanLeast a.0 a.1 b.1) [] (_, (k.0, k.1, is, other, less, refl)) (All-nil IsOf))))
    | inr other ↦ subst (All IsOf) (sym (cond-false (a.0 == b.0) (SpanMost a.0 a.1 b.1 ∷ SpanLeast a.0 a.1 b.1 ∷ []) [] (ne_eqb a.0 b.0 other))) (All-nil IsOf)
  ]

  spans : (rs : List Reading) → All (λ r. IsReading p r.0 r.1) rs → AllPairs IsEarlierReading rs → All IsOf (span_bounds rs)
  spans [] are rising = All-nil IsOf
  spans (a ∷ []) are rising = All-nil IsOf
  spans (a ∷ b ∷ rs) are rising =
      All-append IsOf (neighbour_bounds a b) (span_bounds (b ∷ rs))
      (neighbours a b (rising 0 1 a (omega arith) (omega arith)) (are 0 a (omega arith)) (are 1 a (omega arith)))
      (spans (b ∷ rs) (All-tail (λ (r : Reading). IsReading p r.0 r.1) a (b ∷ rs) are) (λ i j d before inside. rising (suc i) (suc j) d (omega (arith, before)) (omega (arith, inside))))

  stamps : (k : ℕ) (es : List Event) → ((i : ℕ) (e : Event) → slice_get es i ≡ Some e → slice_get p.events (k + i) ≡ Some e) → All IsOf (event_bounds k es)
  stamps k [] same = All-nil IsOf
  stamps k (e ∷ es) same =
      let here : slice_get p.events k ≡ Some e = subst (λ (i : ℕ). slice_get p.events i ≡ Some e) (let none : k + 0 ≡ k = omega arith in none) (same 0 e refl) in
      let c = some_at p.clocks e.clock (holds_at (λ (v : Event). v.clock < length p.clocks) p.events k e lawful.formed.event_clocks here) in
      All-cons IsOf (Late k) (Early k ∷ event_bounds (k + 1) es) (_, (e, c.0, here, c.1, refl))
      (All-cons IsOf (Early k) (event_bounds (k + 1) es) (_, (e, c.0, here, c.1, refl))
      (stamps (k + 1) es (λ i v at. subst (λ (n : ℕ). slice_get p.events n ≡ Some v) (let next : k + suc i ≡ k + 1 + i = omega arith in next) (same (suc i) v at))))

  most_is : (m : Message) (o : Option ℕ) → m.most ≡ o → Contains p.messages m → All IsOf (most_bound m o)
  most_is m None is has = All-nil IsOf
  most_is m (Some most) is has = All-cons IsOf (DelayMost m.send m.receive) [] (_, (m, most, has, refl, refl, is, refl)) (All-nil IsOf)

  delays : (ms : List Message) → All (Contains p.messages) ms → All IsOf (flat_map message_bounds ms)
  delays [] has = All-nil IsOf
  delays (m ∷ ms) has =
      let here = All-head (Contains p.messages) m ms has in
      All-append IsOf (message_bounds m) (flat_map message_bounds ms)
      (All-append IsOf (most_bound m m.most) (DelayLeast m.send m.receive ∷ []) (most_is m m.most refl here)
      (All-cons IsOf (DelayLeast m.send m.receive) [] (_, (m, here, refl, refl, refl)) (All-nil IsOf)))
      (delays ms (All-tail (Contains p.messages) m ms has))

  module _ (readings : List Reading) (are : AreReadings p readings) where
    -- what the short list has for a clock is a follow
    abbrev IsFollow : Bound → Type 0
    IsFollow b = (c : ℕ) × (s : ℕ) × (d : ℕ) × (t : ℕ) × (b ≡ Follow c s d t)

    one_follow : (o q : Option Reading) → All IsFollow (follow_bound o q)
    one_follow None q = All-nil IsFollow
    one_follow (Some a) None = All-nil IsFollow
    one_follow (Some a) (Some b) = All-cons IsFollow (Follow a.0 a.1 b.0 b.1) [] (a.0, a.1, b.0, b.1, refl) (All-nil IsFollow)

    all_follow : (k : ℕ) (clocks : List Clock) → All IsFollow (follow_bounds p.follows readings k clocks)
    all_follow k [] = All-nil IsFollow
    all_follow k (v ∷ clocks) =
        let before = nearest_reading readings (clocks_before p.follows k k) in
        All-append IsFollow (follow_bound before (first_reading readings k)) (follow_bounds p.follows readings (k + 1) clocks) (one_follow before (first_reading readings k)) (all_follow (k + 1) clocks)

    joined_of : (c s d t : ℕ) → Joins p (chained_by p lawful.formed) readings are c s d t → IsOf (Follow c s d t)
    joined_of c s d t (near, last, first) =
        let line = by_last p c d near.0 in
        (_, (line.0, line.1.0, line.1.1, near.0, last.0, first.0, refl))

    follows : All IsOf (follow_bounds p.follows readings 0 p.clocks)
    follows i d inside =
        let bounds = follow_bounds p.follows readings 0 p.clocks in
        let (c, s, e, t, is) = all_follow 0 p.clocks i d inside in
        subst IsOf (sym is) (joined_of c s e t ((follows_are p (chained_by p lawful.formed) readings are c s e t).0 (subst (Contains bounds) is (Contains-get_or bounds i d inside))))

    short_declared : All IsOf (short_list p readings)
    short_declared =
        All-append IsOf (span_bounds readings ++ event_bounds 0 p.events ++ follow_bounds p.follows readings 0 p.clocks) (flat_map message_bounds p.messages)
        (All-append IsOf (span_bounds readings ++ event_bounds 0 p.events) (follow_bounds p.follows readings 0 p.clocks)
        (All-append IsOf (span_bounds readings) (event_bounds 0 p.events)
        (spans readings (λ i d inside. are.each (get_or readings i d).0 (get_or readings i d).1 (Contains-get_or readings i d inside)) are.rising)
        (stamps 0 p.events (λ i e at. subst (λ (n : ℕ). slice_get p.events n ≡ Some e) (let same : i ≡ 0 + i = omega arith in same) at)))
        follows)
        (delays p.messages (All-contains_itself p.messages))

    -- ---- arcs
    abbrev IsSome : Arc → Type 0
    IsSome a = (b : Bound) × (c : Constraint) × Declares p b c × IsArcOf p readings c a

    abbrev IsAmong : List Arc → Bound → Type 0
    IsAmong arcs b = (c : Constraint) → Declares p b c → (a : Arc) × Contains arcs a × IsArcOf p readings c a

    among_more : (first : Arc) (arcs : List Arc) (b : Bound) → IsAmong arcs b → IsAmong (first ∷ arcs) b
    among_more first arcs b among c declares =
        let found = among c declares in
        let inside = found.1.1 in
        (found.0, (suc found.1.0, omega (arith, inside), found.1.2), found.2)

    arcs_for : (bs : List Bound) → All IsOf bs → (arcs : List Arc) × All IsSome arcs × All (IsAmong arcs) bs
    arcs_for [] all = ([], All-nil IsSome, All-nil (IsAmong []))
    arcs_for (b ∷ bs) all =
        let here = All-head IsOf b bs all in
        let rest = arcs_for bs (All-tail IsOf b bs all) in
        let ends = ends_are p b here.0 lawful here.1 in
        let from = place_of p readings are here.0.from ends.0 in
        let to = place_of p readings are here.0.to ends.1 in
        let a : Arc = record { from = from.0; to = to.0; weight = here.0.weight } in
        let is : IsArcOf p readings here.0 a = record { tail = from.1; head = to.1; weighs = refl } in (
          a ∷ rest.0,
          All-cons IsSome a rest.0 (b, here.0, here.1, is) rest.1,
          All-cons (IsAmong (a ∷ rest.0)) b bs
              (λ c declares. (a, (0, omega arith, refl), subst (λ (d : Constraint). IsArcOf p readings d a) (declared_one p lawful.formed b here.0 c here.1 declares) is))
              (λ i d inside. among_more a rest.0 (get_or bs i d) (rest.2 i d inside)),
        )

    pub arcs_stand : (arcs : List Arc) × StandsFor p readings arcs
    arcs_stand = let some = arcs_for (short_list p readings) short_declared in (some.0, record { chained = chained_by p lawful.formed; each = some.1; every = some.2 })
