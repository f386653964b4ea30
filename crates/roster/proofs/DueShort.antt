-- The short list of a problem is due among all its events.
use Rattle.std.proofs.Common.{◌≡◌, ◌⊎◌, ◌<◌, ◌+◌, ◌==◌, ℕ, suc, List, [], ◌∷◌, ◌++◌, length, Option, Some, None, slice_get, Contains, All, AllPairs, refl, sym, ap, subst, arith, inl, inr}
use Rattle.std.specs.List.{flat_map}
use Rattle.std.proofs.lemmas.Bool.{cases_eq, eq-eqb, ne_eqb, cond-true, cond-false}
use Rattle.std.proofs.lemmas.List.Elements.{All-append, All-cons, All-nil, All-head, All-tail, All-contains, All-contains_itself, Contains-append_left, Contains-append_right}
use Rattle.std.proofs.lemmas.Option.{slice_get_read, slice_get_within, get_or_from_slice_get}
use Rattle.problem_model.specs.declared.items.Clock.{Clock}
use Rattle.problem_model.specs.declared.items.Event.{Event}
use Rattle.problem_model.specs.declared.items.Message.{Message}
use Rattle.problem_model.specs.declared.items.Bound.{Bound}
use Rattle.problem_model.specs.declared.items.Bound.TheVariants as bounds
use Rattle.problem_model.specs.declared.items.Bound.TheVariants.{SpanMost, SpanLeast, Late, Early, DelayMost, DelayLeast}
use Rattle.problem_model.specs.Problem.{ProblemLists, IsChained}
use Rattle.problem_model.specs.Bounds.{IsReading}
use Rattle.problem_model.specs.Nodes.{Reading, AreReadings, IsEarlierReading}
use Rattle.problem_model.specs.ShortList.{short_list, neighbour_bounds, span_bounds, event_bounds, clocks_before, first_reading, nearest_reading, follow_bound, follow_bounds, most_bound, message_bounds}
use Rattle.problem_model.proofs.NearestFollows.{Joins, follows_are}
use Rattle.traces.proofs.Members.{here, there, head_or_tail, first_of_pairs, rest_of_pairs}
use Rattle.roster.specs.Entered.{IsReadingOf, AreNeighbours, AreLinked, IsDue, all_events}

pub read_all : (q : ProblemLists) (clock stamp : ℕ) → IsReading q clock stamp → IsReadingOf q all_events clock stamp
read_all q clock stamp (e, (k, inside, is), on, same) = (k, e, (slice_get_read q.events (length q.events) k e refl inside (sym is), refl), on, same)

pub all_read : (q : ProblemLists) (clock stamp : ℕ) → IsReadingOf q all_events clock stamp → IsReading q clock stamp
all_read q clock stamp (k, e, has, on, same) = (e, (k, slice_get_within q.events k e has.0, get_or_from_slice_get q.events k e e has.0), on, same)

module _ (q : ProblemLists) (readings : List Reading) (are : AreReadings q readings) where
  abbrev Due : Bound → Type 0
  Due b = IsDue q all_events b

  -- the readings that are not in the list come before all of it
  abbrev AreRest : List Reading → Type 0
  AreRest rest = (x : Reading) → Contains readings x → Contains rest x ⊎ ((y : Reading) → Contains rest y → IsEarlierReading x y)

  on_clock : (a b : Reading) → a.0 ≡ b.0 → IsEarlierReading a b → a.1 < b.1
  on_clock a b same (inl less) = absurd (omega (arith, less, same))
  on_clock a b same (inr more) = more.1

  are_neighbours : (a b : Reading) (rest : List Reading) → AllPairs IsEarlierReading (a ∷ b ∷ rest) → AreRest (a ∷ b ∷ rest) → Contains readings a → Contains readings b → a.0 ≡ b.0 → AreNeighbours q all_events a.0 a.1 b.1
  are_neighbours a b rest rising left in_a in_b same =
      let first : IsEarlierReading a b = rising 0 1 a (omega arith) (omega arith) in
      record {
        first = read_all q a.0 a.1 (are.each a.0 a.1 in_a);
        second = subst (λ (c : ℕ). IsReadingOf q all_events c b.1) (sym same) (read_all q b.0 b.1 (are.each b.0 b.1 in_b));
        rising = on_clock a b same first;
        none = λ u read above below. between u above below (left (a.0, u) (are.every a.0 u (all_read q a.0 u read)));
      }
    where
      behind_b : (x : Reading) → Contains rest x → IsEarlierReading b x
      behind_b x among = All-contains (IsEarlierReading b) rest x (first_of_pairs IsEarlierReading b rest (rest_of_pairs IsEarlierReading a (b ∷ rest) rising)) among

      between : (u : ℕ) → a.1 < u → u < b.1 → Contains {X = Reading} (a ∷ b ∷ rest) (a.0, u) ⊎ ((y : Reading) → Contains (a ∷ b ∷ rest) y → IsEarlierReading (a.0, u) y) → ⊥
      between u above below (inr before) =
          let less : u < a.1 = on_clock (a.0, u) a refl (before a (here a (b ∷ rest))) in
          omega (arith, less, above)
      between u above below (inl among) = elim (head_or_tail a (a.0, u) (b ∷ rest) among) [
        | inl is ↦ (let e : a.1 ≡ u = ap (λ (x : Reading). x.1) is in omega (arith, e, above))
        | inr more ↦ elim (head_or_tail b (a.0, u) rest more) [
          | inl is ↦ (let e : b.1 ≡ u = ap (λ (x : Reading). x.1) is in omega (arith, e, below))
          | inr last ↦ (let less : b.1 < u = on_clock b (a.0, u) (sym same) (behind_b (a.0, u) last) in omega (arith, less, below))
        ]
      ]

  next_rest : (a : Reading) (rest : List Reading) → AllPairs IsEarlierReading (a ∷ rest) → AreRest (a ∷ rest) → AreRest rest
  next_rest a rest rising left x among = elim (left x among) [
    | inl has ↦ elim (head_or_tail a x rest has) [
      | inl is ↦ inr (λ y c. subst (λ (z : Reading). IsEarlierReading z y) is (All-contains (IsEarlierReading a) rest y (first_of_pairs IsEarlierReading a rest rising) c))
      | inr more ↦ inl more
    ]
    | inr before ↦ inr (λ y c. before y (there a y rest c))
  ]

  both_due : (a b : Reading) → (a.0 ≡ b.0 → AreNeighbours q all_events a.0 a.1 b.1) → All Due (neighbour_bounds a b)
  both_due a b neighbours = elim (cases_eq a.0 b.0) [
    | inl same ↦ subst (All Due) (sym (cond-true (a.0 == b.0) (SpanMost a.0 a.1 b.1 ∷ SpanLeast a.0 a.1 b.1 ∷ []) [] (eq-eqb a.0 b.0 same)))
        (All-cons Due (SpanMost a.0 a.1 b.1) (SpanLeast a.0 a.1 b.1 ∷ []) (neighbours same) (All-cons Due (SpanLeast a.0 a.1 b.1) [] (neighbours same) (All-nil Due)))
    | inr other ↦ subst (All Due) (sym (cond-false (a.0 == b.0) (SpanMost a.0 a.1 b.1 ∷ SpanLeast a.0 a.1 b.1 ∷ []) [] (ne_eqb a.0 b.0 other))) (All-nil Due)
  ]

  spans : (rest : List Reading) → AllPairs IsEarlierReading rest → AreRest rest → All (Contains readings) rest → All Due (span_bounds rest)
  spans [] rising left in_all = All-nil Due
  spans (a ∷ []) rising left in_all = All-nil Due
  spans (a ∷ b ∷ rest) rising left in_all =
      All-append Due (neighbour_bounds a b) (span_bounds (b ∷ rest))
      (both_due a b (are_neighbours a b rest rising left (in_all 0 a (omega arith)) (in_all 1 a (omega arith))))
      (spans (b ∷ rest) (rest_of_pairs IsEarlierReading a (b ∷ rest) rising) (next_rest a (b ∷ rest) rising left) (All-tail (Contains readings) a (b ∷ rest) in_all))

  stamps : (k : ℕ) (es : List Event) → ((i : ℕ) (e : Event) → slice_get es i ≡ Some e → slice_get q.events (k + i) ≡ Some e) → All Due (event_bounds k es)
  stamps k [] same = All-nil Due
  stamps k (e ∷ es) same =
      let at : slice_get q.events k ≡ Some e = subst (λ (i : ℕ). slice_get q.events i ≡ Some e) (let none : k + 0 ≡ k = omega arith in none) (same 0 e refl) in
      All-cons Due (Late k) (Early k ∷ event_bounds (k + 1) es) (e, (at, refl))
      (All-cons Due (Early k) (event_bounds (k + 1) es) (e, (at, refl))
      (stamps (k + 1) es (λ i v stands. subst (λ (n : ℕ). slice_get q.events n ≡ Some v) (let next : k + suc i ≡ k + 1 + i = omega arith in next) (same (suc i) v stands))))

  most_due : (m : Message) (o : Option ℕ) → m.most ≡ o → Contains q.messages m → All Due (most_bound m o)
  most_due m None is has = All-nil Due
  most_due m (Some most) is has = All-cons Due (DelayMost m.send m.receive) [] (m, most, record { among = has; send_is = refl; receive_is = refl; send_in = refl; receive_in = refl }, is) (All-nil Due)

  delays : (ms : List Message) → All (Contains q.messages) ms → All Due (flat_map message_bounds ms)
  delays [] has = All-nil Due
  delays (m ∷ ms) has =
      let among = All-head (Contains q.messages) m ms has in
      All-append Due (message_bounds m) (flat_map message_bounds ms)
      (All-append Due (most_bound m m.most) (DelayLeast m.send m.receive ∷ []) (most_due m m.most refl among)
      (All-cons Due (DelayLeast m.send m.receive) [] (m, record { among = among; send_is = refl; receive_is = refl; send_in = refl; receive_in = refl }) (All-nil Due)))
      (delays ms (All-tail (Contains q.messages) m ms has))

  module _ (chained : IsChained q) where
    abbrev all_follows : List Bound
    all_follows = follow_bounds q.follows readings 0 q.clocks

    joins : (c s d t : ℕ) → Contains all_follows (bounds.Follow c s d t) → Joins q chained readings are c s d t
    joins c s d t among = (follows_are q chained readings are c s d t).0 among

    linked : (c s d t : ℕ) → Joins q chained readings are c s d t → AreLinked q all_events c s d t
    linked c s d t join = record {
      comes = join.0.0;
      nearest = λ b u after read. join.0.1 b u after (all_read q b u read);
      last = read_all q c s join.1.0;
      none_after = λ u read. join.1.1 u (all_read q c u read);
      first = read_all q d t join.2.0;
      none_before = λ u read. join.2.1 u (all_read q d u read);
    }

    follow_due : (one other : Option Reading) → ((b : Bound) → Contains (follow_bound one other) b → Contains all_follows b) → All Due (follow_bound one other)
    follow_due None other held = All-nil Due
    follow_due (Some a) None held = All-nil Due
    follow_due (Some a) (Some b) held =
        let f : Bound = bounds.Follow a.0 a.1 b.0 b.1 in
        All-cons Due f [] (linked a.0 a.1 b.0 b.1 (joins a.0 a.1 b.0 b.1 (held f (here f [])))) (All-nil Due)

    follows : (k : ℕ) (clocks : List Clock) → ((b : Bound) → Contains (follow_bounds q.follows readings k clocks) b → Contains all_follows b) → All Due (follow_bounds q.follows readings k clocks)
    follows k [] held = All-nil Due
    follows k (c ∷ clocks) held =
        let before : Option Reading = nearest_reading readings (clocks_before q.follows k k) in
        let first : Option Reading = first_reading readings k in
        let rest : List Bound = follow_bounds q.follows readings (k + 1) clocks in
        All-append Due (follow_bound before first) rest
        (follow_due before first (λ b among. held b (Contains-append_left (follow_bound before first) rest b among)))
        (follows (k + 1) clocks (λ b among. held b (Contains-append_right (follow_bound before first) rest b among)))

    pub short_due : All (λ (b : Bound). IsDue q all_events b) (short_list q readings)
    short_due =
        All-append Due (span_bounds readings ++ event_bounds 0 q.events ++ all_follows) (flat_map message_bounds q.messages)
        (All-append Due (span_bounds readings ++ event_bounds 0 q.events) all_follows
        (All-append Due (span_bounds readings) (event_bounds 0 q.events)
        (spans readings are.rising (λ x among. inl among) (All-contains_itself readings))
        (stamps 0 q.events (λ i e at. subst (λ (n : ℕ). slice_get q.events n ≡ Some e) (let same : i ≡ 0 + i = omega arith in same) at)))
        (follows 0 q.clocks (λ b among. among)))
        (delays q.messages (All-contains_itself q.messages))
