-- The links of the messages, sorted and each once, are the links of the problem. A link is taken for the reading of an event.
use Rattle.std.proofs.Common.{◌≡◌, ◌<◌, ℕ, zero, suc, List, [], ◌∷◌, length, map, slice_get, Option, Some, None, Bool, true, false, ◌&&◌, ◌==◌, All, Contains, refl, sym, ◌∙◌, ap, subst, arith}
use Rattle.std.specs.List.Sorted.{IsSorted, IsPermutation}
use Rattle.std.specs.List.Retain.{IsFiltered, DiffersFromLast}
use Rattle.std.proofs.lemmas.Bool.Decides.{nat_tests}
use Rattle.std.proofs.lemmas.List.Elements.{All-contains, All-filter, filter_passes}
use Rattle.std.proofs.lemmas.List.Folds.{Any-from_list_any, list_any_at}
use Rattle.std.proofs.lemmas.List.Kept.{AllPairs-filter}
use Rattle.problem_model.specs.declared.items.Event.{Event}
use Rattle.problem_model.specs.declared.items.Message.{Message}
use Rattle.problem_model.specs.Problem.{ProblemLists, IsWellFormed}
use Rattle.problem_model.specs.Bounds.{IsReading}
use Rattle.problem_model.specs.Nodes.{Reading, IsEarlierReading, AreReadings}
use Rattle.problem_model.proofs.OneList.{readings_one}
use Rattle.problem.specs.Growing.{reading_of}
use Rattle.problem.specs.Listing.{reading_order}
use Rattle.problem.proofs.ReadingOrder.{reading_eq, readings_made}
use Rattle.cert_check.specs.declared.what.Links.TheVariants.{Between}
use Rattle.cert_check.specs.Widened.{is_on, joins}
use Rattle.cert_check.proofs.Messages.{ends_within}
use Rattle.widen.specs.Blame.{clock_of, link_of, is_used, pairs_of, links_of}
use Rattle.widen.proofs.ClockPairs.{pairs_within, pairs_have, pairs_rise, kept}

-- ---- the clock of an event
abbrev clock_in : Option Event → ℕ
clock_in o = elim o [ None ↦ 0 | Some v ↦ v.clock ]

abbrev has_clock : Option Event → ℕ → Bool
has_clock o clock = elim o [ None ↦ false | Some v ↦ v.clock == clock ]

tells : (o : Option Event) (clock : ℕ) → has_clock o clock ≡ true → clock_in o ≡ clock
tells None clock is = absurd cc
tells (Some v) clock is = grind (arith, nat_tests)

told : (o : Option Event) (v : Event) → o ≡ Some v → has_clock o (clock_in o) ≡ true
told None v is = absurd cc
told (Some w) v is = grind (arith, nat_tests)

within : (o : Option Event) (v : Event) (clocks : ℕ) → o ≡ Some v → v.clock < clocks → clock_in o < clocks
within None v clocks is lt = absurd cc
within (Some w) v clocks is lt = let same : w ≡ v = cc in subst (λ (e : Event). e.clock < clocks) (sym same) lt

both : (a b : Bool) → (a && b) ≡ true → (a ≡ true) × (b ≡ true)
both true b is = (refl, is)
both false b is = absurd cc

module _ (p : ProblemLists) where
  -- ---- a link is used where it is that of a message
  link_is : (m : Message) (from to : ℕ) → joins (Between from to) p.events m ≡ true → (clock_of p.events m.send ≡ from) × (clock_of p.events m.receive ≡ to)
  link_is m from to is =
      let each = both (is_on p.events m.send from) (is_on p.events m.receive to) is in
      (tells (slice_get p.events m.send) from each.0, tells (slice_get p.events m.receive) to each.1)

  event_at : (k : ℕ) → k < length p.events → (v : Event) × (slice_get p.events k ≡ Some v) × Contains p.events v
  event_at k inside = found p.events k inside
    where
      found : (es : List Event) (j : ℕ) → j < length es → (v : Event) × (slice_get es j ≡ Some v) × Contains es v
      found [] j lt = absurd (omega (arith, lt))
      found (e ∷ es) zero lt = (e, refl, (0, omega arith, refl))
      found (e ∷ es) (suc j) lt = let f = found es j (omega (arith, lt)) in (f.0, f.1, (suc f.2.0, (let i = f.2.1 in omega (arith, i)), f.2.2))

  module _ (formed : IsWellFormed p) where
    clock_within : (k : ℕ) → k < length p.events → clock_of p.events k < length p.clocks
    clock_within k inside = let e = event_at k inside in within (slice_get p.events k) e.0 (length p.clocks) e.1 (All-contains (λ (v : Event). v.clock < length p.clocks) p.events e.0 formed.event_clocks e.2)

    joined : (m : Message) → Contains p.messages m → joins (Between (clock_of p.events m.send) (clock_of p.events m.receive)) p.events m ≡ true
    joined m has =
        let ends = ends_within p formed m has in
        let send = event_at m.send ends.0 in
        let receive = event_at m.receive ends.1 in
        let s : is_on p.events m.send (clock_of p.events m.send) ≡ true = told (slice_get p.events m.send) send.0 send.1 in
        let r : is_on p.events m.receive (clock_of p.events m.receive) ≡ true = told (slice_get p.events m.receive) receive.0 receive.1 in
        rw (s, r) refl

    used : (m : Message) → Contains p.messages m → is_used p (link_of p.events m) ≡ true
    used m has = list_any_at (joins (Between (clock_of p.events m.send) (clock_of p.events m.receive)) p.events) p.messages has.0 m has.1 (ap (joins (Between (clock_of p.events m.send) (clock_of p.events m.receive)) p.events) has.2 ∙ joined m has)

    has_link : (m : Message) → Contains p.messages m → Contains (links_of p) (link_of p.events m)
    has_link m has =
        let ends = ends_within p formed m has in
        kept (is_used p) (pairs_of (length p.clocks)) (link_of p.events m)
        (pairs_have (length p.clocks) (clock_of p.events m.send) (clock_of p.events m.receive) (clock_within m.send ends.0) (clock_within m.receive ends.1)) (used m has)

  -- ---- links as readings
  abbrev as_event : Message → Event
  as_event m = record { name = []; clock = clock_of p.events m.send; stamp = clock_of p.events m.receive; bounds = None }

  abbrev of_links : ProblemLists
  of_links = record { clocks = []; follows = []; events = map as_event p.messages; messages = [] }

  reads : (ms : List Message) → map reading_of (map as_event ms) ≡ map (link_of p.events) ms
  reads [] = refl
  reads (m ∷ ms) = ap (λ (rest : List Reading). link_of p.events m ∷ rest) (reads ms)

  into : (ms : List Message) (m : Message) → Contains ms m → Contains (map as_event ms) (as_event m)
  into [] m has = absurd (let inside = has.1 in omega (arith, inside))
  into (n ∷ ms) m (zero, inside, is) = (0, omega arith, ap as_event is)
  into (n ∷ ms) m (suc k, inside, is) = let more = into ms m (k, omega (arith, inside), is) in (suc more.0, (let i = more.1 in omega (arith, i)), more.2)

  out_of : (ms : List Message) (e : Event) → Contains (map as_event ms) e → (m : Message) × Contains ms m × (as_event m ≡ e)
  out_of [] e has = absurd (let inside = has.1 in omega (arith, inside))
  out_of (n ∷ ms) e (zero, inside, is) = (n, (0, omega arith, refl), is)
  out_of (n ∷ ms) e (suc k, inside, is) = let more = out_of ms e (k, omega (arith, inside), is) in (more.0, (suc more.1.0, (let i = more.1.1 in omega (arith, i)), more.1.2), more.2)

  used_by : (l : ℕ × ℕ) → is_used p l ≡ true → IsReading of_links l.0 l.1
  used_by l is =
      let any = Any-from_list_any (joins (Between l.0 l.1) p.events) p.messages is in
      let m = any.1 in
      let ends = link_is m l.0 l.1 any.4 in
      (as_event m, into p.messages m (any.0, any.2, any.3), ends.0, ends.1)

  links_read : IsWellFormed p → AreReadings of_links (links_of p)
  links_read formed = record {
    each = λ from to has. used_by (from, to) (All-contains (λ (l : ℕ × ℕ). is_used p l ≡ true) (links_of p) (from, to) (filter_passes (is_used p) (pairs_of (length p.clocks))) has);
    every = λ from to (e, has, clock, stamp).
        let from_message = out_of p.messages e has in
        let m = from_message.0 in
        let is : link_of p.events m ≡ (from, to) = ap reading_of from_message.2 ∙ (rw (clock, stamp) refl) in
        subst (Contains (links_of p)) is (has_link formed m from_message.1);
    rising = AllPairs-filter IsEarlierReading (is_used p) (pairs_of (length p.clocks)) (pairs_rise (length p.clocks));
  }

  -- ---- sorted, each once
  pub links_are : IsWellFormed p → (xs ys zs : List Reading) → xs ≡ map (link_of p.events) p.messages → IsPermutation xs ys → IsSorted reading_order ys → IsFiltered (DiffersFromLast reading_eq) [] ys zs → zs ≡ links_of p
  links_are formed xs ys zs all shuffled sorted filtered =
      readings_one of_links zs (links_of p) (readings_made of_links xs ys zs (all ∙ sym (reads p.messages)) shuffled sorted filtered) (links_read formed)

  pub links_within : All (λ (l : ℕ × ℕ). (l.0 < length p.clocks) × (l.1 < length p.clocks)) (links_of p)
  links_within = All-filter (is_used p) (λ (l : ℕ × ℕ). (l.0 < length p.clocks) × (l.1 < length p.clocks)) (pairs_of (length p.clocks)) (pairs_within (length p.clocks))
