-- What the code holds, with more at one label.
use Rattle.std.proofs.Common.{◌≡◌, ℕ, zero, suc, ◌+◌, ◌<◌, ◌≤◌, ◌^◌, List, [], ◌∷◌, ◌++◌, length, map, slice_get, slice_set, Option, Some, Result, Ok, Err, OnErr, All, option_map, sym, ◌∙◌, ap, subst, arith}
use Rattle.std.specs.List.{slice_index_or}
use Rattle.std.proofs.lemmas.List.Sums.{get_or-le-sum_by}
use Rattle.std.proofs.lemmas.List.{length-map}
use Rattle.std.proofs.lemmas.List.Elements.{All-head, All-tail}
use Rattle.std.proofs.lemmas.Option.{slice_get-map, slice_get-get_or, slice_get_within, get_or_from_slice_get}
use Rattle.std.proofs.Math.Seq.{map-set}
use Rattle.captures.specs.Feeding.{taken}
use Rattle.traces.specs.Seen.{Seen, seen_event, seen_events}
use Rattle.traces.specs.Traces.{event_count}
use Rattle.traces.specs.Held.{seen_in}
use Rattle.traces.specs.declared.accepted.Accepted.{Accepted}
use Rattle.traces.specs.declared.event_id.EventId.{EventId}
use Rattle.solver.specs.Solver.{SolverLists}
use Rattle.traces.specs.declared.accepted.Stream.{Stream}
use Rattle.traces.specs.declared.accepted.Stream.TheVariants as streams
use Rattle.decl.specs.declared.items.Label.{Label}
use Rattle.decl.specs.Declaration.{Declaration}
use Rattle.replies.specs.Reply.{most_of_label}
use Rattle.session.specs.Stands.{Under, Held, IsLawfulUnder, IsReadWithin, held_parts, under_of}
use Rattle.session.specs.Inside.{HasPlace, IsGrownAt, IsStreamWithin, grown_under}
use Rattle.session.specs.Pieces.{HasPlaceFor, SaysEvents}
use Rattle.session.proofs.Holding.{IsWithinLimits}
use Rattle.replies.proofs.Elements.{some_same}
use Rattle.session_answers.proofs.Entering.{seen_there}

pub in_err : {V E : Type 0} (r : Result V E) (P : Type 0) → P → OnErr r P
in_err (Ok v) P p = tt
in_err (Err e) P p = p

at_place : (accepted : List Accepted) (k : ℕ) (a : Accepted) → slice_get accepted k ≡ Some a → slice_get (map under_of accepted) k ≡ Some (under_of a)
at_place accepted k a at_k = slice_get-map under_of accepted k ∙ ap (option_map under_of) at_k

pub grown_at : (accepted : List Accepted) (k : ℕ) (a new : Accepted) (events : List Seen) (size : ℕ) (stream : Stream) → slice_get accepted k ≡ Some a →
    under_of new ≡ grown_under (under_of a) events size stream → IsGrownAt (map under_of accepted) (map under_of (slice_set accepted k new)) k events size stream
grown_at accepted k a new events size stream at_k is = record {
  at = under_of a;
  was = at_place accepted k a at_k;
  is = map-set under_of accepted k new ∙ ap (λ (u : Under). slice_set (map under_of accepted) k u) is;
}

pub kept_at : (accepted : List Accepted) (k : ℕ) (a new : Accepted) → slice_get accepted k ≡ Some a → under_of new ≡ under_of a → map under_of (slice_set accepted k new) ≡ map under_of accepted
kept_at [] k a new at_k is = absurd cc
kept_at (x ∷ accepted) zero a new at_k is = ap (λ (u : Under). u ∷ map under_of accepted) (is ∙ ap under_of (sym (some_same x a at_k)))
kept_at (x ∷ accepted) (suc k) a new at_k is = ap (λ (more : List Under). under_of x ∷ more) (kept_at accepted k a new at_k is)

under_with : List Seen → ℕ → Stream → Under
under_with events size stream = record { events = events; size = size; stream = stream }

-- the same by the events, the size and the stream
pub grown_by : (accepted : List Accepted) (k : ℕ) (a new : Accepted) (events : List Seen) (size : ℕ) (stream : Stream) → slice_get accepted k ≡ Some a →
    seen_events new.events.items ≡ seen_events a.events.items ++ events → new.size ≡ a.size + size → new.stream ≡ stream →
    IsGrownAt (map under_of accepted) (map under_of (slice_set accepted k new)) k events size stream
unfolding under_with
grown_by accepted k a new events size stream at_k events_are size_is tail_is =
    grown_at accepted k a new events size stream at_k
    (ap (λ (es : List Seen). under_with es new.size new.stream) events_are ∙ ap (λ (n : ℕ). under_with (seen_events a.events.items ++ events) n new.stream) size_is
    ∙ ap (λ (t : Stream). under_with (seen_events a.events.items ++ events) (a.size + size) t) tail_is)

pub kept_by : (accepted : List Accepted) (k : ℕ) (a new : Accepted) → slice_get accepted k ≡ Some a → seen_events new.events.items ≡ seen_events a.events.items → new.size ≡ a.size →
    new.stream ≡ a.stream → map under_of (slice_set accepted k new) ≡ map under_of accepted
unfolding under_with
kept_by accepted k a new at_k events_are size_is tail_is =
    kept_at accepted k a new at_k
    (ap (λ (es : List Seen). under_with es new.size new.stream) events_are ∙ ap (λ (n : ℕ). under_with (seen_events a.events.items) n new.stream) size_is
    ∙ ap (λ (t : Stream). under_with (seen_events a.events.items) a.size t) tail_is)

pub size_fits : (accepted : List Accepted) (k : ℕ) (a : Accepted) (size : ℕ) → slice_get accepted k ≡ Some a → HasPlace (map under_of accepted) k size → a.size + size < 2 ^ 64
size_fits accepted k a size at_k place = let fits : a.size + size ≤ most_of_label = place (under_of a) (at_place accepted k a at_k) in omega (arith, fits)

-- ---- the stream of a label
-- what is held at a place, by what the code holds there
pub under_at : (d : Declaration) (accepted : List Accepted) (kept : List EventId) (answers : Option SolverLists) (held : Held) (k : ℕ) (a : Accepted) → held_parts d accepted kept answers ≡ held → k < length held.under → a ≡ slice_index_or accepted k a →
    slice_get held.under k ≡ Some (under_of a)
under_at d accepted kept answers held k a same inside is =
    let P : Held → Type 0 = λ h. k < length h.under in
    let i : k < length (map under_of accepted) = subst P (sym same) inside in
    let e = length-map accepted under_of in
    let within : k < length accepted = omega (arith, i, e) in
    let had : slice_get accepted k ≡ Some a = slice_get-get_or accepted k a within ∙ ap Some (sym is) in
    subst (λ (h : Held). slice_get h.under k ≡ Some (under_of a)) same (at_place accepted k a had)

fits_at : (under : List Under) (k : ℕ) (u : Under) → All IsLawfulUnder under → slice_get under k ≡ Some u → IsLawfulUnder u
fits_at [] k u all at_k = absurd cc
fits_at (v ∷ under) zero u all at_k = subst IsLawfulUnder (some_same v u at_k) (All-head IsLawfulUnder v under all)
fits_at (v ∷ under) (suc k) u all at_k = fits_at under k u (All-tail IsLawfulUnder v under all) at_k

-- a place by its label is a place by what the session holds
pub inside_under : (held : Held) (k : ℕ) → IsWithinLimits held → k < length held.declaration.labels → k < length held.under
inside_under held k is inside = let each = is.each in omega (arith, inside, each)

-- a piece that has its place can be fed
place_fits : (stream : Stream) (size n : ℕ) → IsReadWithin stream size → size + n ≤ most_of_label → HasPlaceFor stream n
place_fits streams.Log size n within place = tt
place_fits (streams.Capture tail) size n within place =
    let read : taken tail ≤ size = within in
    let fits : taken tail + n ≤ most_of_label = omega (arith, read, place) in
    fits

pub stream_fits : (held : Held) (k n : ℕ) (u : Under) → IsWithinLimits held → slice_get held.under k ≡ Some u → HasPlace held.under k n → HasPlaceFor u.stream n
stream_fits held k n u is at_k place = place_fits u.stream u.size n (fits_at held.under k u is.fit at_k).1 (place u at_k)

-- and what is then kept is of no more than the label then has
says_within : (d : Declaration) (label : Label) (old next : Stream) (piece : List ℕ) (events : List Seen) (size : ℕ) → IsReadWithin old size → SaysEvents d label old piece events next →
    IsReadWithin next (size + length piece)
says_within d label streams.Log next piece events size within says = subst (λ (x : Stream). IsReadWithin x (size + length piece)) (sym says.kept) tt
says_within d label (streams.Capture tail) next piece events size within says =
    let came : taken says.fed ≡ taken tail + length piece = says.size in
    let read : taken tail ≤ size = within in
    let fits : taken says.fed ≤ size + length piece = omega (arith, read, came) in
    subst (λ (x : Stream). IsReadWithin x (size + length piece)) (sym says.kept) fits

pub stream_within : (held : Held) (d : Declaration) (label : Label) (k : ℕ) (u : Under) (next : Stream) (piece : List ℕ) (events : List Seen) → IsWithinLimits held → slice_get held.under k ≡ Some u →
    SaysEvents d label u.stream piece events next → IsStreamWithin held.under k (length piece) next
stream_within held d label k u next piece events is at_k says v at_v =
    subst (λ (x : Under). IsReadWithin next (x.size + length piece)) (some_same u v (sym at_k ∙ at_v))
    (says_within d label u.stream next piece events u.size (fits_at held.under k u is.fit at_k).1 says)

-- a label has no more events than all have
pub label_few : (accepted : List Accepted) (k more most : ℕ) (a : Accepted) → slice_get accepted k ≡ Some a → event_count (seen_in accepted) + more ≤ most → length a.events.items + more ≤ most
label_few accepted k more most a at_k few =
    let there = seen_there accepted k a at_k in
    let inside : k < length (seen_in accepted) = slice_get_within (seen_in accepted) k (seen_events a.events.items) there in
    let is : slice_index_or (seen_in accepted) k [] ≡ seen_events a.events.items = get_or_from_slice_get (seen_in accepted) k (seen_events a.events.items) [] there in
    let part : length (slice_index_or (seen_in accepted) k []) ≤ event_count (seen_in accepted) = get_or-le-sum_by length (seen_in accepted) k [] inside in
    let same : length (slice_index_or (seen_in accepted) k []) ≡ length (seen_events a.events.items) = ap length is in
    let number : length (seen_events a.events.items) ≡ length a.events.items = length-map a.events.items seen_event in
    omega (arith, part, same, number, few)
