-- Events by their places among those of all labels.
use Rattle.std.proofs.Common.{◌≡◌, ℕ, zero, suc, ◌+◌, ◌-◌, ◌<◌, ◌≤◌, List, [], ◌∷◌, ◌++◌, length, map, drop, slice_get, slice_set, Some, All, refl, sym, ◌∙◌, ap, subst, arith, length-append, length-set}
use Rattle.std.specs.List.{slice_index_or}
use Rattle.std.proofs.lemmas.List.{map-append}
use Rattle.std.proofs.lemmas.List.Sums.{sum_by-cons}
use Rattle.std.proofs.lemmas.List.Elements.{All-head, All-tail}
use Rattle.traces.specs.Seen.{Seen}
use Rattle.traces.specs.declared.event_id.EventId.{EventId}
use Rattle.traces.specs.Traces.{Placed, numbered, events_from, events_of, event_count}
use Rattle.traces.proofs.Ids.{ids_within}
use Rattle.roster.specs.Groups.{IsPlaceOf}
use Rattle.replies.specs.Reply.{IsPlacedAt}
use Rattle.replies.proofs.Elements.{some_same}

-- the names of these events
abbrev ids : List Placed → List EventId
ids events = map (λ (e : Placed). e.id) events

abbrev id_of : ℕ → ℕ → EventId
id_of label number = record { label = label; number = number }

at_front : {A : Type 0} (xs ys : List A) (k : ℕ) → k < length xs → slice_get (xs ++ ys) k ≡ slice_get xs k
at_front [] ys k inside = absurd (omega (arith, inside))
at_front (x ∷ xs) ys zero inside = refl
at_front (x ∷ xs) ys (suc k) inside = at_front xs ys k (omega (arith, inside))

at_back : {A : Type 0} (xs ys : List A) (k j : ℕ) → j ≡ length xs + k → slice_get (xs ++ ys) j ≡ slice_get ys k
at_back [] ys k j is = ap (λ (n : ℕ). slice_get ys n) (omega (arith, is))
at_back (x ∷ xs) ys k zero is = absurd (omega (arith, is))
at_back (x ∷ xs) ys k (suc j) is = at_back xs ys k j (omega (arith, is))

numbered_long : (label n : ℕ) (seen : List Seen) → length (ids (numbered label n seen)) ≡ length seen
numbered_long label n [] = refl
numbered_long label n (s ∷ more) = ap suc (numbered_long label (n + 1) more)

numbered_at : (label n : ℕ) (seen : List Seen) (m : ℕ) → m < length seen → slice_get (ids (numbered label n seen)) m ≡ Some (id_of label (n + m))
numbered_at label n [] m inside = absurd (omega (arith, inside))
numbered_at label n (s ∷ more) zero inside = let same : n ≡ n + 0 = omega arith in ap (λ (k : ℕ). Some (id_of label k)) same
numbered_at label n (s ∷ more) (suc m) inside =
    let same : n + 1 + m ≡ n + suc m = omega arith in
    numbered_at label (n + 1) more m (omega (arith, inside)) ∙ ap (λ (k : ℕ). Some (id_of label k)) same

-- ---- from a name to its place
-- behind the events of the labels before it, an event has the place of its number
placed_from : (j : ℕ) (seen : List (List Seen)) (i m place : ℕ) → i < length seen → m < length (slice_index_or seen i []) → event_count (drop i seen) + place ≡ event_count seen + m →
    slice_get (ids (events_from j seen)) place ≡ Some (id_of (j + i) (m + 1))
placed_from j [] i m place inside few is = absurd (omega (arith, inside))
placed_from j (s ∷ more) zero m place inside few is =
    let same : place ≡ m = omega (arith, is) in
    let number : 1 + m ≡ m + 1 = omega arith in
    let label : j ≡ j + 0 = omega arith in
    let long : m < length (ids (numbered j 1 s)) = (let e = numbered_long j 1 s in omega (arith, few, e)) in
    ap (λ (k : ℕ). slice_get (ids (events_from j (s ∷ more))) k) same
    ∙ ap (λ (xs : List EventId). slice_get xs m) (map-append (λ (e : Placed). e.id) (numbered j 1 s) (events_from (j + 1) more))
    ∙ at_front (ids (numbered j 1 s)) (ids (events_from (j + 1) more)) m long ∙ numbered_at j 1 s m few
    ∙ ap (λ (k : ℕ). Some (id_of j k)) number ∙ ap (λ (k : ℕ). Some (id_of k (m + 1))) label
placed_from j (s ∷ more) (suc i) m place inside few is =
    let count = sum_by-cons length s more in
    let rest : place ≡ length s + (place - length s) = omega (arith, is, count, smaller more i) in
    let back : place ≡ length (ids (numbered j 1 s)) + (place - length s) = (let e = numbered_long j 1 s in omega (arith, rest, e)) in
    let label : j + 1 + i ≡ j + suc i = omega arith in
    ap (λ (xs : List EventId). slice_get xs place) (map-append (λ (e : Placed). e.id) (numbered j 1 s) (events_from (j + 1) more))
    ∙ at_back (ids (numbered j 1 s)) (ids (events_from (j + 1) more)) (place - length s) place back
    ∙ placed_from (j + 1) more i m (place - length s) (omega (arith, inside)) few (omega (arith, is, count, rest)) ∙ ap (λ (k : ℕ). Some (id_of k (m + 1))) label
  where
    smaller : (xs : List (List Seen)) (k : ℕ) → event_count (drop k xs) ≤ event_count xs
    smaller xs zero = omega arith
    smaller [] (suc k) = omega arith
    smaller (x ∷ xs) (suc k) = omega (arith, smaller xs k, sum_by-cons length x xs)

-- at the place of an event of a group stands its name
pub ids_at : (j : ℕ) (seen : List (List Seen)) (place h k : ℕ) → IsPlaceOf (map (λ (s : List Seen). length s) seen) place h k → slice_get (ids (events_from j seen)) place ≡ Some (id_of (j + h) (k + 1))
ids_at j [] place h k at = absurd at
ids_at j (s ∷ more) place zero k at =
    let same : place ≡ k = sym at.0 in
    let few : k < length s = at.1 in
    let number : 1 + k ≡ k + 1 = omega arith in
    let label : j ≡ j + 0 = omega arith in
    let long : k < length (ids (numbered j 1 s)) = (let e = numbered_long j 1 s in omega (arith, few, e)) in
    ap (λ (n : ℕ). slice_get (ids (events_from j (s ∷ more))) n) same
    ∙ ap (λ (xs : List EventId). slice_get xs k) (map-append (λ (e : Placed). e.id) (numbered j 1 s) (events_from (j + 1) more))
    ∙ at_front (ids (numbered j 1 s)) (ids (events_from (j + 1) more)) k long ∙ numbered_at j 1 s k few
    ∙ ap (λ (n : ℕ). Some (id_of j n)) number ∙ ap (λ (n : ℕ). Some (id_of n (k + 1))) label
ids_at j (s ∷ more) place (suc h) k at =
    let past : length s ≤ place = at.0 in
    let back : place ≡ length (ids (numbered j 1 s)) + (place - length s) = (let e = numbered_long j 1 s in omega (arith, past, e)) in
    let label : j + 1 + h ≡ j + suc h = omega arith in
    ap (λ (xs : List EventId). slice_get xs place) (map-append (λ (e : Placed). e.id) (numbered j 1 s) (events_from (j + 1) more))
    ∙ at_back (ids (numbered j 1 s)) (ids (events_from (j + 1) more)) (place - length s) place back
    ∙ ids_at (j + 1) more (place - length s) h k at.1 ∙ ap (λ (n : ℕ). Some (id_of n (k + 1))) label

pub placed_by : (seen : List (List Seen)) (i m place : ℕ) → i < length seen → m < length (slice_index_or seen i []) → event_count (drop i seen) + place ≡ event_count seen + m →
    IsPlacedAt seen place (record { label = i; number = m + 1 })
placed_by seen i m place inside few is =
    let label : 0 + i ≡ i = omega arith in
    placed_from 0 seen i m place inside few is ∙ ap (λ (k : ℕ). Some (id_of k (m + 1))) label

-- ---- from a place to its name
-- an event that has a place has a label that is there, and a number that is one of the label's
pub record IsWithin (seen : List (List Seen)) (event : EventId) : Type 0 where
  pub label : event.label < length seen
  pub first : 1 ≤ event.number
  pub last : event.number ≤ length (slice_index_or seen event.label [])

abbrev HasLabel : List (List Seen) → Placed → Type 0
HasLabel seen e = (e.id.label < length seen) × (1 ≤ e.id.number) × (e.id.number ≤ length (slice_index_or seen e.id.label []))

within_at : (seen : List (List Seen)) (events : List Placed) (place : ℕ) (event : EventId) → All (HasLabel seen) events → slice_get (ids events) place ≡ Some event → IsWithin seen event
within_at seen [] place event all here = absurd cc
within_at seen (e ∷ events) zero event all here =
    let h = All-head (HasLabel seen) e events all in
    subst (IsWithin seen) (some_same e.id event here) (record { label = h.0; first = h.1; last = h.2 })
within_at seen (e ∷ events) (suc place) event all here = within_at seen events place event (All-tail (HasLabel seen) e events all) here

pub within : (seen : List (List Seen)) (place : ℕ) (event : EventId) → IsPlacedAt seen place event → IsWithin seen event
within seen place event here = within_at seen (events_of seen) place event (ids_within seen) here

-- ---- more events under one label
-- what is kept of these events
pub more_within : (seen : List (List Seen)) (k : ℕ) (old more : List Seen) (event : EventId) → slice_get seen k ≡ Some old → IsWithin seen event → IsWithin (slice_set seen k (old ++ more)) event
more_within seen k old more event here is = record {
  label = let e = length-set seen k (old ++ more) in let l = is.label in omega (arith, e, l);
  first = is.first;
  last = longer seen k event.label old more here is.last;
}
  where
    longer : (xs : List (List Seen)) (j i : ℕ) (a b : List Seen) {n : ℕ} → slice_get xs j ≡ Some a → n ≤ length (slice_index_or xs i []) → n ≤ length (slice_index_or (slice_set xs j (a ++ b)) i [])
    longer [] j i a b at few = few
    longer (x ∷ xs) zero zero a b {n = n} at few =
        let same : x ≡ a = some_same x a at in
        let long : length x ≡ length a = ap length same in
        let e = length-append a b in
        omega (arith, few, long, e)
    longer (x ∷ xs) zero (suc i) a b at few = few
    longer (x ∷ xs) (suc j) zero a b at few = few
    longer (x ∷ xs) (suc j) (suc i) a b at few = longer xs j i a b at few

-- an event that is within has a place
pub placed : (seen : List (List Seen)) (event : EventId) → IsWithin seen event → (place : ℕ) × IsPlacedAt seen place event
placed seen event is =
    let fewer = dropped seen event.label in
    let m : ℕ = event.number - 1 in
    let place : ℕ = event_count seen - event_count (drop event.label seen) + m in
    let first = is.first in
    let last = is.last in
    let number : m + 1 ≡ event.number = omega (arith, first) in (
      place,
      subst (λ (e : EventId). IsPlacedAt seen place e) (ap (λ (n : ℕ). id_of event.label n) number)
          (placed_by seen event.label m place is.label (omega (arith, first, last)) (omega (arith, fewer))),
    )
  where
    dropped : (xs : List (List Seen)) (k : ℕ) → event_count (drop k xs) ≤ event_count xs
    dropped xs zero = omega arith
    dropped [] (suc k) = omega arith
    dropped (x ∷ xs) (suc k) = omega (arith, dropped xs k, sum_by-cons length x xs)
