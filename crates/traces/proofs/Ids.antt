-- The names of events, and how many there are.
use Rattle.std.proofs.Common.{◌≡◌, ◌≢◌, ◌<◌, ◌≤◌, ◌+◌, ◌-◌, ◌++◌, ℕ, suc, List, [], ◌∷◌, length, inl, inr, refl, sym, ap, subst, arith, length-append}
use Rattle.std.specs.Prelude.{All, AllPairs, slice_set, slice_index_or}
use Rattle.std.proofs.lemmas.List.Elements.{All-append, All-cons, All-nil, All-weaker}
use Rattle.std.proofs.lemmas.List.Kept.{AllPairs-cons}
use Rattle.std.proofs.lemmas.List.Sums.{sum_by-cons, sum_by-set}
use Rattle.traces.specs.declared.event_id.EventId.{EventId}
use Rattle.traces.specs.Seen.{Seen}
use Rattle.traces.specs.Traces.{Placed, numbered, events_from, events_of, event_count}
use Rattle.traces.specs.Pairs.{ComesBefore}
use Rattle.traces.proofs.Members.{no_pairs, pairs_joined}

-- ---- how many
length_numbered : (label n : ℕ) (seen : List Seen) → length (numbered label n seen) ≡ length seen
length_numbered label n [] = refl
length_numbered label n (s ∷ more) = omega (arith, length_numbered label (n + 1) more)

pub length_from : (label : ℕ) (seen : List (List Seen)) → length (events_from label seen) ≡ event_count seen
length_from label [] = refl
length_from label (s ∷ more) =
    omega (arith, length-append (numbered label 1 s) (events_from (label + 1) more), length_numbered label 1 s, length_from (label + 1) more, sum_by-cons length s more)

-- there are as many events as were seen
pub length_events : (seen : List (List Seen)) → length (events_of seen) ≡ event_count seen
length_events seen = length_from 0 seen

-- more under one label are as many more
pub count_appended : (seen : List (List Seen)) (k : ℕ) (more : List Seen) → k < length seen → event_count (slice_set seen k (slice_index_or seen k [] ++ more)) ≡ event_count seen + length more
count_appended seen k more inside =
    omega (arith, sum_by-set length seen k (slice_index_or seen k [] ++ more) [] inside, length-append (slice_index_or seen k []) more)

-- ---- labels and numbers
-- the event is of this label, with a number from n on and below another one
abbrev pub IsNumbered : ℕ → ℕ → ℕ → Placed → Type 0
IsNumbered label n past e = (e.id.label ≡ label) × (n ≤ e.id.number) × (e.id.number < past)

are_numbered : (label n : ℕ) (seen : List Seen) → All (IsNumbered label n (n + length seen)) (numbered label n seen)
are_numbered label n [] = All-nil (IsNumbered label n (n + 0))
are_numbered label n (s ∷ more) =
    let P = IsNumbered label n (n + suc (length more)) in
    All-cons P (record { id = record { label = label; number = n }; seen = s }) (numbered label (n + 1) more) (refl, omega arith, omega arith)
    (All-weaker (IsNumbered label (n + 1) (n + 1 + length more)) P (λ e h. (h.0, omega (arith, h.1), omega (arith, h.2))) (numbered label (n + 1) more) (are_numbered label (n + 1) more))

-- the event is of one of the labels from a place on, with a number from 1 to as many as that label has
abbrev pub IsFrom : ℕ → List (List Seen) → Placed → Type 0
IsFrom label seen e = (label ≤ e.id.label) × (e.id.label < label + length seen) × (1 ≤ e.id.number) × (e.id.number ≤ length (slice_index_or seen (e.id.label - label) []))

at_first : (label : ℕ) (s : List Seen) (more : List (List Seen)) (e : Placed) → IsNumbered label 1 (1 + length s) e → IsFrom label (s ∷ more) e
at_first label s more e h =
    let place : e.id.label - label ≡ 0 = omega (arith, h.0) in
    let rows : length (slice_index_or (s ∷ more) (e.id.label - label) []) ≡ length s = ap (λ (k : ℕ). length (slice_index_or (s ∷ more) k [])) place in
    (omega (arith, h.0), omega (arith, h.0), h.1, omega (arith, h.2, rows))

at_later : (label : ℕ) (s : List Seen) (more : List (List Seen)) (e : Placed) → IsFrom (label + 1) more e → IsFrom label (s ∷ more) e
at_later label s more e h =
    let place : e.id.label - label ≡ suc (e.id.label - (label + 1)) = omega (arith, h.0) in
    let rows : length (slice_index_or (s ∷ more) (e.id.label - label) []) ≡ length (slice_index_or more (e.id.label - (label + 1)) []) = ap (λ (k : ℕ). length (slice_index_or (s ∷ more) k [])) place in
    (omega (arith, h.0), omega (arith, h.1), h.2, omega (arith, h.3, rows))

are_from : (label : ℕ) (seen : List (List Seen)) → All (IsFrom label seen) (events_from label seen)
are_from label [] = All-nil (IsFrom label [])
are_from label (s ∷ more) =
    All-append (IsFrom label (s ∷ more)) (numbered label 1 s) (events_from (label + 1) more)
    (All-weaker (IsNumbered label 1 (1 + length s)) (IsFrom label (s ∷ more)) (at_first label s more) (numbered label 1 s) (are_numbered label 1 s))
    (All-weaker (IsFrom (label + 1) more) (IsFrom label (s ∷ more)) (at_later label s more) (events_from (label + 1) more) (are_from (label + 1) more))

-- each event has a label below their number, and a number from 1 to as many as the label has
pub ids_within : (seen : List (List Seen)) → All (λ e. (e.id.label < length seen) × (1 ≤ e.id.number) × (e.id.number ≤ length (slice_index_or seen e.id.label []))) (events_of seen)
ids_within seen =
    All-weaker (IsFrom 0 seen) (λ (e : Placed). (e.id.label < length seen) × (1 ≤ e.id.number) × (e.id.number ≤ length (slice_index_or seen e.id.label [])))
    (λ e h.
    let place : e.id.label - 0 ≡ e.id.label = omega arith in
    (omega (arith, h.1), h.2, subst (λ (k : ℕ). e.id.number ≤ length (slice_index_or seen k [])) place h.3))
    (events_of seen) (are_from 0 seen)

-- ---- order
numbers_rise : (label n : ℕ) (seen : List Seen) → AllPairs (λ (a b : Placed). ComesBefore a.id b.id) (numbered label n seen)
numbers_rise label n [] = no_pairs (λ (a b : Placed). ComesBefore a.id b.id)
numbers_rise label n (s ∷ more) =
    let e : Placed = record { id = record { label = label; number = n }; seen = s } in
    AllPairs-cons (λ (a b : Placed). ComesBefore a.id b.id) e (numbered label (n + 1) more)
    (All-weaker (IsNumbered label (n + 1) (n + 1 + length more)) (λ (b : Placed). ComesBefore e.id b.id) (λ b h. inr (sym h.0, omega (arith, h.1))) (numbered label (n + 1) more) (are_numbered label (n + 1) more))
    (numbers_rise label (n + 1) more)

from_rise : (label : ℕ) (seen : List (List Seen)) → AllPairs (λ (a b : Placed). ComesBefore a.id b.id) (events_from label seen)
from_rise label [] = no_pairs (λ (a b : Placed). ComesBefore a.id b.id)
from_rise label (s ∷ more) =
    pairs_joined (λ (a b : Placed). ComesBefore a.id b.id) (numbered label 1 s) (events_from (label + 1) more) (numbers_rise label 1 s) (from_rise (label + 1) more)
    (All-weaker (IsNumbered label 1 (1 + length s)) (λ (a : Placed). All (λ (b : Placed). ComesBefore a.id b.id) (events_from (label + 1) more))
    (λ a h. All-weaker (IsFrom (label + 1) more) (λ (b : Placed). ComesBefore a.id b.id) (λ b h'. inl (omega (arith, h.0, h'.0))) (events_from (label + 1) more) (are_from (label + 1) more))
    (numbered label 1 s) (are_numbered label 1 s))

-- events stand in the order of their labels and numbers
pub ids_rise : (seen : List (List Seen)) → AllPairs (λ (a b : Placed). ComesBefore a.id b.id) (events_of seen)
ids_rise seen = from_rise 0 seen

-- an event that comes before another is another one
pub before_differs : (a b : EventId) → ComesBefore a b → a ≡ b → ⊥
before_differs a b (inl less) same = let e : a.label ≡ b.label = ap (λ (x : EventId). x.label) same in omega (arith, less, e)
before_differs a b (inr later) same = let e : a.number ≡ b.number = ap (λ (x : EventId). x.number) same in omega (arith, later.1, e)

-- so no two events have one name
pub ids_differ : (seen : List (List Seen)) → AllPairs (λ (a b : Placed). a.id ≢ b.id) (events_of seen)
ids_differ seen i j d below inside same = before_differs _ _ (ids_rise seen i j d below inside) same
