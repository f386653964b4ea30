-- Clocks that get a reading by events of one label.
use Rattle.std.proofs.Common.{◌≡◌, ◌⊎◌, inl, inr, ℕ, zero, suc, ◌+◌, List, [], ◌∷◌, map, slice_get, slice_set, sym, ◌∙◌, ap, subst, arith}
use Rattle.std.specs.Prelude.{Contains}
use Rattle.std.proofs.lemmas.List.Elements.{Contains-append_left, Contains-append_right, Contains-append_cases}
use Rattle.problem_model.specs.declared.items.Event.{Event}
use Rattle.decl.specs.Declaration.{Declaration}
use Rattle.traces.specs.Seen.{Seen}
use Rattle.traces.proofs.Lists.{place_in}
use Rattle.traces.specs.Traces.{Placed, events_from, events_of, numbered, clock_by}
use Rattle.traces.specs.Messages.{event_with, problem_of_seen}
use Rattle.traces.proofs.Members.{head_or_tail, none_in}
use Rattle.roster.proofs.Telling.{among}
use Rattle.roster.proofs.Turns.{into_map}
use Rattle.queries.specs.Replies.{HasReading}
use Rattle.session_answers.specs.Keeping.{clock_at}
use Rattle.session_answers.proofs.RosterEvents.{mapped_at}

-- events are of the label that they are numbered under
numbered_label : (label n : ℕ) (events : List Seen) (e : Placed) → Contains (numbered label n events) e → e.id.label ≡ label
numbered_label label n [] e has = absurd (none_in e has)
numbered_label label n (s ∷ events) e has = by (head_or_tail (record { id = record { label = label; number = n }; seen = s }) e (numbered label (n + 1) events) has) (numbered_label label (n + 1) events e)
  where
    by : (record { id = record { label = label; number = n }; seen = s } ≡ e) ⊎ Contains (numbered label (n + 1) events) e → (Contains (numbered label (n + 1) events) e → e.id.label ≡ label) → e.id.label ≡ label
    by (inl same) rest = sym (ap (λ (x : Placed). x.id.label) same)
    by (inr more) rest = rest more

-- an event was there before, or is of the label that has others now
set_from : (j : ℕ) (seen : List (List Seen)) (k : ℕ) (own : List Seen) (e : Placed) → Contains (events_from j (slice_set seen k own)) e → Contains (events_from j seen) e ⊎ (e.id.label ≡ j + k)
set_from j [] k own e has = inl has
set_from j (s ∷ seen) zero own e has = by (Contains-append_cases (numbered j 1 own) (events_from (j + 1) seen) e has)
  where
    by : Contains (numbered j 1 own) e ⊎ Contains (events_from (j + 1) seen) e → Contains (events_from j (s ∷ seen)) e ⊎ (e.id.label ≡ j + zero)
    by (inl here) = let n : j ≡ j + zero = omega arith in inr (numbered_label j 1 own e here ∙ n)
    by (inr more) = inl (Contains-append_right (numbered j 1 s) (events_from (j + 1) seen) e more)
set_from j (s ∷ seen) (suc k) own e has = by (Contains-append_cases (numbered j 1 s) (events_from (j + 1) (slice_set seen k own)) e has) (set_from (j + 1) seen k own e)
  where
    next : Contains (events_from (j + 1) seen) e ⊎ (e.id.label ≡ j + 1 + k) → Contains (events_from j (s ∷ seen)) e ⊎ (e.id.label ≡ j + suc k)
    next (inl more) = inl (Contains-append_right (numbered j 1 s) (events_from (j + 1) seen) e more)
    next (inr label) = let n : j + 1 + k ≡ j + suc k = omega arith in inr (label ∙ n)

    by : Contains (numbered j 1 s) e ⊎ Contains (events_from (j + 1) (slice_set seen k own)) e → (Contains (events_from (j + 1) (slice_set seen k own)) e → Contains (events_from (j + 1) seen) e ⊎ (e.id.label ≡ j + 1 + k)) →
        Contains (events_from j (s ∷ seen)) e ⊎ (e.id.label ≡ j + suc k)
    by (inl here) rest = inl (Contains-append_left (numbered j 1 s) (events_from (j + 1) seen) e here)
    by (inr more) rest = next (rest more)

-- so a clock that has a reading had one before, or is that of the label
pub reading_before : (d : Declaration) (seen : List (List Seen)) (k : ℕ) (own : List Seen) (clock : ℕ) → HasReading (problem_of_seen d (slice_set seen k own)) clock →
    HasReading (problem_of_seen d seen) clock ⊎ (clock_at d k ≡ clock)
reading_before d seen k own clock (stamp, (e, has, on, at)) =
    let now = events_of (slice_set seen k own) in
    let i = place_in (map (event_with d) now) e has in
    let x = mapped_at (event_with d) now i.0 e i.1 in
    by x.0 x.2 (set_from 0 seen k own x.0 (among now i.0 x.0 x.1))
  where
    by : (placed : Placed) → event_with d placed ≡ e → Contains (events_of seen) placed ⊎ (placed.id.label ≡ 0 + k) → HasReading (problem_of_seen d seen) clock ⊎ (clock_at d k ≡ clock)
    by placed is (inl there) = inl (stamp, (e, subst (λ (y : Event). Contains (map (event_with d) (events_of seen)) y) is (into_map (event_with d) (events_of seen) placed there), on, at))
    by placed is (inr label) =
        let same : placed.id.label ≡ k = label ∙ omega arith in
        inr (ap (λ (n : ℕ). clock_by (slice_get d.labels n)) (sym same) ∙ ap (λ (y : Event). y.clock) is ∙ on)
