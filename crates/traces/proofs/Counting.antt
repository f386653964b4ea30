-- The events of one label among those of all.
use Rattle.std.proofs.Common.{◌≡◌, ◌<◌, ◌≤◌, ℕ, List, length, get_or, sym, ap, ◌∙◌, subst}
use Rattle.std.proofs.lemmas.List.{get_or-map, length-map}
use Rattle.std.proofs.lemmas.List.Sums.{get_or-le-sum_by}
use Rattle.traces.specs.Seen.{Seen, seen_event, seen_events}
use Rattle.traces.specs.declared.accepted.Accepted.{Accepted}
use Rattle.traces.specs.Traces.{event_count}
use Rattle.traces.specs.Held.{seen_in}

-- the events of one label
abbrev seen_here : Accepted → List Seen
seen_here a = seen_events a.events.items

pub events_few : (accepted : List Accepted) (i : ℕ) (a : Accepted) → i < length accepted → a ≡ get_or accepted i a → length a.events.items ≤ event_count (seen_in accepted)
events_few accepted i a inside is =
    let at : get_or (seen_in accepted) i (seen_here a) ≡ seen_here a = get_or-map seen_here accepted i a (seen_here a) inside ∙ ap seen_here (sym is) in
    let place : i < length (seen_in accepted) = subst (λ (n : ℕ). i < n) (sym (length-map accepted seen_here)) inside in
    let few : length (seen_here a) ≤ event_count (seen_in accepted) = subst (λ (s : List Seen). length s ≤ event_count (seen_in accepted)) at (get_or-le-sum_by length (seen_in accepted) i (seen_here a) place) in
    subst (λ (n : ℕ). n ≤ event_count (seen_in accepted)) (length-map a.events.items seen_event) few
