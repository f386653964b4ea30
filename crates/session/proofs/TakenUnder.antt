-- What is held under the label of an addition, by what the code holds there.
use Rattle.std.proofs.Common.{◌≡◌, ℕ, ◌+◌, ◌<◌, ◌≤◌, List, length, map, slice_get, Option, Some, sym, ◌∙◌, ap, subst, arith}
use Rattle.std.specs.List.{slice_index_or}
use Rattle.std.proofs.lemmas.List.{length-map}
use Rattle.std.proofs.lemmas.Option.{slice_get-get_or}
use Rattle.problem_model.specs.Limits.{most_events}
use Rattle.decl.specs.Declaration.{Declaration}
use Rattle.traces.specs.Seen.{Seen, seen_event, seen_events}
use Rattle.traces.specs.declared.accepted.Accepted.{Accepted}
use Rattle.traces.specs.declared.event_id.EventId.{EventId}
use Rattle.traces.specs.Traces.{event_count}
use Rattle.traces.specs.Held.{seen_in}
use Rattle.solver.specs.Solver.{SolverLists}
use Rattle.session.specs.Stands.{Held, held_parts, seen_held, under_of}
use Rattle.session.proofs.Extending.{label_few, under_at, inside_under}
use Rattle.session.proofs.Holding.{IsWithinLimits, seen_accepted}

module _ (d : Declaration) (accepted : List Accepted) (kept : List EventId) (answers : Option SolverLists) (held : Held) (k : ℕ) (a : Accepted) (same : held_parts d accepted kept answers ≡ held)
    (limits : IsWithinLimits (held_parts d accepted kept answers)) (inside : k < length held.declaration.labels) (is : a ≡ slice_index_or accepted k a) where
  within : k < length accepted
  within =
      let here = inside_under held k (subst IsWithinLimits same limits) inside in
      let mine : k < length (map under_of accepted) = subst (λ (h : Held). k < length h.under) (sym same) here in
      let e = length-map accepted under_of in
      omega (arith, mine, e)

  there : slice_get accepted k ≡ Some a
  there = slice_get-get_or accepted k a within ∙ ap Some (sym is)

  pub at_held : slice_get held.under k ≡ Some (under_of a)
  at_held = under_at d accepted kept answers held k a same (inside_under held k (subst IsWithinLimits same limits) inside) is

  -- so many more leave the label few events
  pub few_with : (more : ℕ) → event_count (seen_held held.under) + more ≤ most_events → length a.events.items + more ≤ most_events
  few_with more few =
      let seen : seen_held held.under ≡ seen_in accepted = ap (λ (h : Held). seen_held h.under) (sym same) ∙ seen_accepted accepted in
      label_few accepted k more (most_events) a there (subst (λ (x : List (List Seen)). event_count x + more ≤ most_events) seen few)

  pub few_held : length a.events.items ≤ most_events
  few_held =
      let all : event_count (seen_held held.under) ≤ most_events = (subst IsWithinLimits same limits).few in
      let none : event_count (seen_held held.under) + 0 ≤ most_events = omega (arith, all) in
      let few = few_with 0 none in
      omega (arith, few)

  pub count_held : length (seen_events a.events.items) ≡ length a.events.items
  count_held = length-map a.events.items seen_event
