-- What a session holds, and the events of it.
use Rattle.std.proofs.Common.{◌≡◌, ℕ, ◌+◌, ◌<◌, ◌≤◌, List, [], ◌∷◌, ◌++◌, length, map, slice_get, slice_set, Option, Some, Bool, true, nat_le, option_map, refl, sym, ◌∙◌, ap, subst, arith, length-set}
use Rattle.std.specs.List.{slice_index_or}
use Rattle.std.proofs.lemmas.List.{length-map}
use Rattle.std.proofs.lemmas.List.Elements.{All-set}
use Rattle.std.proofs.lemmas.Option.{slice_get-map, slice_get_within, get_or_from_slice_get}
use Rattle.std.proofs.Math.Seq.{map-set}
use Rattle.std.specs.Prelude.{All, IfSome}
use Rattle.problem_model.specs.Limits.{most_events}
use Rattle.decl.specs.Declaration.{Declaration, IsDeclaration}
use Rattle.traces.specs.Seen.{Seen, seen_events}
use Rattle.traces.specs.declared.accepted.Accepted.{Accepted}
use Rattle.traces.specs.declared.event_id.EventId.{EventId}
use Rattle.solver.specs.Solver.{SolverLists}
use Rattle.traces.specs.declared.accepted.Stream.{Stream}
use Rattle.traces.specs.Traces.{event_count}
use Rattle.traces.specs.Held.{seen_in}
use Rattle.traces.proofs.Ids.{count_appended}
use Rattle.replies.proofs.Elements.{le_true}
use Rattle.session.specs.Stands.{Under, Held, IsLawfulUnder, IsHeldInSession, IsKeptUp, held_parts, under_of, seen_held}
use Rattle.session.specs.Inside.{HasPlace, IsStreamWithin, IsGrownAt, grown_under}

-- ---- limits
-- what a session holds is within its limits, whatever stands ready
pub record IsWithinLimits (h : Held) : Type 0 where
  pub declared : IsDeclaration h.declaration
  pub each : length h.under ≡ length h.declaration.labels
  pub fit : All IsLawfulUnder h.under
  pub few : event_count (seen_held h.under) ≤ most_events

pub limits : {h : Held} → IsHeldInSession h → IsWithinLimits h
limits is = record { declared = is.declared; each = is.each; fit = is.fit; few = is.few }

pub held_by : {h : Held} → IsWithinLimits h → IfSome h.answers (IsKeptUp h) → IsHeldInSession h
held_by is kept_up = record { declared = is.declared; each = is.each; fit = is.fit; few = is.few; kept_up = kept_up }

-- ---- what the code holds
-- the events of what the code holds
pub seen_accepted : (accepted : List Accepted) → seen_held (map under_of accepted) ≡ seen_in accepted
seen_accepted [] = refl
seen_accepted (a ∷ accepted) = ap (λ (more : List (List Seen)). seen_events a.events.items ∷ more) (seen_accepted accepted)

pub accepted_few : (d : Declaration) (accepted : List Accepted) (kept : List EventId) (answers : Option SolverLists) → IsWithinLimits (held_parts d accepted kept answers) → event_count (seen_in accepted) ≤ most_events
accepted_few d accepted kept answers held = subst (λ (seen : List (List Seen)). event_count seen ≤ most_events) (seen_accepted accepted) held.few

pub accepted_each : (d : Declaration) (accepted : List Accepted) (kept : List EventId) (answers : Option SolverLists) → IsWithinLimits (held_parts d accepted kept answers) → length accepted ≡ length d.labels
accepted_each d accepted kept answers held = sym (length-map accepted under_of) ∙ held.each

-- whether there is room for more events, by what the code holds
pub room_by : (accepted : List Accepted) (n : ℕ) (r b : Bool) → r ≡ nat_le (event_count (seen_in accepted) + n) (most_events) → r ≡ b →
    nat_le (event_count (seen_held (map under_of accepted)) + n) (most_events) ≡ b
room_by accepted n r b is e = ap (λ (seen : List (List Seen)). nat_le (event_count seen + n) (most_events)) (seen_accepted accepted) ∙ sym is ∙ e

pub room_few : (under : List Under) (n : ℕ) → nat_le (event_count (seen_held under) + n) (most_events) ≡ true → event_count (seen_held under) + n ≤ most_events
room_few under n e = le_true (event_count (seen_held under) + n) (most_events) e

-- ---- more is held under one label
-- events that come under one label are so many more
pub count_grown : (under : List Under) (k : ℕ) (at : Under) (events : List Seen) (size : ℕ) (stream : Stream) → slice_get under k ≡ Some at →
    event_count (seen_held (slice_set under k (grown_under at events size stream))) ≡ event_count (seen_held under) + length events
count_grown under k at events size stream was =
    let f = λ (u : Under). u.events in
    let there : slice_get (seen_held under) k ≡ Some at.events = slice_get-map f under k ∙ ap (option_map f) was in
    let within : k < length (seen_held under) = slice_get_within (seen_held under) k at.events there in
    let first : slice_index_or (seen_held under) k [] ≡ at.events = get_or_from_slice_get (seen_held under) k at.events [] there in
    ap event_count (map-set f under k (grown_under at events size stream) ∙ ap (λ (x : List Seen). slice_set (seen_held under) k (x ++ events)) (sym first)) ∙ count_appended (seen_held under) k events within

-- what is held is then within its limits
pub held_grown : (held held' : Held) (k : ℕ) (events : List Seen) (size : ℕ) (stream : Stream) → IsWithinLimits held → HasPlace held.under k size → IsStreamWithin held.under k size stream →
    event_count (seen_held held.under) + length events ≤ most_events → held'.declaration ≡ held.declaration → IsGrownAt held.under held'.under k events size stream → IsWithinLimits held'
held_grown held held' k events size stream is place within few same g =
    let new = grown_under g.at events size stream in
    let labels : length held'.declaration.labels ≡ length held.declaration.labels = ap (λ (d : Declaration). length d.labels) same in
    let fits : IsLawfulUnder new = (place g.at g.was, within g.at g.was) in
    record {
      declared = rw same is.declared;
      each = ap length g.is ∙ length-set held.under k new ∙ is.each ∙ sym labels;
      fit = rw g.is (All-set IsLawfulUnder held.under k new fits is.fit);
      few = let e = ap (λ (u : List Under). event_count (seen_held u)) g.is in let f = count_grown held.under k g.at events size stream g.was in omega (arith, e, f, few);
    }

-- and it is where all stays
pub held_same : (held held' : Held) → IsWithinLimits held → held'.declaration ≡ held.declaration → held'.under ≡ held.under → IsWithinLimits held'
held_same held held' is same under = record {
  declared = rw same is.declared;
  each = rw (under, same) is.each;
  fit = rw under is.fit;
  few = rw under is.few;
}
