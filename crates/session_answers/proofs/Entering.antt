-- Events that are brought into a graph.
use Rattle.std.proofs.Common.{◌≡◌, ◌⊎◌, inl, inr, ℕ, zero, suc, ◌+◌, ◌<◌, ◌≤◌, ◌^◌, List, [], ◌∷◌, ◌++◌, length, drop, slice_get, slice_set, Option, Some, None, true, map, option_map, refl, sym, ◌∙◌, ap, subst, arith, length-append}
use Rattle.std.specs.List.{slice_index_or}
use Rattle.std.specs.Option.{is_some}
use Rattle.std.proofs.lemmas.List.{length-map}
use Rattle.std.proofs.lemmas.Option.{slice_get-map, slice_get-get_or, slice_get_within, get_or_from_slice_get}
use Rattle.problem_model.specs.Limits.{most_events}
use Rattle.repair.specs.declared.slot.Slot.{Slot}
use Rattle.decl.specs.Declaration.{Declaration}
use Rattle.traces.specs.Seen.{Seen, seen_event, seen_events}
use Rattle.traces.specs.declared.event.Event.{Event}
use Rattle.traces.specs.declared.accepted.Accepted.{Accepted}
use Rattle.traces.specs.declared.event_id.EventId.{EventId}
use Rattle.traces.specs.Traces.{event_count}
use Rattle.traces.specs.Held.{seen_in}
use Rattle.traces.specs.Messages.{problem_of_seen}
use Rattle.traces.proofs.Ids.{count_appended}
use Rattle.msg_match.specs.Ends.{AreEndsBy}
use Rattle.roster.specs.Groups.{group_at, with_more}
use Rattle.roster.specs.Roster.{IsRoster, id_of, listed}
use Rattle.solver.specs.Solver.{SolverLists}
use Rattle.session_graph.specs.Kept.{IsKeptFor, KeepsEvents, KeepsRows, KeepsReadings}
use Rattle.session_answers.specs.declared.answers.Answers.{Answers}
use Rattle.session_answers.specs.Ready.{AreAnswersOf, AreSlotsOf, KeepsSource, answers_problem, declared}
use Rattle.queries.specs.Replies.{HasReading}
use Rattle.session_answers.specs.Keeping.{BringsEvents, AreAnswersBut, KeepsSourceBut, TakesForSource, clock_at}
use Rattle.session_answers.proofs.Engines.{kept_stays, spare_kept, source_so_far, source_spare, source_whole, source_other, source_slotless}
use Rattle.session_answers.proofs.FirstReading.{reading_before}
use Rattle.replies.proofs.Elements.{some_same}
use Rattle.session_answers.proofs.RosterEvents.{came_count, labels_are}
use Rattle.session_answers.proofs.Slotting.{slots_kept}

-- ---- the events that came last
drop_all : {A : Type 0} (xs ys : List A) (n : ℕ) → n ≡ length xs → drop n (xs ++ ys) ≡ ys
drop_all [] ys zero is = refl
drop_all [] ys (suc n) is = absurd (omega (arith, is))
drop_all (x ∷ xs) ys zero is = absurd (omega (arith, is))
drop_all (x ∷ xs) ys (suc n) is = drop_all xs ys n (omega (arith, is))

drop_seen : (n : ℕ) (events : List Event) → seen_events (drop n events) ≡ drop n (seen_events events)
drop_seen zero events = refl
drop_seen (suc n) [] = refl
drop_seen (suc n) (e ∷ events) = drop_seen n events

pub last_seen : (all : List Event) (old events : List Seen) (n more : ℕ) → seen_events all ≡ old ++ events → length events ≡ more → n + more ≡ length all → seen_events (drop n all) ≡ events
last_seen all old events n more are count many =
    let long : length (seen_events all) ≡ length all = length-map all seen_event in
    let parts : length (seen_events all) ≡ length old + length events = ap length are ∙ length-append old events in
    let first : n ≡ length old = omega (arith, long, parts, count, many) in
    drop_seen n all ∙ ap (λ (l : List Seen). drop n l) are ∙ drop_all old events n first

pub seen_there : (accepted : List Accepted) (k : ℕ) (a : Accepted) → slice_get accepted k ≡ Some a → slice_get (seen_in accepted) k ≡ Some (seen_events a.events.items)
seen_there accepted k a at_k = slice_get-map (λ (x : Accepted). seen_events x.events.items) accepted k ∙ ap (option_map (λ (x : Accepted). seen_events x.events.items)) at_k

-- what the code holds at a place
pub accepted_at : (accepted : List Accepted) (k : ℕ) (a : Accepted) → k < length accepted → a ≡ slice_index_or accepted k a → slice_get accepted k ≡ Some a
accepted_at accepted k a inside is = slice_get-get_or accepted k a inside ∙ ap (λ (x : Accepted). Some x) (sym is)

set_there : {A : Type 0} (xs : List A) (k : ℕ) (x : A) → k < length xs → slice_get (slice_set xs k x) k ≡ Some x
set_there [] k x inside = absurd (omega (arith, inside))
set_there (y ∷ xs) zero x inside = refl
set_there (y ∷ xs) (suc k) x inside = set_there xs k x (omega (arith, inside))

module _ (accepted : List Accepted) (before : List (List Seen)) (k more : ℕ) (b : BringsEvents before (seen_in accepted) k more) where
  inside : k < length before
  inside = slice_get_within before k b.own b.was

  -- those under the label are those before and the new ones
  pub brought : (a : Accepted) → slice_get accepted k ≡ Some a → seen_events a.events.items ≡ b.own ++ b.events
  brought a at =
      let now : slice_get (seen_in accepted) k ≡ Some (b.own ++ b.events) = ap (λ (x : List (List Seen)). slice_get x k) b.is ∙ set_there before k (b.own ++ b.events) inside in
      some_same (seen_events a.events.items) (b.own ++ b.events) (sym (seen_there accepted k a at) ∙ now)

  pub enough : (a : Accepted) → slice_get accepted k ≡ Some a → more ≤ length a.events.items
  enough a at =
      let long : length (seen_events a.events.items) ≡ length a.events.items = length-map a.events.items seen_event in
      let parts : length (seen_events a.events.items) ≡ length b.own + length b.events = ap length (brought a at) ∙ length-append b.own b.events in
      let count = b.count in
      omega (arith, long, parts, count)

  pub more_is : (events : List Seen) → events ≡ b.events → with_more before k events ≡ seen_in accepted
  more_is events same =
      let own : group_at before k ≡ b.own = get_or_from_slice_get before k b.own [] b.was in
      ap (λ (x : List Seen). slice_set before k (x ++ events)) own ∙ ap (λ (x : List Seen). slice_set before k (b.own ++ x)) same ∙ sym b.is

  pub count_then : event_count (seen_in accepted) ≡ event_count before + more
  count_then =
      let own : group_at before k ≡ b.own = get_or_from_slice_get before k b.own [] b.was in
      let set : seen_in accepted ≡ slice_set before k (group_at before k ++ b.events) = b.is ∙ ap (λ (x : List Seen). slice_set before k (x ++ b.events)) (sym own) in
      let count : event_count (seen_in accepted) ≡ event_count before + length b.events = ap event_count set ∙ count_appended before k b.events inside in
      let many = b.count in
      omega (arith, count, many)

  pub few_came : (kept : List EventId) (a : Answers) (n : ℕ) → AreAnswersOf before kept a → n ≡ more → event_count (seen_in accepted) ≤ most_events → length a.graph.roster.came + n ≤ most_events
  few_came kept a n are same few =
      let count = count_then in
      let came : length a.graph.roster.came ≡ event_count before = came_count a.graph.roster are.lawful before are.graph.holds in
      let all : event_count before + more ≤ most_events = subst (λ (m : ℕ). m ≤ most_events) count few in
      subst (λ (m : ℕ). m + n ≤ most_events) (sym came) (subst (λ (m : ℕ). event_count before + m ≤ most_events) (sym same) all)

  pub label_inside : (kept : List EventId) (a : Answers) → AreAnswersOf before kept a → k < length (declared a).labels
  label_inside kept a are =
      let each : length before ≡ length (declared a).labels = labels_are a.graph.roster are.lawful before are.graph.holds in
      let below = inside in
      omega (arith, each, below)

  pub label_few : (kept : List EventId) (a : Answers) → AreAnswersOf before kept a → k < 2 ^ 32
  label_few kept a are =
      let below = label_inside kept a are in
      let limit = are.lawful.declared.limits.label_limit in
      omega (arith, below, limit)

-- a clock that has a reading then had one, or is that of the label
pub reads_then : (d : Declaration) (before after : List (List Seen)) (k more : ℕ) → BringsEvents before after k more → (clock : ℕ) → HasReading (problem_of_seen d after) clock →
    HasReading (problem_of_seen d before) clock ⊎ (clock_at d k ≡ clock)
reads_then d before after k more b clock has = reading_before d before k (b.own ++ b.events) clock (subst (λ (x : List (List Seen)). HasReading (problem_of_seen d x) clock) b.is has)

-- ---- the answers then
pub so_far : (label : ℕ) (before : List (List Seen)) (after : List (List Seen)) (kept : List EventId) (a new : Answers) → AreAnswersOf before kept a → IsRoster new.graph.roster → IsKeptFor after new.graph.roster new.graph.solver →
    AreEndsBy (map id_of new.graph.roster.came) new.graph.matcher after → declared new ≡ declared a → KeepsEvents a.graph.roster new.graph.roster → KeepsReadings a.graph.roster new.graph.roster → KeepsRows a.graph.solver new.graph.solver → new.source ≡ a.source →
    ((clock : ℕ) → HasReading (answers_problem a after) clock → HasReading (answers_problem a before) clock ⊎ (clock_at (declared a) label ≡ clock)) → AreAnswersBut label after kept new
so_far label before after kept a new are lawful graph ends same events readings rows stamp reads = record {
  lawful = lawful;
  graph = graph;
  ends = ends;
  slots = subst (λ (xs : List Slot). AreSlotsOf new.graph.roster kept xs) (sym rows.slots) (slots_kept a.graph.roster new.graph.roster kept a.graph.solver.kept.slots events are.slots);
  source_slot = subst (λ (x : Option ℕ). KeepsSourceBut (clock_at (declared new) label) (listed new.graph.roster) (answers_problem new after) (declared new).source x new.graph.solver) (sym stamp)
      (source_so_far a.graph.roster new.graph.roster (answers_problem a before) (answers_problem new after) (clock_at (declared new) label) (declared a).source (declared new).source a.source a.graph.solver
      new.graph.solver readings (ap (λ (d : Declaration). d.source) same) rows.source
      (subst (λ (d : Declaration). (clock : ℕ) → HasReading (problem_of_seen d after) clock → HasReading (answers_problem a before) clock ⊎ (clock_at d label ≡ clock)) (sym same) reads) are.source_slot);
  rows = spare_kept a.graph.solver new.graph.solver rows are.rows;
}

pub some_of : (o : Option ℕ) → is_some o ≡ true → (x : ℕ) × (o ≡ Some x)
some_of (Some x) is = (x, refl)
some_of None is = absurd cc

module _ (label : ℕ) (seen : List (List Seen)) (kept : List EventId) (a : Answers) (are : AreAnswersBut label seen kept a) where
  abbrev Keeps : Option ℕ → Type 0
  Keeps stamp = KeepsSourceBut (clock_at (declared a) label) (listed a.graph.roster) (answers_problem a seen) (declared a).source stamp a.graph.solver

  whole : KeepsSource (listed a.graph.roster) (answers_problem a seen) (declared a).source a.source a.graph.solver → AreAnswersOf seen kept a
  whole source = record { lawful = are.lawful; graph = are.graph; ends = are.ends; slots = are.slots; source_slot = source; rows = are.rows }

  -- nothing is lacking where the source has its stamp
  pub known_source : (stamp : ℕ) → a.source ≡ Some stamp → AreAnswersOf seen kept a
  known_source stamp is = whole (subst (λ (x : Option ℕ). KeepsSource (listed a.graph.roster) (answers_problem a seen) (declared a).source x a.graph.solver) (sym is)
      (source_whole (clock_at (declared a) label) (listed a.graph.roster) (answers_problem a seen) (declared a).source stamp a.graph.solver (subst Keeps is are.source_slot)))

  -- nor where it is another clock than the label's
  pub other_source : a.source ≡ None → ((declared a).source ≡ Some (clock_at (declared a) label) → ⊥) → AreAnswersOf seen kept a
  other_source none other = whole (subst (λ (x : Option ℕ). KeepsSource (listed a.graph.roster) (answers_problem a seen) (declared a).source x a.graph.solver) (sym none)
      (source_other (clock_at (declared a) label) (listed a.graph.roster) (answers_problem a seen) (declared a).source a.graph.solver other (subst Keeps none are.source_slot)))

  pub no_source_slot : a.source ≡ None → a.graph.solver.kept.source ≡ None
  no_source_slot none = source_slotless (clock_at (declared a) label) (listed a.graph.roster) (answers_problem a seen) (declared a).source a.graph.solver (subst Keeps none are.source_slot)

  -- nor where it was looked for
  pub looked_for : (s : SolverLists) (stamp : Option ℕ) → a.source ≡ None → TakesForSource a.graph.solver s → s.kept.slots ≡ a.graph.solver.kept.slots →
      KeepsSource (listed a.graph.roster) (answers_problem a seen) (declared a).source stamp s → AreAnswersOf seen kept (record { graph = record { roster = a.graph.roster; matcher = a.graph.matcher; solver = s }; source = stamp })
  looked_for s stamp none takes slots source = record {
    lawful = are.lawful;
    graph = graph takes;
    ends = are.ends;
    slots = subst (λ (xs : List Slot). AreSlotsOf a.graph.roster kept xs) (sym slots) are.slots;
    source_slot = source;
    rows = source_spare a.graph.solver s (no_source_slot none) are.rows slots takes;
  }
    where
      graph : TakesForSource a.graph.solver s → IsKeptFor seen a.graph.roster s
      graph (inl (slot, is)) = kept_stays seen a.graph.roster a.graph.solver s is.answer is.current are.graph
      graph (inr same) = subst (λ (x : SolverLists). IsKeptFor seen a.graph.roster x) (sym same) are.graph
