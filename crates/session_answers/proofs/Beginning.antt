-- The answers of a problem without events.
use Rattle.std.proofs.Common.{◌≡◌, ℕ, ◌+◌, List, [], ◌∷◌, ◌++◌, map, Option, Some, None, All, length, refl, sym, ◌∙◌, ap, subst, arith}
use Rattle.std.proofs.lemmas.List.Elements.{All-head, All-tail, All-nil, All-cons}
use Rattle.std.specs.Prelude.{Contains}
use Rattle.problem_model.specs.declared.items.Event.{Event}
use Rattle.decl.specs.declared.items.Label.{Label}
use Rattle.decl.specs.Declaration.{Declaration}
use Rattle.traces.specs.Seen.{Seen}
use Rattle.traces.specs.Traces.{Placed, events_from, numbered}
use Rattle.traces.specs.Messages.{event_with, problem_of_seen}
use Rattle.traces.proofs.Members.{none_in}
use Rattle.row_pool.specs.Pool.{grown}
use Rattle.repair.specs.declared.slot.Slot.{Slot}
use Rattle.repair.specs.Slots.{all_slots, behind}
use Rattle.roster.specs.Roster.{IsRoster, id_of, listed}
use Rattle.solver.specs.Solver.{SolverLists}
use Rattle.msg_match.specs.Ends.{AreEndsBy}
use Rattle.session_graph.specs.Kept.{IsKeptFor}
use Rattle.problem.specs.Listing.{Listed}
use Rattle.queries.specs.Replies.{HasReading}
use Rattle.session_answers.specs.declared.answers.Answers.{Answers}
use Rattle.session_answers.specs.Ready.{AreAnswersOf, HasSpareRows, KeepsSource, answers_problem, declared}
use Rattle.session_answers.proofs.KeptNext.{grown_free, grown_long}
use Rattle.session_answers.proofs.Slotting.{no_slots}

-- ---- nothing was added
no_events_from : (label : ℕ) (seen : List (List Seen)) → All (λ (events : List Seen). events ≡ []) seen → events_from label seen ≡ []
no_events_from label [] all = refl
no_events_from label (s ∷ seen) all =
    ap (λ (events : List Seen). numbered label 1 events ++ events_from (label + 1) seen) (All-head (λ (events : List Seen). events ≡ []) s seen all)
    ∙ no_events_from (label + 1) seen (All-tail (λ (events : List Seen). events ≡ []) s seen all)

-- nothing under each label
pub nothing_for : (labels : List Label) → All (λ (events : List Seen). events ≡ []) (map (λ (l : Label). []) labels)
nothing_for [] = All-nil (λ (events : List Seen). events ≡ [])
nothing_for (l ∷ labels) = All-cons (λ (events : List Seen). events ≡ []) [] (map (λ (x : Label). []) labels) refl (nothing_for labels)

-- so many empty lists are one list, however they came
pub all_nothing : (a b : List (List Seen)) → All (λ (events : List Seen). events ≡ []) a → All (λ (events : List Seen). events ≡ []) b → length a ≡ length b → a ≡ b
all_nothing [] [] x y long = refl
all_nothing [] (t ∷ b) x y long = absurd (omega (arith, long))
all_nothing (s ∷ a) [] x y long = absurd (omega (arith, long))
all_nothing (s ∷ a) (t ∷ b) x y long =
    let P = λ (events : List Seen). events ≡ [] in
    ap (λ (e : List Seen). e ∷ a) (All-head P s a x ∙ sym (All-head P t b y)) ∙ ap (λ (l : List (List Seen)). t ∷ l) (all_nothing a b (All-tail P s a x) (All-tail P t b y) (omega (arith, long)))

no_reading : (d : Declaration) (seen : List (List Seen)) (clock : ℕ) → All (λ (events : List Seen). events ≡ []) seen → HasReading (problem_of_seen d seen) clock → ⊥
no_reading d seen clock none (stamp, reading) =
    let bare : (problem_of_seen d seen).events ≡ [] = ap (λ (events : List Placed). map (event_with d) events) (no_events_from 0 seen none) in
    none_in reading.0 (subst (λ (events : List Event). Contains events reading.0) bare reading.1)

no_source : (l : Listed) (d : Declaration) (seen : List (List Seen)) (source : Option ℕ) (s : SolverLists) → All (λ (events : List Seen). events ≡ []) seen → s.kept.source ≡ None → KeepsSource l (problem_of_seen d seen) source None s
no_source l d seen None s nothing none = (refl, none)
no_source l d seen (Some clock) s nothing none = (no_reading d seen clock nothing, none)

-- four rows are enough where nothing is kept
first_rows : (old new : SolverLists) → old.pool.rows ≡ [] → new.kept.slots ≡ [] → new.kept.source ≡ None → new.pool ≡ grown old.pool 4 0 → HasSpareRows new
first_rows old new none slots source pool =
    let free = grown_free old.pool new.pool 4 0 pool in
    let long = grown_long old.pool new.pool 4 0 pool in
    let empty : length old.pool.rows ≡ 0 = ap length none in
    let few : length new.kept.slots ≡ 0 = ap length slots in
    let all : length (all_slots new.kept) ≡ length new.kept.slots = ap (λ (x : Option Slot). length (behind x new.kept.slots)) source in
    (omega (arith, long, empty, few), omega (arith, long, free, empty, all))

-- the solver over no node holds the answer where nothing was added
pub first_stands : (a : Answers) (old : SolverLists) → IsRoster a.graph.roster → IsKeptFor (map (λ (l : Label). []) (declared a).labels) a.graph.roster a.graph.solver →
    AreEndsBy (map id_of a.graph.roster.came) a.graph.matcher (map (λ (l : Label). []) (declared a).labels) → a.graph.solver.kept.slots ≡ [] → a.graph.solver.kept.source ≡ None → old.pool.rows ≡ [] → a.graph.solver.pool ≡ grown old.pool 4 0 → a.source ≡ None →
    AreAnswersOf (map (λ (l : Label). []) (declared a).labels) [] a
first_stands a old lawful kept ends slots source none pool stamp =
    let nothing = nothing_for (declared a).labels in
    record {
      lawful = lawful;
      graph = kept;
      ends = ends;
      slots = no_slots a.graph.roster a.graph.solver.kept.slots slots;
      source_slot = subst (λ (x : Option ℕ). KeepsSource (listed a.graph.roster) (answers_problem a (map (λ (l : Label). []) (declared a).labels)) (declared a).source x a.graph.solver) (sym stamp)
          (no_source (listed a.graph.roster) (declared a) (map (λ (l : Label). []) (declared a).labels) (declared a).source a.graph.solver nothing source);
      rows = first_rows old a.graph.solver none slots source pool;
    }
