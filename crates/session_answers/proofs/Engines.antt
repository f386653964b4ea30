-- Engines that keep nodes.
use Rattle.std.proofs.Common.{◌≡◌, ◌⊎◌, inl, inr, ℕ, zero, suc, ◌+◌, ◌*◌, ◌<◌, ◌≤◌, List, [], ◌∷◌, length, map, slice_get, Option, Some, None, refl, sym, ◌∙◌, ap, subst, arith}
use Rattle.std.specs.Prelude.{Contains, IfSome}
use Rattle.std.proofs.lemmas.Option.{slice_get_within, get_or_from_slice_get}
use Rattle.problem_model.specs.declared.items.Clock.{Clock}
use Rattle.problem_model.specs.Problem.{ProblemLists}
use Rattle.problem_model.specs.Nodes.{Reading}
use Rattle.problem.specs.Listing.{Listed, listed_nodes}
use Rattle.problem.proofs.ListedNodes.{reading_node}
use Rattle.decl.specs.Declaration.{IsSource}
use Rattle.traces.specs.Seen.{Seen}
use Rattle.traces.proofs.Lists.{place_in}
use Rattle.traces.specs.Messages.{problem_of_seen}
use Rattle.row_pool.specs.Pool.{free_rows}
use Rattle.repair.specs.declared.slot.Slot.{Slot}
use Rattle.repair.specs.declared.keep.KeepError.{KeepError}
use Rattle.repair.specs.declared.keep.KeepError.TheVariants.{Already, Full}
use Rattle.repair.specs.Slots.{KeptRows, slot_of, all_slots, behind}
use Rattle.repair.specs.Keeping.{IsKeepRefused}
use Rattle.sync_graph.specs.Graph.{GraphLists}
use Rattle.problem_graph.specs.ListedStanding.{StandsForListed}
use Rattle.solver.specs.Solver.{SolverLists}
use Rattle.solver.specs.Changes.{KeepsAnswer}
use Rattle.solver.specs.Current.{IsCurrent}
use Rattle.solver.specs.Solution.{IsSolutionBy}
use Rattle.roster.specs.Groups.{group_at}
use Rattle.roster.specs.Readings.{Stamped, HasStamp}
use Rattle.roster.specs.Roster.{RosterLists, listed}
use Rattle.roster.proofs.Telling.{among}
use Rattle.roster.proofs.Turns.{from_turn, into_turn}
use Rattle.roster.specs.Told.{TellsMessages, messages_by_number}
use Rattle.session_graph.specs.Kept.{IsKeptFor, IsGrownBy, KeepsReadings, KeepsRows}
use Rattle.queries.specs.Asking.{IsListedReading}
use Rattle.queries.specs.Replies.{HasReading}
use Rattle.session_answers.specs.Ready.{HasSpareRows, KeepsSource}
use Rattle.session_answers.specs.Keeping.{TakesForSource, KeepsSourceBut}
use Rattle.replies.proofs.Elements.{some_same}

-- ---- one node
-- a node without a slot is not refused while there are fewer than eight
pub not_refused : (kept : KeptRows) (node : ℕ) (e : KeepError) → IsKeepRefused kept node e → slot_of kept node ≡ None → length kept.slots < 8 → ⊥
not_refused kept node (Already place) (slot, found, k, is, at) none few = let same : None ≡ Some slot = sym none ∙ found in absurd cc
not_refused kept node Full (none', full) none few = omega (arith, full, few)

-- a solution stays one where its answer is kept
pub solution_stays : (l : Listed) (p : ProblemLists) (old new : SolverLists) → KeepsAnswer old new → IsCurrent new → IsSolutionBy l p old → IsSolutionBy l p new
solution_stays l p old new answer current is = record {
  current = current;
  stands = λ readings are. subst (λ (g : GraphLists). StandsForListed l p readings g) (sym answer.graph) (is.stands readings are);
}

-- and so does a graph that is kept for events
pub kept_stays : (seen : List (List Seen)) (r : RosterLists) (old new : SolverLists) → KeepsAnswer old new → IsCurrent new → IsKeptFor seen r old → IsKeptFor seen r new
kept_stays seen r old new answer current is = record {
  holds = is.holds;
  stamps = is.stamps;
  solution = solution_stays (listed r) (problem_of_seen r.declaration seen) old new answer current is.solution;
  grown = subst (λ (g : GraphLists). IsGrownBy r (messages_by_number r seen) g) (sym answer.graph) is.grown;
  few = subst (λ (g : GraphLists). length g.arcs ≤ 8 * length r.came) (sym answer.graph) is.few;
}

-- its roster tells of its messages
pub told : (seen : List (List Seen)) (r : RosterLists) (s : SolverLists) → IsKeptFor seen r s → TellsMessages r (messages_by_number r seen)
told seen r s is =
    let tells = is.grown.tells in
    record { each = λ m has. let x = tells.each m has in (x.0, (record { event = m.receive; arc = x.1 }), x.2, x.3, refl); only = tells.only }

-- ---- the rows of the slots
all_few : (source : Option Slot) (slots : List Slot) → length (behind source slots) ≤ length slots + 1
all_few None slots = omega arith
all_few (Some slot) slots = omega arith

all_none : (source : Option Slot) (slots : List Slot) → source ≡ None → length (behind source slots) ≡ length slots
all_none source slots none = ap (λ (x : Option Slot). length (behind x slots)) none

-- two rows are free for a question
pub spare_free : (s : SolverLists) → HasSpareRows s → 2 ≤ free_rows s.pool
spare_free s (many, owned) = let few = all_few s.kept.source s.kept.slots in omega (arith, many, owned, few)

-- and two more where the source has no slot
pub spare_source : (s : SolverLists) → s.kept.source ≡ None → HasSpareRows s → 4 ≤ free_rows s.pool
spare_source s none (many, owned) = let all = all_none s.kept.source s.kept.slots none in omega (arith, many, owned, all)

pub spare_kept : (old new : SolverLists) → KeepsRows old new → HasSpareRows old → HasSpareRows new
spare_kept old new keeps (many, owned) =
    let slots : length new.kept.slots ≡ length old.kept.slots = ap length keeps.slots in
    let all : length (all_slots new.kept) ≡ length (all_slots old.kept) =
    ap (λ (x : Option Slot). length (behind x new.kept.slots)) keeps.source ∙ ap (λ (xs : List Slot). length (behind old.kept.source xs)) keeps.slots in
    let count : length new.pool.rows ≡ length old.pool.rows = keeps.count in
    let free : free_rows new.pool ≡ free_rows old.pool = keeps.free in
    (omega (arith, many, slots, count), omega (arith, owned, all, count, free))

-- so it is with those of a source
pub source_spare : (old new : SolverLists) → old.kept.source ≡ None → HasSpareRows old → new.kept.slots ≡ old.kept.slots → TakesForSource old new → HasSpareRows new
source_spare old new none (many, owned) slots (inl ((slot, source), takes)) =
    let now : free_rows new.pool + 2 ≡ free_rows old.pool = takes.free in
    let rows : length new.pool.rows ≡ length old.pool.rows = takes.count in
    let same : length new.kept.slots ≡ length old.kept.slots = ap length slots in
    let was : length (all_slots old.kept) ≡ length old.kept.slots = all_none old.kept.source old.kept.slots none in
    let all : length (all_slots new.kept) ≡ length new.kept.slots + 1 = ap (λ (x : Option Slot). length (behind x new.kept.slots)) source ∙ one_more new.kept.slots slot in
    (omega (arith, many, rows, same), omega (arith, owned, now, rows, same, was, all))
  where
    one_more : (xs : List Slot) (x : Slot) → length (x ∷ xs) ≡ length xs + 1
    one_more xs x = omega arith
source_spare old new none spare slots (inr same) = subst HasSpareRows (sym same) spare

-- ---- the source
-- a node of a listed reading is one of the graph
pub reading_within : (l : Listed) (p : ProblemLists) (readings : List Reading) (g : GraphLists) (clock stamp node : ℕ) → StandsForListed l p readings g → IsListedReading l clock stamp node → node < length g.nodes
reading_within l p readings g clock stamp node stands (place, at) =
    let k : ℕ = length l.events + place in
    let there : slice_get (listed_nodes l) k ≡ Some node = reading_node l k place (clock, stamp, node) refl at in
    let inside : k < length (listed_nodes l) = slice_get_within (listed_nodes l) k node there in
    subst (λ (n : ℕ). n < length g.nodes) (get_or_from_slice_get (listed_nodes l) k node 0 there) (stands.nodes k 0 inside)

-- a reading of a clock is listed
pub reading_listed : (l : Listed) (p : ProblemLists) (readings : List Reading) (g : GraphLists) (clock : ℕ) → StandsForListed l p readings g → HasReading p clock →
    (stamp : ℕ) × (node : ℕ) × IsListedReading l clock stamp node
reading_listed l p readings g clock stands (stamp, reading) =
    let at = place_in readings (clock, stamp) (stands.are_readings.every clock stamp reading) in
    let there : slice_get (map {A = ℕ × ℕ × ℕ} {B = Reading} (λ r. (r.0, r.1)) l.readings) at.0 ≡ Some (clock, stamp) = ap (λ (rs : List Reading). slice_get rs at.0) stands.listed.stamps ∙ at.1 in
    by l.readings at.0 there
  where
    by : (rs : List (ℕ × ℕ × ℕ)) (k : ℕ) → slice_get (map {A = ℕ × ℕ × ℕ} {B = Reading} (λ r. (r.0, r.1)) rs) k ≡ Some (clock, stamp) → (s : ℕ) × (node : ℕ) × ((place : ℕ) × (slice_get rs place ≡ Some (clock, s, node)))
    by [] k at = absurd cc
    by (r ∷ rs) zero at =
        let same : (r.0, r.1) ≡ (clock, stamp) = some_same (r.0, r.1) (clock, stamp) at in
        let on : r.0 ≡ clock = ap (λ (x : Reading). x.0) same in
        let is : r.1 ≡ stamp = ap (λ (x : Reading). x.1) same in
        (stamp, r.2, (0, ap (λ (c : ℕ). Some (c, r.1, r.2)) on ∙ ap (λ (s : ℕ). Some (clock, s, r.2)) is))
    by (r ∷ rs) (suc k) at = let more = by rs k at in (more.0, more.1, (suc more.2.0, more.2.1))

-- a reading of a clock is listed
pub clock_listed : (r : RosterLists) (clock stamp node : ℕ) → Contains {X = Stamped} (group_at r.readings clock) (stamp, node) → IsListedReading (listed r) clock stamp node
clock_listed r clock stamp node has =
    let f : ℕ → Stamped → ℕ × ℕ × ℕ = λ c s. (c, s.0, s.1) in
    let none : 0 + clock ≡ clock = omega arith in
    let there : Contains {X = ℕ × ℕ × ℕ} (listed r).readings (0 + clock, stamp, node) = into_turn {T = Stamped} {X = ℕ × ℕ × ℕ} f 0 r.readings clock (stamp, node) has in
    place_in {X = ℕ × ℕ × ℕ} (listed r).readings (clock, stamp, node) (subst (λ (c : ℕ). Contains {X = ℕ × ℕ × ℕ} (listed r).readings (c, stamp, node)) none there)

-- what is listed of a clock is a reading of it
pub listed_clock : (r : RosterLists) (clock stamp node : ℕ) → IsListedReading (listed r) clock stamp node → HasStamp (group_at r.readings clock) stamp
listed_clock r clock stamp node (place, at) =
    let f : ℕ → Stamped → ℕ × ℕ × ℕ = λ c s. (c, s.0, s.1) in
    let t = from_turn {T = Stamped} {X = ℕ × ℕ × ℕ} f 0 r.readings (clock, stamp, node) (among {X = ℕ × ℕ × ℕ} (listed r).readings place (clock, stamp, node) at) in
    let on : 0 + t.0 ≡ clock = ap (λ (x : ℕ × ℕ × ℕ). x.0) t.3 in
    let own : t.0 ≡ clock = omega (arith, on) in
    let is : t.1 ≡ (stamp, node) = ap (λ (x : ℕ × ℕ × ℕ). let s : Stamped = (x.1, x.2) in s) t.3 in
    (node, subst (λ (c : ℕ). Contains {X = Stamped} (group_at r.readings c) (stamp, node)) own (subst (λ (s : Stamped). Contains {X = Stamped} (group_at r.readings t.0) s) is t.2))

-- a source is one of the clocks
pub source_inside : (clocks : List Clock) (source : Option ℕ) → IfSome source (IsSource clocks) → IfSome source (λ clock. clock < length clocks)
source_inside clocks None is = tt
source_inside clocks (Some clock) is = slice_get_within clocks clock is.0 is.1

-- readings of a roster stay where more come
pub reading_kept : (old new : RosterLists) (clock stamp node : ℕ) → KeepsReadings old new → IsListedReading (listed old) clock stamp node → IsListedReading (listed new) clock stamp node
reading_kept old new clock stamp node keeps (place, at) =
    let f : ℕ → Stamped → ℕ × ℕ × ℕ = λ c s. (c, s.0, s.1) in
    let t = from_turn {T = Stamped} {X = ℕ × ℕ × ℕ} f 0 old.readings (clock, stamp, node) (among {X = ℕ × ℕ × ℕ} (listed old).readings place (clock, stamp, node) at) in
    let there : Contains {X = ℕ × ℕ × ℕ} (listed new).readings (f (0 + t.0) t.1) = into_turn {T = Stamped} {X = ℕ × ℕ × ℕ} f 0 new.readings t.0 t.1 (keeps t.0 t.1 t.2) in
    place_in {X = ℕ × ℕ × ℕ} (listed new).readings (clock, stamp, node) (subst (λ (x : ℕ × ℕ × ℕ). Contains (listed new).readings x) t.3 there)

pub source_so_far : (old new : RosterLists) (p p' : ProblemLists) (on : ℕ) (source source' stamp : Option ℕ) (s s' : SolverLists) → KeepsReadings old new → source' ≡ source → s'.kept.source ≡ s.kept.source →
    ((clock : ℕ) → HasReading p' clock → HasReading p clock ⊎ (on ≡ clock)) → KeepsSource (listed old) p source stamp s → KeepsSourceBut on (listed new) p' source' stamp s'
source_so_far old new p p' on source source' stamp s s' keeps declared same reads is = subst (λ (x : Option ℕ). KeepsSourceBut on (listed new) p' x stamp s') (sym declared) (by source stamp is)
  where
    either : (clock : ℕ) → (HasReading p clock → ⊥) → HasReading p clock ⊎ (on ≡ clock) → on ≡ clock
    either clock none (inl has) = absurd (none has)
    either clock none (inr here) = here

    by : (source stamp : Option ℕ) → KeepsSource (listed old) p source stamp s → KeepsSourceBut on (listed new) p' source stamp s'
    by None None is = same ∙ is.1
    by None (Some t) is = let none : Some t ≡ None = is.0 in absurd cc
    by (Some clock) None is = (λ has. either clock is.0 (reads clock has), same ∙ is.1)
    by (Some clock) (Some t) is = (is.0, same ∙ is.1, reading_kept old new clock t is.0.node keeps is.2)

-- a source that has a stamp is that of its slot
pub source_whole : (on : ℕ) (l : Listed) (p : ProblemLists) (source : Option ℕ) (stamp : ℕ) (s : SolverLists) → KeepsSourceBut on l p source (Some stamp) s → KeepsSource l p source (Some stamp) s
source_whole on l p None stamp s is = absurd is
source_whole on l p (Some clock) stamp s is = is

-- nothing is lacking where the clock is another
pub source_other : (on : ℕ) (l : Listed) (p : ProblemLists) (source : Option ℕ) (s : SolverLists) → (source ≡ Some on → ⊥) → KeepsSourceBut on l p source None s → KeepsSource l p source None s
source_other on l p None s other is = (refl, is)
source_other on l p (Some clock) s other is = (λ has. other (ap (λ (n : ℕ). Some n) (sym (is.0 has))), is.1)

-- a source that has none has no slot
pub source_slotless : (on : ℕ) (l : Listed) (p : ProblemLists) (source : Option ℕ) (s : SolverLists) → KeepsSourceBut on l p source None s → s.kept.source ≡ None
source_slotless on l p None s is = is
source_slotless on l p (Some clock) s is = is.1
