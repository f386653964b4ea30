-- Questions over the rows of a solver.
use Rattle.std.proofs.Common.{◌≡◌, ◌⊎◌, inl, inr, ℕ, zero, suc, List, [], ◌∷◌, length, map, slice_get, Option, Some, None, IfSome, refl, sym, ◌∙◌, ap, subst, arith}
use Rattle.std.specs.Prelude.{Contains}
use Rattle.problem_model.specs.Problem.{ProblemLists}
use Rattle.problem_model.specs.Bounds.{IsReading}
use Rattle.problem_model.specs.Nodes.{Reading}
use Rattle.problem.specs.Line.{HasEvent, IsUnknown}
use Rattle.problem.specs.Listing.{Listed, all_readings}
use Rattle.traces.specs.Seen.{Seen}
use Rattle.traces.specs.declared.event_id.EventId.{EventId}
use Rattle.traces.proofs.Members.{here, there}
use Rattle.row_pool.specs.Pool.{free_rows}
use Rattle.repair.specs.Slots.{KeptRows, all_slots}
use Rattle.problem_graph.specs.ListedStanding.{StandsForListed, IsEventAt}
use Rattle.attain.specs.Ends.{AreEventNodes}
use Rattle.roster.specs.Roster.{RosterLists, IsRoster, Finds, listed}
use Rattle.solver.specs.Solver.{SolverLists}
use Rattle.solver.specs.Changes.{LeavesTaken, LeavesAnswer}
use Rattle.solver.specs.Solution.{IsSolutionBy}
use Rattle.queries.specs.Asking.{HasKeptRows, IsAtHand, IsPairAtHand, IsListedReading, IsSourceReading}
use Rattle.queries.specs.Clocks.{KeepsTime}
use Rattle.queries.specs.Replies.{HasReading, IsTimeLine, Replies}
use Rattle.problem.proofs.OwnReadings.{own_readings}
use Rattle.session_answers.specs.declared.answers.Answers.{Answers}
use Rattle.replies.specs.declared.refusal.Refusal.TheVariants.{NoSourceTime}
use Rattle.replies.specs.Refusals.{refusal_line}
use Rattle.replies.specs.Reply.{OfOne, OfSource, OfTwo, IsTimeReply}
use Rattle.session_answers.specs.Ready.{AreSlotsOf, AreAnswersOf, KeepsSource, HasSpareRows, answers_problem, declared}
use Rattle.session_answers.specs.Keeping.{IsCalled, HasSlotBy}
use Rattle.session_answers.proofs.Engines.{kept_stays}
use Rattle.replies.proofs.Elements.{some_same}
use Rattle.session_answers.proofs.RosterEvents.{event_place, called, unknown, one_node}

-- ---- what a question leaves
keeps_source : (l : Listed) (p : ProblemLists) (source stamp : Option ℕ) (old new : SolverLists) → new.kept ≡ old.kept → KeepsSource l p source stamp old → KeepsSource l p source stamp new
keeps_source l p None stamp old new same is = (is.0, ap (λ (k : KeptRows). k.source) same ∙ is.1)
keeps_source l p (Some clock) None old new same is = (is.0, ap (λ (k : KeptRows). k.source) same ∙ is.1)
keeps_source l p (Some clock) (Some stamp) old new same is = (is.0, ap (λ (k : KeptRows). k.source) same ∙ is.1, is.2)

spare_left : (old new : SolverLists) → new.kept ≡ old.kept → LeavesTaken old.pool new.pool → HasSpareRows old → HasSpareRows new
spare_left old new same leaves spare =
    let free : free_rows new.pool ≡ free_rows old.pool = leaves.free in
    let count : length new.pool.rows ≡ length old.pool.rows = leaves.count in
    let slots : length new.kept.slots ≡ length old.kept.slots = ap (λ (k : KeptRows). length k.slots) same in
    let all : length (all_slots new.kept) ≡ length (all_slots old.kept) = ap (λ (k : KeptRows). length (all_slots k)) same in
    let many = spare.0 in
    let owned = spare.1 in
    (omega (arith, count, slots, many), omega (arith, free, count, all, owned))

-- the answers with this solver
abbrev pub with_engine : Answers → SolverLists → Answers
with_engine a s = record { graph = record { roster = a.graph.roster; matcher = a.graph.matcher; solver = s }; source = a.source }

pub answers_left : (seen : List (List Seen)) (kept : List EventId) (a : Answers) (s : SolverLists) → AreAnswersOf seen kept a → LeavesAnswer a.graph.solver s → AreAnswersOf seen kept (with_engine a s)
answers_left seen kept a s is leaves = record {
  lawful = is.lawful;
  graph = kept_stays seen a.graph.roster a.graph.solver s leaves.answer leaves.current is.graph;
  ends = is.ends;
  slots = subst (λ (k : KeptRows). AreSlotsOf a.graph.roster kept k.slots) (sym leaves.kept) is.slots;
  source_slot = keeps_source (listed a.graph.roster) (answers_problem a seen) (declared a).source a.source a.graph.solver s leaves.kept is.source_slot;
  rows = spare_left a.graph.solver s leaves.kept leaves.rows is.rows;
}

-- ---- by name
module _ (r : RosterLists) (is : IsRoster r) (p : ProblemLists) (s : SolverLists) (sol : IsSolutionBy (listed r) p s) where
  abbrev readings : List Reading
  readings = all_readings p.events

  stands : StandsForListed (listed r) p readings s.graph
  stands = sol.stands readings (own_readings p)

  -- what is called so is an event of the problem, with its node
  pub event_called : (name : List ℕ) (event : EventId) (node : ℕ) → IsCalled r name event node → (place : ℕ) × HasEvent p place name × IsEventAt (listed r) place node
  event_called name event node a =
      let x = called r is p readings stands.listed name event node a in
      ((event_place r is a.known.number a.known.came a.known.there).0, x.0, x.1)

  pub none_called : (name : List ℕ) → Finds r name None → IsUnknown p name
  none_called name none = unknown r is p readings stands.listed name none

  pub either_unknown : (first second : List ℕ) → Finds r first None ⊎ Finds r second None → IsUnknown p first ⊎ IsUnknown p second
  either_unknown first second (inl none) = inl (none_called first none)
  either_unknown first second (inr none) = inr (none_called second none)

  pub two_nodes : (first second : List ℕ) (event other : EventId) (node again : ℕ) → IsCalled r first event node → IsCalled r second other again → AreEventNodes (listed r) node again
  two_nodes first second event other node again a b =
      let x = event_called first event node a in
      let y = event_called second other again b in
      (x.0, y.0, x.2, y.2)

  -- the node of an event whose slot is known is at hand
  pub at_hand : (name : List ℕ) (event : EventId) (node : ℕ) → IsCalled r name event node → HasSlotBy r s name → IsAtHand s node
  at_hand name event node a (other, again, b, kept) = inr (subst (λ (n : ℕ). HasKeptRows s n) (one_node r is p readings stands.listed stands.lawful name other event again node b a) kept)

  pub pair_at_hand : (first second : List ℕ) (event other : EventId) (node again : ℕ) → IsCalled r first event node → IsCalled r second other again → HasSlotBy r s first ⊎ HasSlotBy r s second → IsPairAtHand s node again
  pair_at_hand first second event other node again a b (inl slot) = inl (at_hand first event node a slot)
  pair_at_hand first second event other node again a b (inr slot) = inr (at_hand second other again b slot)

  -- what was said of two events that are called so is a reply
  pub two_replied : (first second : List ℕ) (event other : EventId) (node again : ℕ) (Says : ℕ → ℕ → List ℕ → Type 0) (IsWritten : List ℕ → Type 0) → IsCalled r first event node → IsCalled r second other again →
      ((i j : ℕ) → IsEventAt (listed r) i node → IsEventAt (listed r) j again → (text : List ℕ) × Replies p (Says i j) text × IsWritten text) → (text : List ℕ) × OfTwo p first second Says text × IsWritten text
  two_replied first second event other node again Says IsWritten a b says =
      let x = event_called first event node a in
      let y = event_called second other again b in
      let t = says x.0 y.0 x.2 y.2 in
      (t.0, inl (x.0, y.0, x.1, y.1, t.1), t.2)

-- ---- times
contains_at : {A : Type 0} (xs : List A) (k : ℕ) (x : A) → slice_get xs k ≡ Some x → Contains xs x
contains_at [] k x at = absurd cc
contains_at {A = A} (y ∷ xs) zero x at = subst (λ (z : A). Contains (y ∷ xs) z) (some_same y x at) (here y xs)
contains_at (y ∷ xs) (suc k) x at = there y x xs (contains_at xs k x at)

-- a listed reading is one of its clock
pub listed_reading : (l : Listed) (p : ProblemLists) (s : SolverLists) (clock stamp node : ℕ) → IsSolutionBy l p s → IsListedReading l clock stamp node → IsReading p clock stamp
listed_reading l p s clock stamp node is (place, at) =
    let rs : List Reading = all_readings p.events in
    let are = own_readings p in
    let there' : slice_get rs place ≡ Some (clock, stamp) = ap (λ (xs : List Reading). slice_get xs place) (sym (is.stands rs are).listed.stamps) ∙ by l.readings place at in
    are.each clock stamp (contains_at rs place (clock, stamp) there')
  where
    by : (rs : List (ℕ × ℕ × ℕ)) (k : ℕ) → slice_get rs k ≡ Some (clock, stamp, node) → slice_get (map {A = ℕ × ℕ × ℕ} {B = Reading} (λ r. (r.0, r.1)) rs) k ≡ Some (clock, stamp)
    by [] k at' = absurd cc
    by (r ∷ rs) zero at' = ap (λ (x : ℕ × ℕ × ℕ). Some (x.0, x.1)) (some_same {A = ℕ × ℕ × ℕ} r (clock, stamp, node) at')
    by (r ∷ rs) (suc k) at' = by rs k at'

-- where a source has a stamp, it is declared, and its rows are those of this reading
pub source_known : (l : Listed) (p : ProblemLists) (source : Option ℕ) (stamp : ℕ) (s : SolverLists) → KeepsSource l p source (Some stamp) s → (clock : ℕ) × (source ≡ Some clock) × IsSourceReading l s clock stamp
source_known l p None stamp s is = let none : Some stamp ≡ None = is.0 in absurd cc
source_known l p (Some clock) stamp s is = (clock, refl, is)

-- what the code says by the source's clock is a reply
abbrev SourceTold : ProblemLists → Option ℕ → (ℕ → List ℕ → Type 0) → (List ℕ → Type 0) → Type 0
SourceTold p source Says IsWritten = (text : List ℕ) × OfSource p source Says text × IsWritten text

pub by_source : (l : Listed) (p : ProblemLists) (source : Option ℕ) (stamp : ℕ) (s : SolverLists) (Says : ℕ → List ℕ → Type 0) (IsWritten : List ℕ → Type 0) → IsSolutionBy l p s →
    IfSome source (λ clock. KeepsTime p clock) → KeepsSource l p source (Some stamp) s →
    ((clock : ℕ) → KeepsTime p clock → IsSourceReading l s clock stamp → (text : List ℕ) × Replies p (Says clock) text × IsWritten text) → SourceTold p source Says IsWritten
by_source l p None stamp s Says IsWritten is true_time keeps says = let none : Some stamp ≡ None = keeps.0 in absurd cc
by_source l p (Some clock) stamp s Says IsWritten is true_time keeps says =
    let t = says clock true_time keeps in
    let has : HasReading p clock = (stamp, listed_reading l p s clock stamp keeps.0.node is keeps.2) in
    (t.0, inl (has, t.1), t.2)

pub source_refused : (l : Listed) (p : ProblemLists) (source : Option ℕ) (s : SolverLists) (Says : ℕ → List ℕ → Type 0) (IsWritten : List ℕ → Type 0) → KeepsSource l p source None s →
    IsWritten (refusal_line NoSourceTime) → SourceTold p source Says IsWritten
source_refused l p None s Says IsWritten keeps written = (refusal_line NoSourceTime, refl, written)
source_refused l p (Some clock) s Says IsWritten keeps written = (refusal_line NoSourceTime, inr (keeps.0, refl), written)

-- and what it says of the time of an event
abbrev TimeTold : ProblemLists → Option ℕ → List ℕ → (List ℕ → Type 0) → Type 0
TimeTold p source name IsWritten = (text : List ℕ) × OfOne p name (IsTimeReply p source) text × IsWritten text

pub time_known : (l : Listed) (p : ProblemLists) (source : Option ℕ) (stamp event : ℕ) (s : SolverLists) (name : List ℕ) (IsWritten : List ℕ → Type 0) → IsSolutionBy l p s → HasEvent p event name →
    IfSome source (λ clock. KeepsTime p clock) → KeepsSource l p source (Some stamp) s →
    ((clock : ℕ) → KeepsTime p clock → IsSourceReading l s clock stamp → (text : List ℕ) × Replies p (IsTimeLine p clock event) text × IsWritten text) → TimeTold p source name IsWritten
time_known l p source stamp event s name IsWritten is at true_time keeps says =
    let t = by_source l p source stamp s (λ (clock : ℕ). IsTimeLine p clock event) IsWritten is true_time keeps says in
    (t.0, inl (event, at, t.1), t.2)

pub time_refused : (l : Listed) (p : ProblemLists) (source : Option ℕ) (event : ℕ) (s : SolverLists) (name : List ℕ) (IsWritten : List ℕ → Type 0) → HasEvent p event name → KeepsSource l p source None s →
    IsWritten (refusal_line NoSourceTime) → TimeTold p source name IsWritten
time_refused l p source event s name IsWritten at keeps written =
    let t = source_refused l p source s (λ (clock : ℕ). IsTimeLine p clock event) IsWritten keeps written in
    (t.0, inl (event, at, t.1), t.2)
