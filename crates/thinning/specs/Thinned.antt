-- A problem that is made smaller, and what is kept of it.
use Rattle.std.specs.Prelude.{◌≡◌, ◌↔◌, ℕ, zero, suc, Bool, true, List, [], ◌∷◌, length, map, slice_get, if◌then◌else◌, Some, All, Contains, ℤ}
use Rattle.problem_model.specs.declared.items.Event.{Event}
use Rattle.problem_model.specs.declared.items.Message.{Message}
use Rattle.problem_model.specs.declared.items.Node.TheVariants as nodes
use Rattle.problem_model.specs.Problem.{ProblemLists}
use Rattle.problem_model.specs.Bounds.{EventAt, Times, IsExecution}
use Rattle.problem_model.specs.ProblemArcs.{IsGreatestOf, IsUnboundedOf}
use Rattle.thinning.specs.Thinning.{Remains, Thins}
use Rattle.thinning.specs.Dropping.{message_before, with_events}

-- the mark at this place is true
abbrev pub IsMarked : List Bool → ℕ → Type 0
IsMarked marks e = slice_get marks e ≡ Some true

-- those whose mark is true
abbrev pub marked : {X : Type 0} → List X → List Bool → List X
marked [] marks = []
marked (x ∷ xs) [] = []
marked (x ∷ xs) (mark ∷ marks) = if mark then x ∷ marked xs marks else marked xs marks

-- how many marks before this place are true
abbrev pub marks_before : List Bool → ℕ → ℕ
marks_before [] e = 0
marks_before (mark ∷ marks) zero = 0
marks_before (mark ∷ marks) (suc e) = if mark then suc (marks_before marks e) else marks_before marks e

-- the message, whose events go by their places among those that stay
abbrev pub renumbered : List Bool → Message → Message
renumbered stays = message_before (marks_before stays)

-- the problem of the events that stay and the messages that are kept
abbrev pub thinned_by : ProblemLists → List Bool → List Bool → ProblemLists
thinned_by p stays keeps = with_events p (marked p.events stays) (map (renumbered stays) (marked p.messages keeps))

-- ---- which messages are kept
-- messages may be left out but for these, and no event that is asked about is of one that is left out
pub record MayBeKept (p : ProblemLists) (asked : List Bool) (keeps : List Bool) : Type 0 where
  pub each : length keeps ≡ length p.messages
  pub thins : Thins p 0 (marked p.messages keeps)
  pub remain : (e : ℕ) → IsMarked asked e → Remains p (marked p.messages keeps) (nodes.Event e)

-- ---- what the small problem says
-- the event at place i of the small problem is the one at place k of the whole
abbrev pub AreOneEvent : ProblemLists → ProblemLists → ℕ → ℕ → Type 0
AreOneEvent small p i k = (v : Event) × EventAt small i v × EventAt p k v

-- the small problem has the clocks and the follows of the whole one and some of its events, says the same of each two of them, and
-- has an execution exactly where the whole one has
pub record IsThinnedTo (p small : ProblemLists) : Type 0 where
  pub clocks : small.clocks ≡ p.clocks
  pub follows : small.follows ≡ p.follows
  pub events : All (Contains p.events) small.events
  pub greatest : (i j k l : ℕ) (h : ℤ) → AreOneEvent small p i k → AreOneEvent small p j l
      → IsGreatestOf p (nodes.Event k) (nodes.Event l) h ↔ IsGreatestOf small (nodes.Event i) (nodes.Event j) h
  pub unbounded : (i j k l : ℕ) → AreOneEvent small p i k → AreOneEvent small p j l
      → IsUnboundedOf p (nodes.Event k) (nodes.Event l) ↔ IsUnboundedOf small (nodes.Event i) (nodes.Event j)
  pub executions : ((x : Times) × IsExecution p x) ↔ ((x : Times) × IsExecution small x)

-- the small problem has each event that is asked about
abbrev pub HasAsked : ProblemLists → List ℕ → ProblemLists → Type 0
HasAsked p asked small = All (λ (k : ℕ). (v : Event) → EventAt p k v → Contains small.events v) asked
