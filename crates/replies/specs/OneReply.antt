-- When two replies are one.
use Rattle.std.specs.Prelude.{◌≡◌, ◌⊎◌, ℕ, ◌≤◌, List, length, slice_get, Some}
use Rattle.problem_model.specs.Problem.{ProblemLists}
use Rattle.problem_model.specs.Bounds.{Times, IsExecution}
use Rattle.problem_model.specs.Limits.{most_events}
use Rattle.problem.specs.Line.{HasEvent}
use Rattle.thinning.specs.Named.{IsThinText}
use Rattle.decl.specs.declared.items.Label.{Label}
use Rattle.decl.specs.Declaration.{Declaration}
use Rattle.traces.specs.Traces.{Trace, IsOfKind, seen_by}
use Rattle.traces.specs.Making.{StampsFit}
use Rattle.queries.specs.Replies.{IsContradictionText}
use Rattle.replies.specs.Commands.{Command, Add, Keep, Ask, Compare, Time, AllTimes, Merge, Prove, Problem, Report, Blame, Thin, Asks}
use Rattle.replies.specs.Reply.{State, count_by, AreKept}
use Rattle.replies.specs.OneProof.{AreOneProof}

-- what a session has is lawful: something of each label's kind, with at most 2^24 events and stamps below 2^62, of which
-- at most eight are kept
pub record IsState (d : Declaration) (s : State) : Type 0 where
  pub labels : length s.traces ≡ length d.labels
  pub kinds : (k : ℕ) (label : Label) (trace : Trace) → slice_get d.labels k ≡ Some label → slice_get s.traces k ≡ Some trace → IsOfKind label.kind trace
  pub few : count_by d s.traces ≤ most_events
  pub stamps : StampsFit (seen_by d s.traces)
  pub kept : AreKept (seen_by d s.traces) s.kept

-- two texts tell a contradiction of one problem, which has no execution
abbrev pub AreContradictions : ProblemLists → List ℕ → List ℕ → Type 0
AreContradictions p a b = IsContradictionText p a × IsContradictionText p b

-- two texts are certificates of the interval of the events of these names, in a problem that has an execution, and are one but
-- for their paths
abbrev pub AreProofs : ProblemLists → List ℕ → List ℕ → List ℕ → List ℕ → Type 0
AreProofs p first second a b = (i : ℕ) × (j : ℕ) × HasEvent p i first × HasEvent p j second × ((x : Times) × IsExecution p x) × AreOneProof p i j a b

-- two texts are of smaller problems that say the same of the events of these names
abbrev pub AreThinTexts : ProblemLists → List (List ℕ) → List ℕ → List ℕ → Type 0
AreThinTexts p events a b = IsThinText p events a × IsThinText p events b

-- how two replies to a command may differ: where no execution exists, what asks of all executions has contradictions; where
-- one exists, a proof has certificates with other paths; a smaller problem may have other messages and events
abbrev pub MayDiffer : ProblemLists → Command → List ℕ → List ℕ → Type 0
MayDiffer p (Add label path) a b = ⊥
MayDiffer p (Keep event) a b = ⊥
MayDiffer p (Ask (Compare what first second)) a b = AreContradictions p a b
MayDiffer p (Ask (Time event)) a b = AreContradictions p a b
MayDiffer p (Ask (AllTimes since)) a b = AreContradictions p a b
MayDiffer p (Ask Merge) a b = AreContradictions p a b
MayDiffer p (Ask (Prove first second)) a b = AreContradictions p a b ⊎ AreProofs p first second a b
MayDiffer p (Ask Problem) a b = ⊥
MayDiffer p (Ask Report) a b = ⊥
MayDiffer p (Ask Blame) a b = ⊥
MayDiffer p (Ask (Thin events)) a b = AreThinTexts p events a b

-- how two replies to a line may differ: as those to the command that it spells
abbrev pub LineMayDiffer : ProblemLists → List ℕ → List ℕ → List ℕ → Type 0
LineMayDiffer p line a b = (c : Command) × Asks line (Some c) × MayDiffer p c a b

-- two replies to a line are one text, or differ as they may
abbrev pub AreOneReply : ProblemLists → List ℕ → List ℕ → List ℕ → Type 0
AreOneReply p line a b = (a ≡ b) ⊎ LineMayDiffer p line a b
