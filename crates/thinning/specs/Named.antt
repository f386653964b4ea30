-- A problem that is made smaller but for the events of some names, and its text.
use Rattle.std.specs.Prelude.{◌≡◌, ℕ, Bool, List, All, Any, Contains}
use Rattle.std.specs.List.{AllZip}
use Rattle.problem_model.specs.declared.items.Message.{Message}
use Rattle.problem_model.specs.Problem.{ProblemLists, IsProblem}
use Rattle.problem_model.specs.ProblemText.{problem_text}
use Rattle.problem.specs.Line.{HasEvent, IsUnknown}
use Rattle.thinning.specs.declared.named.Unfound.{Unfound}
use Rattle.thinning.specs.declared.named.Unfound.TheVariants as unfound
use Rattle.thinning.specs.Thinning.{IsMessageEnd}
use Rattle.thinning.specs.Small.{ShrinksTo}
use Rattle.thinning.specs.Thinned.{IsMarked, IsThinnedTo, marked, thinned_by}

-- some event has the name
abbrev pub IsKnown : ProblemLists → List ℕ → Type 0
IsKnown p name = (k : ℕ) × HasEvent p k name

-- the events at these places have these names, each its own
abbrev pub AreNamed : ProblemLists → List (List ℕ) → List ℕ → Type 0
AreNamed p names places = AllZip (λ (name : List ℕ) (place : ℕ). HasEvent p place name) names places

-- why there are no places of events of these names
abbrev pub IsUnfound : ProblemLists → List (List ℕ) → Unfound → Type 0
IsUnfound p names unfound.Unknown = Any (IsUnknown p) names
IsUnfound p names unfound.Memory = Unit {0}

-- the messages that are marked imply all others, and both their events are marked; with the events that are marked, which go on as they
-- may, they are a problem that the whole one is thinned to, with an event of each of these names
pub record IsThinnedFor (p : ProblemLists) (names : List (List ℕ)) (stays keeps : List Bool) : Type 0 where
  pub shrinks : ShrinksTo p stays keeps
  pub ends : (m : Message) (e : ℕ) → Contains (marked p.messages keeps) m → IsMessageEnd e m → IsMarked stays e
  pub lawful : IsProblem (thinned_by p stays keeps)
  pub thinned : IsThinnedTo p (thinned_by p stays keeps)
  pub named : All (IsKnown (thinned_by p stays keeps)) names

-- the text of such a problem
abbrev pub IsThinText : ProblemLists → List (List ℕ) → List ℕ → Type 0
IsThinText p names text = (stays : List Bool) × (keeps : List Bool) × IsThinnedFor p names stays keeps × (text ≡ problem_text (thinned_by p stays keeps))
