-- Walks over steps: along bounds, in an upper part against them.
use Rattle.std.specs.Prelude.{◌≡◌, ◌≢◌, ℕ, ◌+◌, List, [], ◌∷◌, take, slice_get, Some, Contains}
use Rattle.problem_model.specs.declared.items.Follow.{Follow}
use Rattle.problem_model.specs.declared.items.Message.{Message}
use Rattle.problem_model.specs.declared.items.Node.{Node}
use Rattle.problem_model.specs.Problem.{ProblemLists}
use Rattle.problem_model.specs.Bounds.{Constraint, Declares}
use Rattle.problem_model.specs.Solutions.{WeighedBound, weight_of}
use Rattle.cert.specs.declared.chain.Step.{Step}
use Rattle.cert.specs.Shows.{weighed_bounds}
use Rattle.cert_check.specs.declared.answer.Part.{Part}
use Rattle.cert_check.specs.declared.answer.Part.TheVariants.{Upper}
use Rattle.cert_check.specs.declared.declared.Declaration.{Declaration}
use Rattle.cert_check.specs.declared.walk.Walk.{Walk}
use Rattle.cert_check.specs.declared.walk.Walk.TheVariants.{Astray, Misweighed, Arrived}

-- ends and weight, as a constraint
abbrev pub constraint : Declaration → Constraint
constraint d = record { from = d.from; to = d.to; weight = d.weight }

-- some message goes from the one event to the other
abbrev pub HasMessageBetween : ProblemLists → ℕ → ℕ → Type 0
HasMessageBetween p send receive = (m : Message) × Contains p.messages m × (m.send ≡ send) × (m.receive ≡ receive)

-- the follow is one of the problem's, and this is its later clock
abbrev pub LeadsTo : ProblemLists → Follow → ℕ → Type 0
LeadsTo p f later = Contains p.follows f × (f.later ≡ later)

-- the node where a walk enters a bound: in the upper part, where it goes against bounds, the bound's last one, else its
-- first
abbrev pub entry_of : Part → Constraint → Node
entry_of Upper c = c.to
entry_of _ c = c.from

-- the node where it leaves the bound
abbrev pub exit_of : Part → Constraint → Node
exit_of Upper c = c.from
exit_of _ c = c.to

-- from m to n over bounds of the problem with the weights that it declares, each entered where the one before was left
abbrev pub Goes : ProblemLists → Part → Node → List WeighedBound → Node → Type 0
Goes p part m [] n = m ≡ n
Goes p part m (s ∷ steps) n = (c : Constraint) × Declares p s.0 c × (c.weight ≡ s.1) × (entry_of part c ≡ m) × Goes p part (exit_of part c) steps n

-- what became of a walk: a step, counted from 1, is entered elsewhere than where the walk has come to; or it is entered there
-- and has another weight than its bound; or the walk went over all steps
abbrev pub IsWalk : ProblemLists → Part → Node → List Step → Walk → Type 0
IsWalk p part m steps (Astray k) = (j : ℕ) × (n : Node) × (s : Step) × (c : Constraint) × (k ≡ j + 1) × Goes p part m (weighed_bounds (take j steps)) n
    × (slice_get steps j ≡ Some s) × Declares p s.bound c × (entry_of part c ≢ n)
IsWalk p part m steps (Misweighed k) = (j : ℕ) × (n : Node) × (s : Step) × (c : Constraint) × (k ≡ j + 1) × Goes p part m (weighed_bounds (take j steps)) n
    × (slice_get steps j ≡ Some s) × Declares p s.bound c × (entry_of part c ≡ n) × (c.weight ≢ s.weight)
IsWalk p part m steps (Arrived held) = Goes p part m (weighed_bounds steps) held.node × (held.sum ≡ weight_of (weighed_bounds steps))
