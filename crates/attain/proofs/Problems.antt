-- Problems have an earliest execution or a contradiction, as their arcs have.
use Rattle.std.proofs.Common.{◌≡◌, ◌⊎◌, List, [], ◌∷◌, length, map, refl, sym, ap, subst, inl, inr}
use Rattle.std.specs.Prelude.{ℤ, All, Contains}
use Rattle.std.proofs.lemmas.List.Elements.{All-nil, All-cons, All-head, All-tail, All-contains}
use Rattle.problem_model.specs.declared.items.Bound.{Bound}
use Rattle.problem_model.specs.Problem.{ProblemLists, IsProblem}
use Rattle.problem_model.specs.Bounds.{Constraint, Declares, Times}
use Rattle.problem_model.specs.Nodes.{Reading, AreReadings, nodes_of}
use Rattle.problem_model.specs.Executions.{Arc}
use Rattle.problem_model.specs.Earliest.{IsEarliest}
use Rattle.problem_model.specs.Paths.{IsContradiction}
use Rattle.problem_model.specs.ProblemArcs.{IsArcOf, StandsFor}
use Rattle.problem_model.specs.Solutions.{IsEarliestExecution, WeighedBound, IsContradictionOf, NamedArc, IsBoundArc, weighed}
use Rattle.problem_model.proofs.Problems.{within, times}
use Rattle.problem_model.proofs.Solutions.{same_earliest, named_contradiction}
use Rattle.attain.proofs.DeclaredBounds.{arcs_stand}
use Rattle.attain.proofs.Arcs.{outcome_of}
use Rattle.attain.proofs.Readings.{readings_of}

-- the arc of a named arc
abbrev arc_of : NamedArc → Arc
arc_of s = s.1

module _ (p : ProblemLists) (readings : List Reading) (arcs : List Arc) (are : AreReadings p readings) (stands : StandsFor p readings arcs) where
  -- the arc is some bound of the problem
  abbrev IsSomeBound : Arc → Type 0
  IsSomeBound a = (b : Bound) × (c : Constraint) × Declares p b c × IsArcOf p readings c a

  -- named arcs whose arcs are these
  record AreNamed (steps : List Arc) (named : List NamedArc) : Type 0 where
    each : All (IsBoundArc p readings) named
    same : map arc_of named ≡ steps

  -- arcs of the list have names
  names_for : (steps : List Arc) → All (Contains arcs) steps → (named : List NamedArc) × AreNamed steps named
  names_for [] among = ([], record { each = All-nil (IsBoundArc p readings); same = refl })
  names_for (a ∷ steps) among =
      let (b, c, declares, arc) = All-contains IsSomeBound arcs a stands.each (All-head (Contains arcs) a steps among) in
      let (named, are_named) = names_for steps (All-tail (Contains arcs) a steps among) in
      let s : NamedArc = (b, a) in
      (s ∷ named, record { each = All-cons (IsBoundArc p readings) s named (c, declares, arc) are_named.each; same = ap (λ (rest : List Arc). a ∷ rest) are_named.same })

  -- a contradiction of the arcs is one of named bounds
  bounds_contradict : (steps : List Arc) → IsContradiction arcs steps → (named : List WeighedBound) × IsContradictionOf p named
  bounds_contradict steps is =
      let (named, are_named) = names_for steps is.closed.1.within in
      (map weighed named, named_contradiction p readings arcs named are_named.each (subst (IsContradiction arcs) (sym are_named.same) is))

  -- the earliest execution of the arcs is one of real times
  earliest_times : (xs : List ℤ) → IsEarliest (length (nodes_of p readings)) arcs xs → (x : Times) × IsEarliestExecution p x
  earliest_times xs earliest =
      let (x, listed, execution) = times p readings arcs are stands xs earliest.execution in
      (x, (same_earliest p readings arcs are stands x xs listed).0 earliest)

  -- so the arcs' outcome is the problem's
  outcome_by : ((x : Times) × IsEarliestExecution p x) ⊎ ((steps : List WeighedBound) × IsContradictionOf p steps)
  outcome_by = elim (outcome_of (length (nodes_of p readings)) arcs (within p readings arcs are stands)) [
    | inl (xs, earliest) ↦ inl (earliest_times xs earliest)
    | inr (steps, is) ↦ inr (bounds_contradict steps is)
  ]

-- a problem has its readings, and arcs stand for it
pub problem_outcome : (p : ProblemLists) → IsProblem p → ((x : Times) × IsEarliestExecution p x) ⊎ ((steps : List WeighedBound) × IsContradictionOf p steps)
problem_outcome p lawful =
    let (readings, are) = readings_of p in
    let (arcs, stands) = arcs_stand p lawful readings are in
    outcome_by p readings arcs are stands
