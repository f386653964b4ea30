-- Arcs have an earliest execution or a contradiction.
use Rattle.std.proofs.Common.{◌⊎◌, List, [], ◌∷◌, inl, inr, ℕ}
use Rattle.std.specs.Prelude.{ℤ}
use Rattle.problem_model.specs.Executions.{Arc, AreWithin, values_by}
use Rattle.problem_model.specs.Earliest.{IsEarliest}
use Rattle.problem_model.specs.Paths.{IsContradiction}
use Rattle.attain.proofs.Tables.{Table, IsClosed, own_table, own_closed}
use Rattle.attain.proofs.Closing.{path_more, sound_or_not, with_arc, next_closed}
use Rattle.attain.proofs.Values.{earliest_by, earliest_is}

-- a contradiction of some arcs is one of more
contradiction_more : (a : Arc) (arcs steps : List Arc) → IsContradiction arcs steps → IsContradiction (a ∷ arcs) steps
contradiction_more a arcs steps is = record { closed = (is.closed.0, path_more a arcs is.closed.0 is.closed.0 steps is.closed.1); negative = is.negative }

-- arcs have a closed table or a contradiction
pub table_or_not : (arcs : List Arc) → ((d : Table) × IsClosed arcs d) ⊎ ((steps : List Arc) × IsContradiction arcs steps)
table_or_not [] = inl (own_table, own_closed)
table_or_not (a ∷ arcs) = elim (table_or_not arcs) [
  | inr (steps, is) ↦ inr (steps, contradiction_more a arcs steps is)
  | inl (d, closed) ↦ elim (sound_or_not arcs d closed a) [
    | inl found ↦ inr found
    | inr sound ↦ inl (with_arc d a, next_closed arcs d closed a sound)
  ]
]

-- so they have an earliest execution or a contradiction
pub outcome_of : (nodes : ℕ) (arcs : List Arc) → AreWithin nodes arcs → ((xs : List ℤ) × IsEarliest nodes arcs xs) ⊎ ((steps : List Arc) × IsContradiction arcs steps)
outcome_of nodes arcs within = elim (table_or_not arcs) [
  | inr found ↦ inr found
  | inl (d, closed) ↦ inl (values_by (earliest_by nodes d) nodes, earliest_is nodes arcs d within closed)
]
