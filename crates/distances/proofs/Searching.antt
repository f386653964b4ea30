-- What holds throughout a search.
use Rattle.std.proofs.Common.{◌≡◌, ℕ, ◌<◌, true, length, ap, sym, subst, ◌∙◌, arith, to_z, of_z}
use Rattle.std.specs.Prelude.{◌+◌, ℤ, pos, neg_ℤ, ◌-ℤ◌, All}
use mir.Syntax.{w128}
use Rattle.std.proofs.lemmas.Int.{ints}
use Rattle.problem_model.specs.Executions.{at}
use Rattle.problem_model.specs.Numbers.{IsUpTo}
use Rattle.problem_model.specs.Tables.{ObeysAll}
use Rattle.problem_model.specs.Limits.{path_bits, term_bits}
use Rattle.earliest.proofs.Bounds.{worth}
use Rattle.distances.specs.Searched.{Searched, IsSearch, table, height}
use Rattle.distances.proofs.Directions.{facing_below, facing_obeyed, at_small}

-- the values are small
pub search_small : (s : Searched) → IsSearch s → All (IsUpTo path_bits) s.values
search_small s ok = ok.small

-- the potential obeys the arcs
pub search_obeyed : (s : Searched) → IsSearch s → ObeysAll (table s) (height s)
search_obeyed s ok = facing_obeyed s.side s.graph s.values ok.obeyed

up_118 : (x : ℤ) → IsUpTo path_bits x → IsUpTo (path_bits + 3) x
up_118 x u = (omega (arith, ints, u.0), omega (arith, ints, u.1))

up_term : (x : ℤ) → IsUpTo path_bits x → IsUpTo term_bits x
up_term x u = (omega (arith, ints, u.0), omega (arith, ints, u.1))

less_115 : (x : ℤ) → IsUpTo path_bits x → IsUpTo path_bits (pos 0 -ℤ x)
less_115 x u = (omega (arith, ints, u.1), omega (arith, ints, u.0))

held : (x : ℤ) → IsUpTo path_bits x → IsUpTo term_bits (to_z w128 (of_z w128 x))
held x u = subst (IsUpTo term_bits) (sym (worth x (up_118 x u))) (up_term x u)

-- a value that the code reads
module _ (s : Searched) (ok : IsSearch s) (node : ℕ) (v : ℤ) (e : v ≡ at s.values node) where
  small_here : IsUpTo path_bits v
  small_here = subst (IsUpTo path_bits) (sym e) (at_small s.values (search_small s ok) node)

  pub value_small : IsUpTo term_bits (to_z w128 (of_z w128 v))
  value_small = held v small_here

  pub turned_value_small : IsUpTo term_bits (to_z w128 (of_z w128 (pos 0 -ℤ to_z w128 (of_z w128 v))))
  turned_value_small = subst (λ x. IsUpTo term_bits (to_z w128 (of_z w128 (pos 0 -ℤ x)))) (sym (worth v (up_118 v small_here))) (held (pos 0 -ℤ v) (less_115 v small_here))

  pub turned_value : to_z w128 (of_z w128 (pos 0 -ℤ to_z w128 (of_z w128 v))) ≡ neg_ℤ (at s.values node)
  turned_value =
      ap (λ x. to_z w128 (of_z w128 (pos 0 -ℤ x))) (worth v (up_118 v small_here)) ∙ worth (pos 0 -ℤ v) (up_118 (pos 0 -ℤ v) (less_115 v small_here))
      ∙ (let q : v ≡ at s.values node = e in omega (arith, ints))

-- an arc in force is one of the graph's
pub force_below : (s : Searched) → IsSearch s → (j : ℕ) → (table s).in_force j ≡ true → j < length s.graph.arcs
force_below s ok j f = facing_below s.side s.graph ok.graph j f
