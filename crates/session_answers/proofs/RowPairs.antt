-- What two rows tell of a node are its greatest differences, which are one pair.
use Rattle.std.proofs.Common.{◌≡◌, ℕ, ◌<◌, Bool, true, false, List, [], length, Option, Some, None, refl, sym, ◌∙◌, ap, subst}
use Rattle.std.specs.Prelude.{ℤ, All}
use Rattle.std.proofs.lemmas.List.Elements.{All-head}
use Rattle.std.proofs.lemmas.Option.{none-some, same_Some}
use Rattle.problem_model.specs.Executions.{IsExecution}
use Rattle.problem_model.specs.Parents.{IsRow}
use Rattle.problem_model.specs.Tables.{reversed_table}
use Rattle.problem_model.proofs.Parents.{row_greatest, row_unbounded, towards_row_greatest, towards_row_unbounded}
use Rattle.problem_model.proofs.Paths.{greatest_one, unbounded_not_greatest}
use Rattle.sync_graph.specs.Graph.{GraphLists, IsGraph, table_of}
use Rattle.sync_graph.specs.InForce.{arcs_of}
use Rattle.sync_graph.proofs.InForce.{arcs_listed, arcs_within}
use Rattle.row_pool.specs.declared.cell.Cell.{Cell}
use Rattle.row_pool.specs.declared.cell.Reach.{Reach}
use Rattle.row_pool.specs.declared.cell.Reach.TheVariants.{At, Never}
use Rattle.row_pool.specs.declared.cell.Pair.{Pair}
use Rattle.row_pool.specs.Row.{cells_of}
use Rattle.row_pool.specs.Pool.{row_of}
use Rattle.row_pool.specs.Reach.{known_reach}
use Rattle.distances.specs.Reaches.{IsReachIn}
use Rattle.repair.specs.declared.slot.Slot.{Slot}
use Rattle.repair.specs.Slots.{IsRowsOf, behind}
use Rattle.repair.specs.Pairs.{IsPairIn}
use Rattle.solver.specs.Solver.{SolverLists}
use Rattle.solver.specs.Current.{IsCurrent, IsSolvedNow}
use Rattle.solver.proofs.Staying.{solved_now}
use Rattle.session_answers.specs.Quantities.{pair_by, pair_for, source_pair}

-- ---- the pair that rows tell
module _ (g : GraphLists) (is : IsGraph g) (xs : List ℤ) (executes : IsExecution (length g.nodes) (arcs_of g) xs) (p : ℕ) (from to : List Cell)
    (out : IsRow (length g.nodes) (table_of g) p (cells_of from)) (back : IsRow (length g.nodes) (reversed_table (table_of g)) p (cells_of to)) where
  up_by : (q : ℕ) → q < length g.nodes → (known : Bool) → (cells_of from).known q ≡ known → IsReachIn g p q (known_reach known ((cells_of from).value q))
  up_by q below true known = row_greatest (length g.nodes) (table_of g) (arcs_of g) p (cells_of from) (arcs_listed g is) out xs (arcs_within g is) executes q known
  up_by q below false known = row_unbounded (length g.nodes) (table_of g) (arcs_of g) p (cells_of from) (arcs_listed g is) out xs (arcs_within g is) executes q below known

  down_by : (q : ℕ) → q < length g.nodes → (known : Bool) → (cells_of to).known q ≡ known → IsReachIn g q p (known_reach known ((cells_of to).value q))
  down_by q below true known = towards_row_greatest (length g.nodes) (table_of g) (arcs_of g) p (cells_of to) (arcs_listed g is) back xs (arcs_within g is) executes q known
  down_by q below false known = towards_row_unbounded (length g.nodes) (table_of g) (arcs_of g) p (cells_of to) (arcs_listed g is) back xs (arcs_within g is) executes q below known

  pub rows_told : (q : ℕ) → IsPairIn g p q (pair_by from to q)
  rows_told q = record {
    up = λ below. up_by q below ((cells_of from).known q) refl;
    down = λ below. down_by q below ((cells_of to).known q) refl;
    past = λ beyond. (ap (λ (b : Bool). known_reach b ((cells_of from).value q)) (out.past q beyond), ap (λ (b : Bool). known_reach b ((cells_of to).value q)) (back.past q beyond));
  }

-- ---- there is one pair
one_reach : (g : GraphLists) (p q : ℕ) (a b : Reach) → IsReachIn g p q a → IsReachIn g p q b → a ≡ b
one_reach g p q (At a) (At b) is is' = ap (λ (h : ℤ). At h) (greatest_one (length g.nodes) (arcs_of g) p q a b is is')
one_reach g p q (At a) Never is is' = absurd (unbounded_not_greatest (length g.nodes) (arcs_of g) p q a is' is)
one_reach g p q Never (At b) is is' = absurd (unbounded_not_greatest (length g.nodes) (arcs_of g) p q b is is')
one_reach g p q Never Never is is' = refl

pub one_pair : (g : GraphLists) (p q : ℕ) (a b : Pair) → q < length g.nodes → IsPairIn g p q a → IsPairIn g p q b → a ≡ b
one_pair g p q a b below is is' =
    let up : a.up ≡ b.up = one_reach g p q a.up b.up (is.up below) (is'.up below) in
    let down : a.down ≡ b.down = one_reach g q p a.down b.down (is.down below) (is'.down below) in
    ap (λ (r : Reach). let pair : Pair = record { up = r; down = a.down } in pair) up ∙ ap (λ (r : Reach). let pair : Pair = record { up = b.up; down = r } in pair) down

-- ---- the rows of the source
-- its slot is the first one of all
source_first : (Has : Slot → Type 0) (source : Option Slot) (slots : List Slot) (slot : Slot) → source ≡ Some slot → All Has (behind source slots) → Has slot
source_first Has None slots slot is all = absurd (none-some slot is)
source_first Has (Some source) slots slot is all = subst Has (same_Some source slot is) (All-head Has source slots all)

module _ (s : SolverLists) (current : IsCurrent s) (none : s.contradiction ≡ []) (slot : Slot) (kept : s.kept.source ≡ Some slot) where
  now : IsSolvedNow s
  now = solved_now s current none

  its_rows : IsRowsOf (length s.graph.nodes) (table_of s.graph) s.pool slot
  its_rows = source_first (IsRowsOf (length s.graph.nodes) (table_of s.graph) s.pool) s.kept.source s.kept.slots slot kept now.rows

  pub source_told : (q : ℕ) → IsPairIn s.graph slot.node q (source_pair s q)
  source_told q =
      subst (IsPairIn s.graph slot.node q) (sym (ap (λ (source : Option Slot). pair_for source s.pool q) kept))
      (rows_told s.graph current.set_up.graph s.earliest.values now.earliest.execution slot.node (row_of s.pool slot.from) (row_of s.pool slot.to) its_rows.from its_rows.to q)

  -- whatever is told of the source's node is what its rows tell
  pub source_is : (q : ℕ) (pair : Pair) → q < length s.graph.nodes → IsPairIn s.graph slot.node q pair → pair ≡ source_pair s q
  source_is q pair below is = one_pair s.graph slot.node q pair (source_pair s q) below is (source_told q)
