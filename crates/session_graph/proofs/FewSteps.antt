-- An addition takes few steps: arcs go, and then others come.
use Rattle.std.proofs.Common.{◌≡◌, ◌<◌, ◌≤◌, ◌+◌, ◌*◌, ℕ, zero, suc, Bool, true, false, List, [], ◌∷◌, length, map, get_or, Contains, refl, sym, ◌∙◌, ap, subst, arith, inl, inr}
use Rattle.std.specs.Prelude.{ℤ, sum_by}
use Rattle.std.proofs.lemmas.Bool.{cases_Bool}
use Rattle.std.proofs.lemmas.List.{ext_get_or, get_or_append_left}
use Rattle.std.proofs.lemmas.List.Elements.{All-contains, Contains-append_cases, Contains-append_left, Contains-append_right}
use Rattle.std.proofs.lemmas.List.Sums.{sum_by-le-sum_by}
use Rattle.traces.proofs.Members.{here}
use Rattle.problem_model.specs.Executions as bounds
use Rattle.problem_model.specs.Executions.{at}
use Rattle.problem_model.specs.Tables.{ArcTable, arcs_among, reversed_table}
use Rattle.problem_model.specs.Reversal.{reversed}
use Rattle.problem_model.specs.Parents.{Cells}
use Rattle.withdrawals.specs.Withdrawals.{IsAffected, flagged_sum}
use Rattle.withdrawals.specs.Regrowths.{MeetsRemoved, IsAffectedIn}
use Rattle.sync_graph.specs.declared.arc.Arc.{Arc}
use Rattle.sync_graph.specs.Graph.{IsGraph, table_of, unnamed, arc_at, reaching, departing}
use Rattle.sync_graph.specs.InForce.{arcs_of}
use Rattle.sync_graph.proofs.InForce.{no_arc, in_force_below}
use Rattle.earliest.specs.Withdrawn.{arcs_before}
use Rattle.row_pool.specs.Row.{cells_of}
use Rattle.row_pool.specs.Pool.{row_of}
use Rattle.repair.specs.RowWithdrawals.{IsRemoved}
use Rattle.repair.specs.declared.slot.Slot.{Slot}
use Rattle.repair.specs.Slots.{all_slots}
use Rattle.repair.specs.Withdrawals.{MarksAffected, steps_of_marked, withdrawal_steps}
use Rattle.solver.specs.Solver.{SolverLists}
use Rattle.solver.specs.Current.{IsCurrent}
use Rattle.solver.specs.Costs.{MarksAll, withdrawing_steps}
use Rattle.solver.specs.Withdrawn.{arcs_numbered}
use Rattle.roster.specs.Once.{IsOn}
use Rattle.session_graph.specs.Steps.{IsSolved, IsBetween, AllStay, AreGone, IsWithdrawingPart, TakesFewToAdd}
use Rattle.session_graph.specs.Extensions.{Extends, steps_of_stages, TakesFewToPush}
use Rattle.session_graph.specs.Cuts.{CutsInFewSteps}
use Rattle.session_graph.proofs.Flags.{stays_off, off_in}
use Rattle.session_graph.proofs.ToldArcs.{mapped, map_has}
use Rattle.session_graph.proofs.Later.{GoesOn, none_against, flags_more}
use Rattle.session_graph.proofs.Extending.{nothing_more, goes_on, departing_more, reaching_more, no_steps}
use Rattle.session_graph.proofs.Bringing.{on_inside}

-- ---- where there is an execution
solved_as : (s : SolverLists) → IsCurrent s → s.earliest.is_solved ≡ true → IsSolved s
solved_as s current is = elim current.answer [
  | inl now ↦ record { graph = current.set_up.graph; now = now }
  | inr held ↦ absurd (let e = held.unsolved in let z : ⊥ = cc in z)
]

-- ---- affected nodes, where more is removed
pub affected_more : (arcs arcs' removed removed' : List bounds.Arc) (x : ℕ → ℤ) (k : ℕ) → ((a : bounds.Arc) → Contains arcs a → Contains arcs' a) → ((a : bounds.Arc) → Contains removed a → Contains removed' a)
    → IsAffected arcs removed x k → IsAffected arcs' removed' x k
affected_more arcs arcs' removed removed' x k more more' is = record {
  steps = is.steps;
  last = is.last;
  chain = record { within = λ i d inside. more (get_or is.steps i d) (is.chain.within i d inside); joined = is.chain.joined };
  along = is.along;
  is_removed = more' is.last is.is_removed;
  exact = is.exact;
}

meets_more : (table table' : ArcTable) (removed removed' : ℕ → Type 0) (p : ℕ) (row : Cells) → ((j : ℕ) → table'.arc j ≡ table.arc j) → ((j : ℕ) → removed j → removed' j) → (n k : ℕ)
    → MeetsRemoved table removed p row n k → MeetsRemoved table' removed' p row n k
meets_more table table' removed removed' p row same more zero k (other, is) = (other, more (row.parent k) is)
meets_more table table' removed removed' p row same more (suc n) k (other, rest) =
    (other, subst (λ (m : ℕ). MeetsRemoved table' removed' p row n m) (ap (λ (a : bounds.Arc). a.from) (sym (same (row.parent k)))) (meets_more table table' removed removed' p row same more n (table.arc (row.parent k)).from rest))

pub affected_in_more : (table table' : ArcTable) (removed removed' : ℕ → Type 0) (p : ℕ) (row : Cells) (k : ℕ) → ((j : ℕ) → table'.arc j ≡ table.arc j) → ((j : ℕ) → removed j → removed' j)
    → IsAffectedIn table removed p row k → IsAffectedIn table' removed' p row k
affected_in_more table table' removed removed' p row k same more is = record { known = is.known; steps = is.steps; meets = meets_more table table' removed removed' p row same more is.steps k is.meets }

-- ---- the graph between is the one from which arcs went
same_flags : (a b : Bool) → (a ≡ true → b ≡ true) → (b ≡ true → a ≡ true) → a ≡ b
same_flags true b to from = sym (to refl)
same_flags false true to from = from refl
same_flags false false to from = refl

none_left : (numbers : List ℕ) → ((k : ℕ) → Contains numbers k → ⊥) → numbers ≡ []
none_left [] none = refl
none_left (k ∷ numbers) none = absurd (none k (here k numbers))

module _ (before mid after : SolverLists) (first last : ℕ) (was : IsGraph before.graph) (cut : CutsInFewSteps before mid first last) (is_mid : IsGraph mid.graph) (grows : Extends mid after) where
  -- what is off in between does not come back
  on_before : (k : ℕ) → k < length mid.graph.in_force → IsOn after.graph k → IsOn mid.graph k
  on_before k inside on =
      sym (get_or_append_left mid.graph.in_force grows.in_force.0 false k inside) ∙ ap (λ (flags : List Bool). get_or flags k false) (sym grows.in_force.1) ∙ on

  flags_inside : (k : ℕ) → IsOn before.graph k → k < length mid.graph.in_force
  flags_inside k on =
      let inside : k < length before.graph.arcs = on_inside before.graph k was.flags on in
      let same : length mid.graph.arcs ≡ length before.graph.arcs = ap length cut.arcs in
      let flags : length mid.graph.in_force ≡ length mid.graph.arcs = is_mid.flags in
      omega (arith, inside, same, flags)

  was_on : (k : ℕ) → IsOn mid.graph k → IsOn before.graph k
  was_on k on = elim (cases_Bool (get_or before.graph.in_force k false)) [
    | inl yes' ↦ yes'
    | inr off ↦ absurd (
        let none : get_or mid.graph.in_force k false ≡ false = ap (λ (flags : List Bool). get_or flags k false) cut.in_force ∙ stays_off before.graph.in_force cut.numbers k off in
        let z : ⊥ = cc in z)
  ]

  gone_off : (k : ℕ) → Contains cut.numbers k → IsOn before.graph k × (IsOn after.graph k → ⊥)
  gone_off k among =
      let on : IsOn before.graph k = All-contains (IsOn before.graph) cut.numbers k cut.were among in (
        on,
        λ later.
            let still : IsOn mid.graph k = on_before k (flags_inside k on) later in
            let off : get_or mid.graph.in_force k false ≡ false = ap (λ (flags : List Bool). get_or flags k false) cut.in_force ∙ off_in before.graph.in_force cut.numbers k among in
            let z : ⊥ = cc in z,
      )

  -- where all stay, none went
  none_went : AllStay before after → cut.numbers ≡ []
  none_went stay = none_left cut.numbers (λ k among. (let off = gone_off k among in off.1 (stay k off.0)))

  -- the state from which they went is such a state between
  pub mid_between : IsSolved mid → IsBetween before after mid
  mid_between solved = record {
    solved = solved;
    nodes = cut.nodes;
    arcs = cut.arcs;
    in_force = λ k on. (was_on k on, (goes_on mid after grows is_mid k on).0);
    all = λ k on later. on_before k (flags_inside k on) later;
    slots = cut.slots;
    source = cut.source;
  }

  module _ (between : SolverLists) (is : IsBetween before after between) where
    same_in_force : mid.graph.in_force ≡ between.graph.in_force
    same_in_force =
        ext_get_or false mid.graph.in_force between.graph.in_force (is_mid.flags ∙ ap length (cut.arcs ∙ sym is.arcs) ∙ sym is.solved.graph.flags)
        (λ k inside. same_flags (get_or mid.graph.in_force k false) (get_or between.graph.in_force k false)
        (λ on. is.all k (was_on k on) (goes_on mid after grows is_mid k on).0)
        (λ on. on_before k inside (is.in_force k on).1))

    same_arcs : mid.graph.arcs ≡ between.graph.arcs
    same_arcs = cut.arcs ∙ sym is.arcs

    same_nodes : mid.graph.nodes ≡ between.graph.nodes
    same_nodes = cut.nodes ∙ sym is.nodes

    extends_back : Extends mid between
    extends_back = record {
      nodes = nothing_more mid.graph.nodes between.graph.nodes (sym same_nodes);
      arcs = nothing_more mid.graph.arcs between.graph.arcs (sym same_arcs);
      in_force = nothing_more mid.graph.in_force between.graph.in_force (sym same_in_force);
      slots = is.slots ∙ sym cut.slots;
      source = is.source ∙ sym cut.source;
    }

    -- ---- the withdrawing part
    module _ (removed : List Arc) (gone : AreGone before after removed) (marked : ℕ → Bool) (marks : ℕ → ℕ → Bool) (all : MarksAll before between removed marked marks) where
      abbrev went : List Arc
      went = arcs_numbered before.graph cut.numbers

      removed_too : (a : Arc) → Contains went a → Contains removed a
      removed_too a among =
          let (k, number, is_a) = mapped (arc_at before.graph.arcs) cut.numbers a among in
          let off = gone_off k number in
          subst (Contains removed) is_a (gone.all k off.0 off.1)

      unnamed_too : (a : bounds.Arc) → Contains (map unnamed went) a → Contains (map unnamed removed) a
      unnamed_too a among =
          let (b, here_b, is_a) = mapped unnamed went a among in
          subst (Contains (map unnamed removed)) is_a (map_has unnamed removed b (removed_too b here_b))

      arcs_same : arcs_of mid.graph ≡ arcs_of between.graph
      arcs_same =
          ap (λ (arcs : List Arc). arcs_among (record { arc = λ k. unnamed (arc_at arcs k); in_force = λ k. get_or mid.graph.in_force k false }) (length arcs)) same_arcs
          ∙ ap (λ (flags : List Bool). arcs_among (record { arc = λ k. unnamed (arc_at between.graph.arcs k); in_force = λ k. get_or flags k false }) (length between.graph.arcs)) same_in_force

      arcs_too : (a : bounds.Arc) → Contains (arcs_before mid.graph went) a → Contains (arcs_before between.graph removed) a
      arcs_too a among = elim (Contains-append_cases (arcs_of mid.graph) (map unnamed went) a among) [
        | inl front ↦ Contains-append_left (arcs_of between.graph) (map unnamed removed) a (subst (λ (arcs : List bounds.Arc). Contains arcs a) arcs_same front)
        | inr rest ↦ Contains-append_right (arcs_of between.graph) (map unnamed removed) a (unnamed_too a rest)
      ]

      arc_same : (j : ℕ) → arc_at between.graph.arcs j ≡ arc_at mid.graph.arcs j
      arc_same j = ap (λ (arcs : List Arc). arc_at arcs j) (sym same_arcs)

      is_removed_too : (j : ℕ) → IsRemoved mid.graph went j → IsRemoved between.graph removed j
      is_removed_too j among = subst (Contains removed) (sym (arc_same j)) (removed_too (arc_at mid.graph.arcs j) among)

      marks_slot : (slot : Slot) → MarksAffected between.graph removed before.pool marks slot → MarksAffected mid.graph went before.pool marks slot
      marks_slot slot m = record {
        from = λ k affected. m.from k (affected_in_more (table_of mid.graph) (table_of between.graph) (IsRemoved mid.graph went) (IsRemoved between.graph removed) slot.node (cells_of (row_of before.pool slot.from)) k
            (λ j. ap unnamed (arc_same j)) is_removed_too affected);
        to = λ k affected. m.to k (affected_in_more (reversed_table (table_of mid.graph)) (reversed_table (table_of between.graph)) (IsRemoved mid.graph went) (IsRemoved between.graph removed) slot.node (cells_of (row_of before.pool slot.to)) k
            (λ j. ap (λ (a : Arc). reversed (unnamed a)) (arc_same j)) is_removed_too affected);
      }

      marks_went : MarksAll before mid went marked marks
      marks_went = record {
        values = λ k affected. all.values k (affected_more (arcs_before mid.graph went) (arcs_before between.graph removed) (map unnamed went) (map unnamed removed) (at before.earliest.values) k arcs_too unnamed_too affected);
        rows = λ k d inside. marks_slot (get_or (all_slots before.kept) k d) (all.rows k d inside);
      }

      marked_fewer : (flags : ℕ → Bool) → steps_of_marked mid.graph flags ≤ steps_of_marked between.graph flags
      marked_fewer flags =
          let nodes : length mid.graph.nodes ≡ length between.graph.nodes = ap length same_nodes in
          let sum : flagged_sum (length mid.graph.nodes) (λ k. 2 * (reaching mid.graph k + departing mid.graph k) + 5) flags
          ≤ flagged_sum (length between.graph.nodes) (λ k. 2 * (reaching between.graph k + departing between.graph k) + 5) flags =
          flags_more (length mid.graph.nodes) (length between.graph.nodes) (λ k. 2 * (reaching mid.graph k + departing mid.graph k) + 5) (λ k. 2 * (reaching between.graph k + departing between.graph k) + 5) flags flags
          (omega (arith, nodes)) (λ k inside flag. (flag, each k)) in
          omega (arith, sum)
        where
          each : (k : ℕ) → 2 * (reaching mid.graph k + departing mid.graph k) + 5 ≤ 2 * (reaching between.graph k + departing between.graph k) + 5
          each k =
              let one : reaching mid.graph k ≤ reaching between.graph k = reaching_more mid between extends_back is_mid is.solved.graph k in
              let two : departing mid.graph k ≤ departing between.graph k = departing_more mid between extends_back is_mid is.solved.graph k in
              omega (arith, one, two)

      pub withdrawing_fewer : withdrawing_steps before mid marked marks ≤ withdrawing_steps before between marked marks
      withdrawing_fewer =
          let values = marked_fewer marked in
          let rows : sum_by (withdrawal_steps mid.graph marks) (all_slots before.kept) ≤ sum_by (withdrawal_steps between.graph marks) (all_slots before.kept) =
          sum_by-le-sum_by (withdrawal_steps mid.graph marks) (withdrawal_steps between.graph marks) (all_slots before.kept)
          (λ slot. (let from = marked_fewer (marks slot.from) in let to = marked_fewer (marks slot.to) in omega (arith, from, to))) in
          omega (arith, values, rows)

    pub cut_few : (part : ℕ) → before.earliest.is_solved ≡ true → IsWithdrawingPart before after between part → last ≤ first + part
    cut_few part solved is_part = elim is_part [
      | inl none ↦ (let same : last ≡ first = cut.none (none_went none.0) in omega (arith, same))
      | inr sum ↦
          let some : last ≤ first + withdrawing_steps before mid sum.marked sum.marks = cut.few solved sum.marked sum.marks (marks_went sum.removed sum.gone sum.marked sum.marks sum.all) in
          let fewer : withdrawing_steps before mid sum.marked sum.marks ≤ withdrawing_steps before between sum.marked sum.marks = withdrawing_fewer sum.removed sum.gone sum.marked sum.marks sum.all in
          let whole : part ≡ withdrawing_steps before between sum.marked sum.marks = sum.sum in
          omega (arith, some, fewer, whole)
    ]

-- ---- the whole
pub some_between : (before mid after : SolverLists) (first last : ℕ) → IsCurrent before → CutsInFewSteps before mid first last → IsCurrent mid → Extends mid after → before.earliest.is_solved ≡ true
    → (between : SolverLists) × IsBetween before after between
some_between before mid after first last was cut is_mid grows solved =
    (mid, mid_between before mid after first last was.set_up.graph cut is_mid.set_up.graph grows (solved_as mid is_mid (cut.solved solved)))

-- where nothing comes there is an execution still
pub still_solved : (mid after : SolverLists) → IsSolved mid → IsCurrent after → Extends mid after → length after.graph.arcs ≤ length mid.graph.arcs → after.earliest.is_solved ≡ true
still_solved mid after solved now grows few = elim now.answer [
  | inl held ↦ held.solved
  | inr held ↦ absurd (none_against after.graph mid.graph now.set_up.graph solved.graph goes mid.earliest.values solved.now.earliest (map unnamed after.contradiction) held.cycle.contradiction)
]
  where
    goes : GoesOn (table_of after.graph) (table_of mid.graph)
    goes j on =
        let below : j < length after.graph.arcs = in_force_below after.graph now.set_up.graph j on in
        let inside : j < length mid.graph.arcs = omega (arith, below, few) in
        let flags : length mid.graph.in_force ≡ length mid.graph.arcs = solved.graph.flags in (
          sym (get_or_append_left mid.graph.in_force grows.in_force.0 false j (omega (arith, inside, flags))) ∙ ap (λ (fs : List Bool). get_or fs j false) (sym grows.in_force.1) ∙ on,
          ap unnamed (sym (get_or_append_left mid.graph.arcs grows.arcs.0 no_arc j inside) ∙ ap (λ (arcs : List Arc). arc_at arcs j) (sym grows.arcs.1)),
        )

-- an addition without events takes no step
pub none_few : (events : ℕ) (before mid after : SolverLists) (first last : ℕ) → IsCurrent before → IsCurrent mid → mid ≡ before → Extends mid after → IsCurrent after → length after.graph.arcs ≤ length before.graph.arcs + 8 * events → events ≡ 0
    → after.kept.source ≡ before.kept.source → TakesFewToAdd events before after first last → before.earliest.is_solved ≡ true → last ≤ first
none_few events before mid after first last was is_mid same grows now arcs none source few solved =
    let solved_mid : IsSolved mid = solved_as mid is_mid (ap (λ (s : SolverLists). s.earliest.is_solved) same ∙ solved) in
    let as_many : length mid.graph.arcs ≡ length before.graph.arcs = ap (λ (s : SolverLists). length s.graph.arcs) same in
    let after_solved : after.earliest.is_solved ≡ true = still_solved mid after solved_mid now grows (omega (arith, arcs, none, as_many)) in
    let stay : AllStay before after = λ k on. (goes_on mid after grows is_mid.set_up.graph k (ap (λ (s : SolverLists). get_or s.graph.in_force k false) same ∙ on)).0 in
    let adds = few solved after_solved source in
    let as_before : length adds.start.graph.arcs ≡ length before.graph.arcs = ap (λ (arcs' : List Arc). length arcs') adds.is_between.arcs in
    let nothing : steps_of_stages adds.start adds.stages ≡ 0 = no_steps adds.start after adds.stages adds.lead (omega (arith, arcs, none, as_before)) in
    let most : last ≤ first + 0 + steps_of_stages adds.start adds.stages = adds.few adds.start 0 adds.is_between (inl (stay, refl)) in
    omega (arith, nothing, most)

pub added_few : (events : ℕ) (before mid after : SolverLists) (first then last : ℕ) → IsCurrent before → CutsInFewSteps before mid first then → IsCurrent mid → Extends mid after → TakesFewToPush mid after then last
    → length after.graph.arcs ≤ length before.graph.arcs + 8 * events → TakesFewToAdd events before after first last
added_few events before mid after first then last was cut is_mid grows brings arcs = λ solved_before solved_after source. record {
  start = mid;
  is_between = mid_between before mid after first then was.set_up.graph cut is_mid.set_up.graph grows (solved_as mid is_mid (cut.solved solved_before));
  stages = brings.stages;
  lead = brings.lead;
  arcs = arcs;
  few = λ between part is is_part.
      let cheap : then ≤ first + part = cut_few before mid after first then was.set_up.graph cut is_mid.set_up.graph grows between is part solved_before is_part in
      let few : last ≤ then + steps_of_stages mid brings.stages = brings.few in
      omega (arith, cheap, few);
}
