-- What is held stays current as room comes.
use Rattle.std.proofs.Common.{◌≡◌, ◌≤◌, ◌+◌, ℕ, true, false, List, [], max, refl, sym, subst, ◌∙◌, inl, inr, arith}
use Rattle.std.specs.Prelude.{pos, ◌<ℤ◌, map}
use Rattle.std.proofs.lemmas.Int.{ints}
use Rattle.problem_model.specs.Paths.{sum_of}
use Rattle.sync_graph.specs.declared.arc.Arc.{Arc}
use Rattle.sync_graph.specs.Graph.{unnamed}
use Rattle.std.proofs.Math.Nat.{le-max_left}
use Rattle.sync_graph.specs.InForce.{IsEarliestOf}
use Rattle.row_pool.specs.Pool.{Pool, grown}
use Rattle.repair.specs.Slots.{KeptRows, with_room, AreOwnRows, AreRowsOf, AreNodes}
use Rattle.solver.specs.Solver.{SolverLists}
use Rattle.solver.specs.Current.{IsSolvedNow, IsContradicted, IsSetUp, IsCurrent}
use Rattle.solver.specs.Changes.{StaysCurrent, LeavesAnswer}

-- ---- other rows, another room
-- the same graph and answer, with these rows and a frontier with this room
abbrev pub with_rows : SolverLists → Pool → KeptRows → ℕ → SolverLists
with_rows s pool kept front = record { graph = s.graph; earliest = s.earliest; contradiction = s.contradiction; pool = pool; kept = kept; front = front }

module _ (s : SolverLists) (current : IsCurrent s) (pool : Pool) (kept : KeptRows) (front : ℕ)
    (own : AreOwnRows kept pool)
    (nodes : AreNodes s.graph kept)
    (present : kept.present ≡ s.kept.present)
    (rows : s.earliest.is_solved ≡ true → AreRowsOf s.graph kept pool)
    (wide : s.pool.width ≤ pool.width)
    (found : s.kept.room ≤ kept.room)
    (long : s.front ≤ front)
  where
    set_up_with_rows : IsSetUp (with_rows s pool kept front)
    set_up_with_rows = record {
      graph = current.set_up.graph;
      one_each = current.set_up.one_each;
      own = own;
      nodes = nodes;
      room = record {
        rows = omega (arith, current.set_up.room.rows, wide);
        found = omega (arith, current.set_up.room.found, found);
        front = omega (arith, current.set_up.room.front, long);
      };
    }

    pub current_with_rows : IsCurrent (with_rows s pool kept front)
    current_with_rows = record {
      set_up = set_up_with_rows;
      answer = elim current.answer [
        | inl now ↦ inl (record { solved = now.solved; earliest = now.earliest; none = now.none; present = present ∙ now.present; rows = rows now.solved })
        | inr held ↦ inr (record { unsolved = held.unsolved; cycle = held.cycle; absent = present ∙ held.absent })
      ];
    }

-- other rows are held, and the graph with what is known of it stays
pub stays_with_rows : (s : SolverLists) (pool : Pool) (kept : KeptRows) (front : ℕ) → front ≡ s.front → IsCurrent (with_rows s pool kept front) → StaysCurrent s (with_rows s pool kept front)
stays_with_rows s pool kept front room current = record { answer = record { graph = refl; earliest = refl; contradiction = refl }; room = room; current = current }

-- where nothing is done all stays
pub leaves_all : (s : SolverLists) → IsCurrent s → LeavesAnswer s s
leaves_all s current = record {
  answer = record { graph = refl; earliest = refl; contradiction = refl };
  kept = refl;
  rows = record { width = refl; count = refl; taken = λ k. refl; cells = λ k taken. refl; free = refl };
  room = refl;
  current = current;
}

pub rows_now : (s : SolverLists) → IsCurrent s → s.earliest.is_solved ≡ true → AreRowsOf s.graph s.kept s.pool
rows_now s current solved = elim current.answer [
  | inl now ↦ now.rows
  | inr held ↦ absurd (let unsolved : s.earliest.is_solved ≡ false = held.unsolved in cc)
]

pub earliest_now : (s : SolverLists) → IsCurrent s → s.earliest.is_solved ≡ true → IsEarliestOf s.graph s.earliest.values
earliest_now s current solved = elim current.answer [
  | inl now ↦ now.earliest
  | inr held ↦ absurd (let unsolved : s.earliest.is_solved ≡ false = held.unsolved in cc)
]

-- room at the frontier, in the list for withdrawals, and in rows
pub front_step : (s : SolverLists) → IsCurrent s → (front n : ℕ) → front ≡ s.front + n → IsCurrent (with_rows s s.pool s.kept front)
front_step s current front n is =
    current_with_rows s current s.pool s.kept front current.set_up.own current.set_up.nodes refl (rows_now s current) (omega arith) (omega arith) (omega (arith, is))

pub found_step : (s : SolverLists) → IsCurrent s → (kept : KeptRows) (n : ℕ) → kept ≡ with_room s.kept (max s.kept.room n) → IsCurrent (with_rows s s.pool kept s.front)
found_step s current kept n is =
    subst (λ (k : KeptRows). IsCurrent (with_rows s s.pool k s.front)) (sym is)
    (current_with_rows s current s.pool (with_room s.kept (max s.kept.room n)) s.front current.set_up.own current.set_up.nodes refl (rows_now s current) (omega arith) (le-max_left s.kept.room n) (omega arith))

pub rows_step : (s : SolverLists) → IsCurrent s → (pool : Pool) (count nodes : ℕ) → pool ≡ grown s.pool count nodes
    → (AreOwnRows s.kept s.pool → AreOwnRows s.kept (grown s.pool count nodes))
    → (AreOwnRows s.kept s.pool → AreRowsOf s.graph s.kept s.pool → AreRowsOf s.graph s.kept (grown s.pool count nodes))
    → IsCurrent (with_rows s pool s.kept s.front)
rows_step s current pool count nodes is own rows =
    subst (λ (p : Pool). IsCurrent (with_rows s p s.kept s.front)) (sym is)
    (current_with_rows s current (grown s.pool count nodes) s.kept s.front (own current.set_up.own) current.set_up.nodes refl (λ solved. rows current.set_up.own (rows_now s current solved))
    (le-max_left s.pool.width nodes) (omega arith) (omega arith))

-- ---- which answer it is
pub solved_now : (s : SolverLists) → IsCurrent s → s.contradiction ≡ [] → IsSolvedNow s
solved_now s current none = elim current.answer [
  | inl now ↦ now
  | inr held ↦ absurd (
      let negative : sum_of (map unnamed []) <ℤ pos 0 = subst (λ (steps : List Arc). sum_of (map unnamed steps) <ℤ pos 0) none held.cycle.contradiction.negative in
      let zero_sum : pos 0 <ℤ pos 0 = negative in
      omega (arith, ints))
]

pub contradicted_now : (s : SolverLists) → IsCurrent s → (s.contradiction ≡ [] → ⊥) → IsContradicted s
contradicted_now s current some = elim current.answer [
  | inl now ↦ absurd (some now.none)
  | inr held ↦ held
]
