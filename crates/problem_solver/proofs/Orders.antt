-- An order of all arcs, where all are in force.
use Rattle.std.proofs.Common.{◌≡◌, ◌<◌, ◌+◌, ℕ, Bool, true, false, List, length, map, get_or, sym, ◌∙◌, ap, subst, arith, inl, inr}
use Rattle.std.specs.Prelude.{All, Contains}
use Rattle.std.specs.List.{range_with_len}
use Rattle.std.proofs.lemmas.Bool.{cases_lt}
use Rattle.std.proofs.lemmas.List.{length-map, get_or-map, get_or_past}
use Rattle.std.proofs.lemmas.List.FromFn.{length-range_with_len, get_or-range_with_len}
use Rattle.std.proofs.lemmas.List.Sorted.{All-permutation, Contains-permutation, length_permutation}
use Rattle.sync_graph.specs.declared.arc.Arc.{Arc}
use Rattle.sync_graph.specs.Graph.{GraphLists}
use Rattle.earliest.proofs.Bounds.{no_arc}
use Rattle.problem_solver.specs.Order.{AreAllArcs}

module _ (g : GraphLists) (order : List ℕ) (all : AreAllArcs g order) where
  pub order_long : length order ≡ length g.arcs
  order_long = length_permutation (range_with_len 0 (length g.arcs)) order all ∙ length-range_with_len 0 (length g.arcs)

  module _ (force : g.in_force ≡ map (λ (a : Arc). true) g.arcs) where
    flags : length g.in_force ≡ length g.arcs
    flags = ap length force ∙ length-map g.arcs (λ (a : Arc). true)

    flag_at : (k : ℕ) → k < length g.arcs → get_or g.in_force k false ≡ true
    flag_at k inside = ap (λ (fs : List Bool). get_or fs k false) force ∙ get_or-map (λ (a : Arc). true) g.arcs k no_arc false inside

    pub order_in_force : All (λ k. get_or g.in_force k false ≡ true) order
    order_in_force = All-permutation (λ k. get_or g.in_force k false ≡ true) (range_with_len 0 (length g.arcs)) order all
        (λ i d inside.
        let long : length (range_with_len 0 (length g.arcs)) ≡ length g.arcs = length-range_with_len 0 (length g.arcs) in
        let l : i < length g.arcs = omega (arith, long, inside) in
        subst (λ (k : ℕ). get_or g.in_force k false ≡ true) (sym (get_or-range_with_len 0 (length g.arcs) i d l)) (flag_at (0 + i) (omega (arith, l))))

    pub order_every : (k : ℕ) → get_or g.in_force k false ≡ true → Contains order k
    order_every k is = elim (cases_lt k (length g.arcs)) [
      | inl l ↦
          let long : length (range_with_len 0 (length g.arcs)) ≡ length g.arcs = length-range_with_len 0 (length g.arcs) in
          Contains-permutation (range_with_len 0 (length g.arcs)) order k all (k, omega (arith, long, l), get_or-range_with_len 0 (length g.arcs) k k l ∙ (let e : 0 + k ≡ k = omega arith in e))
      | inr le ↦
          let past : get_or g.in_force k false ≡ false = get_or_past g.in_force k false (omega (arith, flags, le)) in
          absurd cc
    ]
