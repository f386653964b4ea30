-- The arcs in force of a graph, by number and as a list.
use Rattle.std.proofs.Common.{◌≡◌, ◌<◌, ◌≤◌, ℕ, true, false, length, get_or, subst, arith, inl, inr, pos}
use Rattle.std.proofs.lemmas.Bool.{cases_lt}
use Rattle.std.proofs.lemmas.List.{get_or_past}
use Rattle.std.proofs.lemmas.List.Elements.{Contains-get_or}
use Rattle.problem_model.specs.declared.items.Bound.TheVariants.{Late}
use Rattle.problem_model.specs.Executions.{AreWithin}
use Rattle.problem_model.specs.Tables.{Lists}
use Rattle.problem_model.proofs.Tables.{lists_listed}
use Rattle.problem_model.proofs.SimplePaths.{pigeons}
use Rattle.sync_graph.specs.declared.arc.Arc.{Arc}
use Rattle.sync_graph.specs.Graph.{GraphLists, IsGraph, table_of}
use Rattle.sync_graph.specs.Lists.{list_at, entry_at}
use Rattle.sync_graph.specs.InForce.{arcs_of}

-- what stands behind the last arc
abbrev pub no_arc : Arc
no_arc = record { from = 0; to = 0; weight = pos 0; name = Late 0 }

module _ (g : GraphLists) (is : IsGraph g) where
  -- an arc in force has a number
  pub in_force_below : (j : ℕ) → (table_of g).in_force j ≡ true → j < length g.arcs
  in_force_below j f = elim (cases_lt j (length g.in_force)) [
    | inl l ↦ omega (arith, is.flags)
    | inr l ↦ absurd (let e : get_or g.in_force j false ≡ false = get_or_past g.in_force j false l in let z : ⊥ = cc in z)
  ]

  pub arcs_listed : Lists (table_of g) (arcs_of g)
  arcs_listed = lists_listed (table_of g) (length g.arcs) in_force_below

  pub arcs_within : AreWithin (length g.nodes) (arcs_of g)
  arcs_within k d inside =
      let r = arcs_listed.only (get_or (arcs_of g) k d) (Contains-get_or (arcs_of g) k d inside) in
      let sound = is.sound r.0 no_arc (in_force_below r.0 r.1) in
      subst (λ a. (a.from < length g.nodes) × (a.to < length g.nodes)) r.2 (sound.from, sound.to)

  -- no list is longer than there are arcs
  pub leaving_few : (node : ℕ) → length (list_at g.leaving node) ≤ length g.arcs
  leaving_few node = elim (cases_lt (length g.arcs) (length (list_at g.leaving node))) [
    | inl l ↦
        let n : length g.arcs < length g.arcs = pigeons (length g.arcs) (length g.arcs) (λ i. entry_at g.leaving node i)
        (λ i li. in_force_below (entry_at g.leaving node i) (is.out.only node i (omega arith)).0)
        (λ i j li lj e. is.out.once node i j (omega arith) (omega arith) e) in
        omega arith
    | inr l ↦ l
  ]

  pub arriving_few : (node : ℕ) → length (list_at g.arriving node) ≤ length g.arcs
  arriving_few node = elim (cases_lt (length g.arcs) (length (list_at g.arriving node))) [
    | inl l ↦
        let n : length g.arcs < length g.arcs = pigeons (length g.arcs) (length g.arcs) (λ i. entry_at g.arriving node i)
        (λ i li. in_force_below (entry_at g.arriving node i) (is.into.only node i (omega arith)).0)
        (λ i j li lj e. is.into.once node i j (omega arith) (omega arith) e) in
        omega arith
    | inr l ↦ l
  ]
