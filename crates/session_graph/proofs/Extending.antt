-- A graph that only grows, and what each arc that comes may take.
use Rattle.std.proofs.Common.{◌≡◌, ◌<◌, ◌≤◌, ◌+◌, ℕ, Bool, true, false, List, [], ◌∷◌, ◌++◌, length, get_or, refl, sym, ◌∙◌, ap, subst, arith, inl, inr, length-append, append_assoc}
use Rattle.std.specs.Prelude.{if◌then◌else◌, nat_lt}
use Rattle.std.proofs.lemmas.Bool.{cases_Bool}
use Rattle.std.proofs.lemmas.List.{get_or_append_left}
use Rattle.problem_model.specs.declared.items.Node.{Node}
use Rattle.problem_model.specs.Tables.{reversed_table}
use Rattle.sync_graph.specs.declared.arc.Arc.{Arc}
use Rattle.sync_graph.specs.Graph.{GraphLists, IsGraph, table_of, unnamed, arc_at, with_arc, reaching, departing}
use Rattle.sync_graph.proofs.InForce.{no_arc, in_force_below}
use Rattle.solver.specs.Solver.{SolverLists, with_new_node}
use Rattle.solver.specs.Current.{IsCurrent}
use Rattle.solver.specs.Changes.{KeepsSlots}
use Rattle.solver.specs.Costs.{pushing_steps}
use Rattle.session_graph.specs.Extensions.{Extends, IsNextStage, LeadTo, stage_steps, steps_of_stages, TakesFewToPush}
use Rattle.session_graph.proofs.Later.{GoesOn, goes_reversed, list_longer}

-- ---- growing on
pub nothing_more : {X : Type 0} (xs ys : List X) → ys ≡ xs → (more : List X) × (ys ≡ xs ++ more)
nothing_more xs ys same = ([], same ∙ sym (append_nil xs))
  where
    append_nil : {X : Type 0} (xs : List X) → xs ++ [] ≡ xs
    append_nil [] = refl
    append_nil {X} (x ∷ xs) = ap (λ (ys : List X). x ∷ ys) (append_nil xs)

more_and_more : {X : Type 0} (xs ys zs : List X) → (more : List X) × (ys ≡ xs ++ more) → (more : List X) × (zs ≡ ys ++ more) → (more : List X) × (zs ≡ xs ++ more)
more_and_more {X} xs ys zs one two = (one.0 ++ two.0, two.1 ∙ ap (λ (us : List X). us ++ two.0) one.1 ∙ append_assoc xs one.0 two.0)

pub extends_itself : (s : SolverLists) → Extends s s
extends_itself s = record {
  nodes = nothing_more s.graph.nodes s.graph.nodes refl;
  arcs = nothing_more s.graph.arcs s.graph.arcs refl;
  in_force = nothing_more s.graph.in_force s.graph.in_force refl;
  slots = refl;
  source = refl;
}

pub extends_then : (a b c : SolverLists) → Extends a b → Extends b c → Extends a c
extends_then a b c one two = record {
  nodes = more_and_more a.graph.nodes b.graph.nodes c.graph.nodes one.nodes two.nodes;
  arcs = more_and_more a.graph.arcs b.graph.arcs c.graph.arcs one.arcs two.arcs;
  in_force = more_and_more a.graph.in_force b.graph.in_force c.graph.in_force one.in_force two.in_force;
  slots = two.slots ∙ one.slots;
  source = two.source ∙ one.source;
}

pub extends_by_node : (s : SolverLists) (n : Node) → Extends s (with_new_node s n)
extends_by_node s n = record {
  nodes = (n ∷ [], refl);
  arcs = nothing_more s.graph.arcs s.graph.arcs refl;
  in_force = nothing_more s.graph.in_force s.graph.in_force refl;
  slots = refl;
  source = refl;
}

pub extends_by_arc : (old new : SolverLists) (a : Arc) → new.graph ≡ with_arc old.graph a → KeepsSlots old new → Extends old new
extends_by_arc old new a is keeps = record {
  nodes = nothing_more old.graph.nodes new.graph.nodes (ap (λ (h : GraphLists). h.nodes) is);
  arcs = (a ∷ [], ap (λ (h : GraphLists). h.arcs) is);
  in_force = (true ∷ [], ap (λ (h : GraphLists). h.in_force) is);
  slots = keeps.slots;
  source = keeps.source;
}

-- ---- what goes on
module _ (old new : SolverLists) (grows : Extends old new) (is : IsGraph old.graph) where
  pub goes_on : GoesOn (table_of old.graph) (table_of new.graph)
  goes_on j on =
      let inside = in_force_below old.graph is j on in (
        ap (λ (flags : List Bool). get_or flags j false) grows.in_force.1 ∙ get_or_append_left old.graph.in_force grows.in_force.0 false j (omega (arith, inside, is.flags)) ∙ on,
        ap (λ (arcs : List Arc). unnamed (arc_at arcs j)) grows.arcs.1 ∙ ap unnamed (get_or_append_left old.graph.arcs grows.arcs.0 no_arc j inside),
      )

  module _ (is' : IsGraph new.graph) where
    pub departing_more : (k : ℕ) → departing old.graph k ≤ departing new.graph k
    departing_more k = list_longer (table_of old.graph) (table_of new.graph) (length old.graph.nodes) (length new.graph.nodes) old.graph.leaving new.graph.leaving is.out is'.out goes_on k

    pub reaching_more : (k : ℕ) → reaching old.graph k ≤ reaching new.graph k
    reaching_more k = list_longer (reversed_table (table_of old.graph)) (reversed_table (table_of new.graph)) (length old.graph.nodes) (length new.graph.nodes) old.graph.arriving new.graph.arriving is.into is'.into
        (goes_reversed (table_of old.graph) (table_of new.graph) goes_on) k

-- ---- stages
if_more : (m n x : ℕ) → m < n → (if nat_lt m n then x else 0) ≡ x
if_more m n x less = grind arith

if_none : (m n x : ℕ) → n ≤ m → (if nat_lt m n then x else 0) ≡ 0
if_none m n x less = grind arith

lead_then : (a b c : SolverLists) (xs ys : List SolverLists) → LeadTo a xs b → LeadTo b ys c → LeadTo a (xs ++ ys) c
lead_then a b c [] ys one two = subst (λ (s : SolverLists). LeadTo s ys c) one two
lead_then a b c (x ∷ xs) ys one two = (one.0, lead_then x b c xs ys one.1 two)

steps_then : (a b : SolverLists) (xs ys : List SolverLists) → LeadTo a xs b → steps_of_stages a (xs ++ ys) ≡ steps_of_stages a xs + steps_of_stages b ys
steps_then a b [] ys one = (let same : steps_of_stages a ys ≡ steps_of_stages b ys = ap (λ (s : SolverLists). steps_of_stages s ys) (sym one) in omega (arith, same))
steps_then a b (x ∷ xs) ys one =
    let rest : steps_of_stages x (xs ++ ys) ≡ steps_of_stages x xs + steps_of_stages b ys = steps_then x b xs ys one.1 in
    omega (arith, rest)

-- an arc that came stays
module _ (a b : SolverLists) (is : IsNextStage a b) where
  arcs_then : length a.graph.arcs ≤ length b.graph.arcs
  arcs_then =
      let (more, same) = is.extends.arcs in
      let long : length b.graph.arcs ≡ length a.graph.arcs + length more = ap (λ (arcs : List Arc). length arcs) same ∙ length-append a.graph.arcs more in
      omega (arith, long)

arcs_rise : (a b : SolverLists) (stages : List SolverLists) → LeadTo a stages b → length a.graph.arcs ≤ length b.graph.arcs
arcs_rise a b [] lead = (let same : length b.graph.arcs ≡ length a.graph.arcs = ap (λ (s : SolverLists). length s.graph.arcs) lead in omega (arith, same))
arcs_rise a b (x ∷ stages) lead =
    let one : length a.graph.arcs ≤ length x.graph.arcs = arcs_then a x lead.0 in
    let rest : length x.graph.arcs ≤ length b.graph.arcs = arcs_rise x b stages lead.1 in
    omega (arith, one, rest)

-- where no arc came there is nothing to take
pub no_steps : (a b : SolverLists) (stages : List SolverLists) → LeadTo a stages b → length b.graph.arcs ≤ length a.graph.arcs → steps_of_stages a stages ≡ 0
no_steps a b [] lead few = refl
no_steps a b (x ∷ stages) lead few =
    let one : length a.graph.arcs ≤ length x.graph.arcs = arcs_then a x lead.0 in
    let rest : length x.graph.arcs ≤ length b.graph.arcs = arcs_rise x b stages lead.1 in
    let none : stage_steps a x ≡ 0 = if_none (length a.graph.arcs) (length x.graph.arcs) (pushing_steps a x) (omega (arith, rest, few)) in
    let others : steps_of_stages x stages ≡ 0 = no_steps x b stages lead.1 (omega (arith, one, few)) in
    omega (arith, none, others)

-- ---- few steps
pub few_none : (s : SolverLists) (steps : ℕ) → TakesFewToPush s s steps steps
few_none s steps = record { stages = []; lead = refl; few = omega arith }

few_by_stage : (old new : SolverLists) (first last : ℕ) → IsNextStage old new → last ≤ first + stage_steps old new → TakesFewToPush old new first last
few_by_stage old new first last next few = record {
  stages = new ∷ [];
  lead = (next, refl);
  few = omega (arith, few);
}

pub few_by_arc : (old new : SolverLists) (a : Arc) (first last : ℕ) → new.graph ≡ with_arc old.graph a → KeepsSlots old new → IsCurrent new → last ≤ first + pushing_steps old new → TakesFewToPush old new first last
few_by_arc old new a first last is keeps now few =
    let nodes : length new.graph.nodes ≡ length old.graph.nodes = ap (λ (g : GraphLists). length g.nodes) is in
    let arcs : length new.graph.arcs ≡ length old.graph.arcs + 1 = ap (λ (g : GraphLists). length g.arcs) is ∙ length-append old.graph.arcs (a ∷ []) in
    let all : stage_steps old new ≡ pushing_steps old new = if_more (length old.graph.arcs) (length new.graph.arcs) (pushing_steps old new) (omega (arith, arcs)) in
    few_by_stage old new first last (record { extends = extends_by_arc old new a is keeps; one = omega (arith, nodes, arcs); current = now }) (omega (arith, few, all))

few_by_node : (s t : SolverLists) (n : Node) (steps : ℕ) → t ≡ with_new_node s n → IsCurrent t → TakesFewToPush s t steps steps
few_by_node s t n steps is now =
    let nodes : length t.graph.nodes ≡ length s.graph.nodes + 1 = ap (λ (x : SolverLists). length x.graph.nodes) is ∙ length-append s.graph.nodes (n ∷ []) in
    let arcs : length t.graph.arcs ≡ length s.graph.arcs = ap (λ (x : SolverLists). length x.graph.arcs) is in
    few_by_stage s t steps steps (record { extends = subst (Extends s) (sym is) (extends_by_node s n); one = omega (arith, nodes, arcs); current = now }) (omega arith)

pub few_then : (a b c : SolverLists) (first mid last : ℕ) → TakesFewToPush a b first mid → TakesFewToPush b c mid last → TakesFewToPush a c first last
few_then a b c first mid last one two =
    let sum : steps_of_stages a (one.stages ++ two.stages) ≡ steps_of_stages a one.stages + steps_of_stages b two.stages = steps_then a b one.stages two.stages one.lead in
    let few : mid ≤ first + steps_of_stages a one.stages = one.few in
    let few' : last ≤ mid + steps_of_stages b two.stages = two.few in
    record {
      stages = one.stages ++ two.stages;
      lead = lead_then a b c one.stages two.stages one.lead two.lead;
      few = omega (arith, sum, few, few');
    }

-- ---- a node, and another that may be there already
module _ (s t u : SolverLists) (known : Bool) (first second : Node) (one : t ≡ with_new_node s first) (old : known ≡ true → u ≡ t) (new : known ≡ false → u ≡ with_new_node t second) where
  pub extends_by_nodes : Extends s u
  extends_by_nodes =
      let begin : Extends s t = subst (Extends s) (sym one) (extends_by_node s first) in
      elim (cases_Bool known) [
        | inl is ↦ subst (Extends s) (sym (old is)) begin
        | inr not_yet ↦ extends_then s t u begin (subst (Extends t) (sym (new not_yet)) (extends_by_node t second))
      ]

  pub few_by_nodes : (steps : ℕ) → IsCurrent t → IsCurrent u → TakesFewToPush s u steps steps
  few_by_nodes steps now now' =
      few_then s t u steps steps steps (few_by_node s t first steps one now) (elim (cases_Bool known) [
        | inl is ↦ subst (λ (x : SolverLists). TakesFewToPush t x steps steps) (sym (old is)) (few_none t steps)
        | inr not_yet ↦ few_by_node t u second steps (new not_yet) now'
      ])
