-- A graph with one arc more.
use Rattle.std.proofs.Common.{◌≡◌, ◌⊎◌, ◌<◌, ℕ, Bool, true, false, List, [], ◌∷◌, ◌++◌, length, get_or, sym, ◌∙◌, ap, subst, arith, inl, inr, length-append}
use Rattle.std.proofs.lemmas.Bool.{cases_lt, cases_eq}
use Rattle.std.proofs.Math.Seq.{get_or-append_seam}
use Rattle.std.proofs.lemmas.List.{get_or_append_left, get_or_past}
use Rattle.problem_model.specs.declared.items.Bound.{Bound}
use Rattle.problem_model.specs.Problem.{ProblemLists}
use Rattle.sync_graph.specs.declared.arc.Arc.{Arc}
use Rattle.sync_graph.specs.Graph.{GraphLists, IsGraph, arc_at, with_arc}
use Rattle.sync_graph.specs.InForce.{IsInForce}
use Rattle.sync_graph.proofs.InForce.{no_arc}
use Rattle.traces.proofs.Members.{head_or_tail}
use Rattle.roster.specs.Growing.{IsGrowing, IsBoundOf}

module _ (g : GraphLists) (a : Arc) (flags : length g.in_force ≡ length g.arcs) where
  in_force_inside : (j : ℕ) → get_or g.in_force j false ≡ true → j < length g.in_force
  in_force_inside j force = elim (cases_lt j (length g.in_force)) [
    | inl inside ↦ inside
    | inr past ↦ absurd (let none : get_or g.in_force j false ≡ false = get_or_past g.in_force j false past in let z : ⊥ = cc in z)
  ]

  pub still : (b : Arc) → IsInForce g b → IsInForce (with_arc g a) b
  still b (j, force, is) =
      let inside = in_force_inside j force in (
        j,
        get_or_append_left g.in_force (true ∷ []) false j inside ∙ force,
        get_or_append_left g.arcs (a ∷ []) no_arc j (omega (arith, inside, flags)) ∙ is,
      )

  pub pushed : IsInForce (with_arc g a) a
  pushed = (
    length g.arcs,
    ap (λ (n : ℕ). get_or (g.in_force ++ true ∷ []) n false) (sym flags) ∙ get_or-append_seam g.in_force true [] false,
    get_or-append_seam g.arcs a [] no_arc,
  )

  pub was : (b : Arc) → IsInForce (with_arc g a) b → IsInForce g b ⊎ (b ≡ a)
  was b (j, force, is) = elim (cases_lt j (length g.arcs)) [
    | inl inside ↦ inl (
      j,
      sym (get_or_append_left g.in_force (true ∷ []) false j (omega (arith, inside, flags))) ∙ force,
      sym (get_or_append_left g.arcs (a ∷ []) no_arc j inside) ∙ is,
    )
    | inr past ↦ elim (cases_eq j (length g.arcs)) [
      | inl same ↦ inr (sym is ∙ ap (arc_at (g.arcs ++ a ∷ [])) same ∙ get_or-append_seam g.arcs a [] no_arc)
      | inr other ↦ absurd (
          let none : get_or (g.in_force ++ true ∷ []) j false ≡ false = get_or_past (g.in_force ++ true ∷ []) j false (omega (arith, past, other, flags, length-append g.in_force (true ∷ []))) in
          let z : ⊥ = cc in
          z)
    ]
  ]

pub bound_pushed : (p : ProblemLists) (entered : ℕ → Bool) (b : Bound) (rest : List Bound) (g : GraphLists) (a : Arc) → IsGraph g → IsBoundOf p g a → a.name ≡ b → IsGrowing p entered (b ∷ rest) g → IsGrowing p entered rest (with_arc g a)
bound_pushed p entered b rest g a is bound name growing = record {
  nodes = growing.nodes;
  every_node = growing.every_node;
  each = λ x force. elim (was g a is.flags x force) [ inl old ↦ growing.each x old | inr same ↦ subst (IsBoundOf p (with_arc g a)) (sym same) bound ];
  every = λ c due. elim (growing.every c due) [
    | inl left ↦ elim (head_or_tail b c rest left) [ inl same ↦ inr (a, pushed g a is.flags, name ∙ same) | inr more ↦ inl more ]
    | inr (x, force, named) ↦ inr (x, still g a is.flags x force, named)
  ];
}
