-- A graph stands for a problem in whatever order its arcs come, as long as the bounds of the short list are among them.
use Rattle.std.proofs.Common.{◌≡◌, ◌<◌, ℕ, List, length, map, get_or, sym, ◌∙◌, subst, arith}
use Rattle.std.specs.Prelude.{All, Contains}
use Rattle.std.proofs.lemmas.List.{length-map, get_or-map}
use Rattle.problem_model.specs.declared.items.Bound.{Bound}
use Rattle.problem_model.specs.Problem.{ProblemLists, IsWellFormed}
use Rattle.problem_model.specs.Bounds.{Constraint, Declares}
use Rattle.problem_model.specs.Nodes.{Reading}
use Rattle.problem_model.specs.ShortList.{short_list}
use Rattle.problem_model.proofs.OneName.{declared_one}
use Rattle.problem_model.proofs.Following.{chained_by}
use Rattle.problem_model.specs.Executions as bounds
use Rattle.problem_model.specs.ProblemArcs.{IsArcOf, StandsFor}
use Rattle.sync_graph.specs.declared.arc.Arc.{Arc}
use Rattle.sync_graph.specs.Graph.{GraphLists, unnamed}
use Rattle.problem_graph.specs.Standing.{HasBounds}
use Rattle.sync_graph.proofs.InForce.{no_arc}

module _ (p : ProblemLists) (readings : List Reading) (names : List Bound) (g : GraphLists) (formed : IsWellFormed p) (all : All (Contains names) (short_list p readings)) (has : HasBounds p readings names g) where
  -- a bound by whose name there is an arc
  found : (b : Bound) (i : ℕ) → i < length g.arcs → (get_or g.arcs i no_arc).name ≡ b → (c : Constraint) → Declares p b c → (a : bounds.Arc) × Contains (map unnamed g.arcs) a × IsArcOf p readings c a
  found b i inside is c declares =
      let d = has.declared i no_arc inside in
      let same : d.0 ≡ c = declared_one p formed b d.0 c (subst (λ (n : Bound). Declares p n d.0) is d.1) declares in
      let len = length-map g.arcs unnamed in
      (unnamed (get_or g.arcs i no_arc), (i, omega (arith, len, inside), get_or-map unnamed g.arcs i no_arc (unnamed (get_or g.arcs i no_arc)) inside), subst (λ (v : Constraint). IsArcOf p readings v (unnamed (get_or g.arcs i no_arc))) same d.2)

  named_there : (b : Bound) → Contains (map (λ (a : Arc). a.name) g.arcs) b → (c : Constraint) → Declares p b c → (a : bounds.Arc) × Contains (map unnamed g.arcs) a × IsArcOf p readings c a
  named_there b (i, inside, is) c declares =
      let len = length-map g.arcs (λ (a : Arc). a.name) in
      let l : i < length g.arcs = omega (arith, len, inside) in
      found b i l (sym (get_or-map (λ (a : Arc). a.name) g.arcs i no_arc b l) ∙ is) c declares

  pub stands_any : StandsFor p readings (map unnamed g.arcs)
  stands_any = record {
    chained = chained_by p formed;
    each = λ i d inside.
        let len = length-map g.arcs unnamed in
        let l : i < length g.arcs = omega (arith, len, inside) in
        let e = has.declared i no_arc l in
        subst (λ (a : bounds.Arc). (b : Bound) × (c : Constraint) × Declares p b c × IsArcOf p readings c a) (sym (get_or-map unnamed g.arcs i no_arc d l)) ((get_or g.arcs i no_arc).name, e.0, e.1, e.2);
    every = λ i d inside. named_there (get_or (short_list p readings) i d) (subst (λ (bs : List Bound). Contains bs (get_or (short_list p readings) i d)) (sym has.named) (all i d inside));
  }
