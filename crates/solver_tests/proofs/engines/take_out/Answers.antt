use Rattle.std.proofs.Common.{◌≡◌, ◌≢◌, ◌<◌, ℕ, suc, true, false, [], ◌∷◌, get_or, length, All, AllPairs, ap, ◌∙◌, arith}
use Rattle.std.proofs.lemmas.List.Elements.{All-nil, All-cons}
use Rattle.sync_graph.specs.Graph.{GraphLists}
use Rattle.solver_tests.proofs.engines.take_out.Goals as goal

pub withdraw-requires-clause-numbers : goal.withdraw-requires-clause-numbers
withdraw-requires-clause-numbers g c =
    let P : ℕ → Type 0 = λ k. get_or c.args.s.now.graph.in_force k false ≡ true in
    let arcs : c.arcs.result ≡ length c.args.s.now.graph.arcs = c.arcs.ensures ∙ ap (λ (h : GraphLists). length h.arcs) c.graph.ensures in
    record {
      each = All-cons P c.args.number [] (c.requires.flags c.args.number false (omega (arith, c.requires.current.set_up.graph.flags, arcs, c.if-number-arcs.false))) (All-nil P);
      differ = λ i j d less below. absurd (let b : j < suc 0 = below in let l : i < j = less in omega arith);
    }
