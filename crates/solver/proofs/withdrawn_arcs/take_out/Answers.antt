use Rattle.std.proofs.Common.{◌≡◌, ◌≢◌, ◌+◌, ℕ, Bool, true, false, List, [], ◌∷◌, drop, take, get_or, All, AllPairs, refl, sym, ap, subst, ◌∙◌, arith}
use Rattle.std.specs.Prelude.{map}
use Rattle.std.proofs.lemmas.List.{drop_all}
use Rattle.std.proofs.lemmas.List.Elements.{All-head}
use Rattle.sync_graph.specs.declared.arc.Arc.{Arc}
use Rattle.sync_graph.specs.Graph.{arc_at}
use Rattle.earliest.specs.Withdrawn.{IsEarliestWith}
use Rattle.repair.specs.RowWithdrawals.{AreWithdrawn}
use Rattle.solver.specs.Changes.{withdrawn}
use Rattle.solver.proofs.Cutting.{one_more, numbered_all}
use Rattle.solver.proofs.Fewer.{drop_turn, rest_in_force, pairs_behind}
use Rattle.solver.proofs.withdrawn_arcs.take_out.Goals as goal

pub withdraw-requires : goal.withdraw-requires
withdraw-requires c =
    let i : ℕ = c.loop-k.k-index in
    let numbers : List ℕ = c.args.numbers.now in
    All-head (λ (j : ℕ). get_or c.loop-k.g.in_force j false ≡ true) (get_or numbers i 0) (drop (i + 1) numbers)
    (subst (All (λ (j : ℕ). get_or c.loop-k.g.in_force j false ≡ true)) (drop_turn numbers i c.loop-k-test.true) c.loop-k.invariant.in_force)

pub loop-k-init : goal.loop-k-init
loop-k-init c = record {
  nodes = refl;
  arcs = refl;
  flags = refl;
  in_force = c.requires.numbers.each;
  graph = c.exact.ensures;
  values = λ values earliest. c.removals.ensures.none c.args.g.now values earliest;
  rows = c.withdrawals.ensures.none c.args.g.now c.exact.ensures;
  differ = c.requires.numbers.differ;
}

pub loop-k-preserved : goal.loop-k-preserved
loop-k-preserved c =
    let i : ℕ = c.loop-k.k-index in
    let numbers : List ℕ = c.args.numbers.now in
    let k : ℕ = get_or numbers i 0 in
    let rest : List ℕ = drop (i + 1) numbers in
    let flags : List Bool = c.loop-k.g.in_force in
    let turn : drop i numbers ≡ k ∷ rest = drop_turn numbers i c.loop-k-test.true in
    let differ : AllPairs (λ m n. m ≢ n) (k ∷ rest) = subst (AllPairs (λ (m n : ℕ). m ≢ n)) turn c.loop-k.invariant.differ in
    let all : All (λ j. get_or flags j false ≡ true) (k ∷ rest) = subst (All (λ (j : ℕ). get_or flags j false ≡ true)) turn c.loop-k.invariant.in_force in
    record {
      nodes = c.withdraw.ensures.nodes ∙ c.loop-k.invariant.nodes;
      arcs = c.withdraw.ensures.arcs ∙ c.loop-k.invariant.arcs;
      flags = ap (λ (fs : List Bool). withdrawn fs rest) c.withdraw.ensures.in_force ∙ ap (withdrawn flags) (sym turn) ∙ c.loop-k.invariant.flags;
      in_force = subst (λ (fs : List Bool). All (λ (j : ℕ). get_or fs j false ≡ true) rest) (sym c.withdraw.ensures.in_force) (rest_in_force flags k rest differ all);
      graph = c.exact-in-loop-k.ensures;
      values = λ values earliest.
          subst (λ (some : List Arc). IsEarliestWith c.withdraw.new.self some values) (one_more c.args.g.now.arcs c.loop-k.g.arcs numbers i c.loop-k-test.true c.loop-k.invariant.arcs)
          (c.removals.ensures.one c.loop-k.g c.withdraw.new.self c.loop-k.invariant.graph c.exact-in-loop-k.ensures k (map (arc_at c.args.g.now.arcs) (take i numbers)) values
          c.withdraw.ensures.nodes c.withdraw.ensures.arcs c.withdraw.ensures.in_force
          (All-head (λ (j : ℕ). get_or flags j false ≡ true) k rest all) (c.loop-k.invariant.values values earliest));
      rows =
          subst (λ (some : List Arc). AreWithdrawn c.args.g.now some c.withdraw.new.self) (one_more c.args.g.now.arcs c.loop-k.g.arcs numbers i c.loop-k-test.true c.loop-k.invariant.arcs)
          (c.withdrawals.ensures.one c.args.g.now c.loop-k.g c.withdraw.new.self (map (arc_at c.args.g.now.arcs) (take i numbers)) k c.loop-k.invariant.rows
          c.withdraw.ensures.nodes c.withdraw.ensures.arcs c.withdraw.ensures.in_force);
      differ = pairs_behind k rest differ;
    }

pub returns-clause-graph : goal.returns-clause-graph
returns-clause-graph c =
    let i : ℕ = c.loop-k.k-index in
    let numbers : List ℕ = c.args.numbers.now in
    let none_left : drop i numbers ≡ [] = drop_all i numbers (omega (arith, c.loop-k-test.false)) in
    record {
      nodes = c.loop-k.invariant.nodes;
      arcs = c.loop-k.invariant.arcs;
      in_force = sym (ap (withdrawn c.loop-k.g.in_force) none_left) ∙ c.loop-k.invariant.flags;
    }

pub returns-clause-values : goal.returns-clause-values
returns-clause-values c = λ values earliest.
    subst (λ (some : List Arc). IsEarliestWith c.loop-k.g some values) (numbered_all c.args.g.now.arcs c.args.numbers.now c.loop-k.k-index (omega (arith, c.loop-k-test.false)))
    (c.loop-k.invariant.values values earliest)

pub returns-clause-rows : goal.returns-clause-rows
returns-clause-rows c =
    subst (λ (some : List Arc). AreWithdrawn c.args.g.now some c.loop-k.g) (numbered_all c.args.g.now.arcs c.args.numbers.now c.loop-k.k-index (omega (arith, c.loop-k-test.false)))
    c.loop-k.invariant.rows
