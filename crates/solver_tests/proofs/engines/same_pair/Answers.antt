use Rattle.std.proofs.Common.{ℕ, ◌<◌, length, sym, ap, subst, ◌∙◌}
use Rattle.sync_graph.specs.Graph.{GraphLists}
use Rattle.solver_tests.proofs.engines.same_pair.Goals as goal

pub returns-clause-first : goal.returns-clause-first
returns-clause-first g c = c.pair-one.ensures.leaves.current

pub returns-clause-second : goal.returns-clause-second
returns-clause-second g c = c.pair-two.ensures.leaves.current

pub returns-clause-first_solved : goal.returns-clause-first_solved
returns-clause-first_solved g c = c.pair-one.ensures.leaves.answer.contradiction ∙ c.requires.first_solved

pub returns-clause-second_solved : goal.returns-clause-second_solved
returns-clause-second_solved g c = c.pair-two.ensures.leaves.answer.contradiction ∙ c.requires.second_solved

pub returns-clause-first_nodes : goal.returns-clause-first_nodes
returns-clause-first_nodes g c = ap (λ (h : GraphLists). length h.nodes) c.pair-one.ensures.leaves.answer.graph ∙ c.requires.first_nodes

pub returns-clause-second_nodes : goal.returns-clause-second_nodes
returns-clause-second_nodes g c = ap (λ (h : GraphLists). length h.nodes) c.pair-two.ensures.leaves.answer.graph ∙ c.requires.second_nodes

pub returns-clause-first_free : goal.returns-clause-first_free
returns-clause-first_free g c = subst (λ (n : ℕ). 0 < n) (sym c.pair-one.ensures.leaves.rows.free) c.requires.first_free

pub returns-clause-second_free : goal.returns-clause-second_free
returns-clause-second_free g c = subst (λ (n : ℕ). 0 < n) (sym c.pair-two.ensures.leaves.rows.free) c.requires.second_free
