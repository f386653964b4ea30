use Rattle.std.proofs.Common.{◌≡◌, ℕ, get_or, sym, ap, subst, ◌∙◌, inl, inr, arith}
use Rattle.std.specs.Prelude.{Contains}
use Rattle.std.proofs.lemmas.Bool.{cases_eq}
use Rattle.std.proofs.lemmas.List.{get_or_default}
use Rattle.sync_graph.specs.declared.arc.Arc.{Arc}
use Rattle.sync_graph.specs.Graph.{arc_at}
use Rattle.solver.proofs.withdrawn_arcs.are_met.Goals as goal

pub loop-k-preserved : goal.loop-k-preserved
loop-k-preserved c = λ i d below. elim (cases_eq i c.loop-k.k-index) [
  | inl here ↦ λ meets.
      let same : get_or c.args.numbers.now i d ≡ get_or c.args.numbers.now c.loop-k.k-index 0 =
      ap (λ (n : ℕ). get_or c.args.numbers.now n d) here ∙ get_or_default c.args.numbers.now c.loop-k.k-index d 0 c.loop-k-test.true in
      c.is_step.ensures c.if-is_step.false
      (subst (λ (a : Arc). Contains c.args.cycle.now a) (ap (λ (n : ℕ). arc_at c.args.g.now.arcs n) same ∙ sym c.arc.ensures) meets)
  | inr other ↦ c.loop-k.invariant i d (omega arith)
]

pub returns : goal.returns
returns c = λ unmet i d below. c.loop-k.invariant i d (omega (arith, below, c.loop-k-test.false))
