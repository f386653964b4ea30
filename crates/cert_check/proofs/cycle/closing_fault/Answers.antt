use Rattle.std.proofs.Common.{◌≡◌, ℕ, sym, subst, arith, rules}
use Rattle.std.specs.Prelude.{pos, ◌≤ℤ◌, ◌<ℤ◌}
use Rattle.std.proofs.lemmas.Int.{ints, to_z-of_z}
use mir.Syntax.{w128}
use mir.Val.{SFits}
use Rattle.problem_model.specs.declared.items.Node.{Node}
use Rattle.problem_model.specs.Solutions.{Leads, weight_of}
use Rattle.cert.specs.Shows.{weighed_bounds}
use Rattle.cert_check.specs.declared.answer.Part.TheVariants.{Cycle}
use Rattle.cert_check.specs.declared.answer.Reason.TheVariants.{Join}
use Rattle.cert_check.specs.Reasons.{CycleIs}
use Rattle.cert_check.specs.Faults.{IsFirstWrong}
use Rattle.cert_check.proofs.Cycles.{open_first, cycle_sum_first, leads_of}
use Rattle.cert_check.proofs.cycle.closing_fault.Goals as goal

pub returns-then-ne-clause-found : goal.returns-then-ne-clause-found
returns-then-ne-clause-found c = λ p steps f a lawful each count at declares begins walked.
    let apart : c.args.held.node ≡ c.args.start.now → ⊥ = search rules in
    subst (λ (k : ℕ). IsFirstWrong Cycle (CycleIs p steps) (Join k)) (sym count) (open_first p lawful steps each c.args.start.now c.args.held.node walked.0 f a at declares begins apart)

pub returns-then-held-ge0-clause-found : goal.returns-then-held-ge0-clause-found
returns-then-held-ge0-clause-found c = λ p steps f a lawful each count at declares begins walked.
    let closed : c.args.held.node ≡ c.args.start.now = search rules in
    let high : pos 0 ≤ℤ c.args.held.sum = omega (arith, ints) in
    let fits : SFits w128 c.args.held.sum = search rules in
    simp to_z-of_z (cycle_sum_first p lawful steps each c.args.start.now c.args.held.node walked.0 f c.args.held.sum at closed walked.1 high)

pub returns-clause-found : goal.returns-clause-found
returns-clause-found c = λ p steps f a lawful each count at declares begins walked.
    let closed : c.args.held.node ≡ c.args.start.now = search rules in
    let low : c.args.held.sum <ℤ pos 0 = omega (arith, ints) in
    let is : c.args.held.sum ≡ weight_of (weighed_bounds steps) = walked.1 in
    record {
      closed = (c.args.start.now, subst (λ (n : Node). Leads p c.args.start.now (weighed_bounds steps) n) closed (leads_of p c.args.start.now c.args.held.node (weighed_bounds steps) walked.0));
      negative = omega (arith, ints, low, is);
    }
