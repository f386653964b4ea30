use Rattle.std.proofs.Common.{◌≡◌, ℕ, sym, ap, ◌∙◌, subst, rules}
use Rattle.problem_model.specs.declared.items.Node.TheVariants as nodes
use Rattle.problem_model.specs.Bounds.{IsReading}
use Rattle.problem_model.specs.ShortList.{neighbour_bounds}
use Rattle.cert_check.specs.Verdict.{Judges}
use Rattle.cert_check.proofs.verdict.judge_neighbours.Goals as goal

pub returns-clause-verdict : goal.returns-clause-verdict
returns-clause-verdict c = λ p x formed at from to from_is to_is.
    let a = c.args.a in
    let b = c.args.b in
    let one : a.0 ≡ b.0 = search rules in
    let to_there : IsReading p a.0 b.1 = subst (λ (k : ℕ). IsReading p k b.1) (sym one) to in
    let to_at : x (nodes.Reading a.0 b.1) ≡ c.args.to = ap (λ (k : ℕ). x (nodes.Reading k b.1)) one ∙ to_is in
    subst (λ (k : ℕ). Judges p x (neighbour_bounds (a.0, a.1) (k, b.1)) c.judge_span.result) one (c.judge_span.ensures.verdict p x formed at from to_there from_is to_at)
