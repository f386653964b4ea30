use Rattle.std.proofs.Common.{◌≡◌, ◌≢◌, ◌+◌, ◌∙◌, ℕ, sym, subst, rules}
use Rattle.std.proofs.lemmas.Int.{to_z-of_z}
use mir.Syntax.{w128}
use mir.Val.{SFits}
use Rattle.problem_model.specs.declared.items.Node.{Node}
use Rattle.problem_model.specs.declared.items.Node.TheVariants as nodes
use Rattle.cert.specs.Shows.{weighed_bounds}
use Rattle.cert_check.specs.declared.answer.Reason.TheVariants.{Join}
use Rattle.cert_check.specs.Walks.{Goes}
use Rattle.cert_check.specs.Reasons.{PathIs}
use Rattle.cert_check.specs.Faults.{IsFirstWrong}
use Rattle.cert_check.proofs.Paths.{end_first, sum_first}
use Rattle.cert_check.proofs.path.arrival_fault.Goals as goal

pub returns-then-ne-clause-found : goal.returns-then-ne-clause-found
returns-then-ne-clause-found c = λ p second steps lawful is_path each count walked.
    let apart : c.args.held.node ≢ nodes.Event c.args.first = search rules in
    subst (λ (k : ℕ). IsFirstWrong c.args.part (PathIs p c.args.part c.args.first second c.args.value steps) (Join (k + 1))) (sym count)
    (end_first p lawful c.args.part is_path c.args.first second c.args.value steps each c.args.held.node walked.0 apart)

pub returns-then-held-sum_for-clause-found : goal.returns-then-held-sum_for-clause-found
returns-then-held-sum_for-clause-found c = λ p second steps lawful is_path each count walked.
    let arrives : c.args.held.node ≡ nodes.Event c.args.first = search rules in
    let differs : c.args.held.sum ≢ c.sum_for.result = search rules in
    let fits : SFits w128 c.args.held.sum = search rules in
    simp to_z-of_z (sum_first p lawful c.args.part is_path c.args.first second c.args.value steps each c.args.held.node walked.0 arrives c.args.held.sum walked.1 (λ e. differs (e ∙ sym c.sum_for.ensures)))

pub returns-clause-found : goal.returns-clause-found
returns-clause-found c = λ p second steps lawful is_path each count walked.
    let arrives : c.args.held.node ≡ nodes.Event c.args.first = search rules in
    let same : c.args.held.sum ≡ c.sum_for.result = search rules in
    (subst (λ (n : Node). Goes p c.args.part (nodes.Event second) (weighed_bounds steps) n) arrives walked.0, sym walked.1 ∙ same ∙ c.sum_for.ensures)
