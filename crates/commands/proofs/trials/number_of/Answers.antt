use Rattle.std.proofs.Common.{◌∙◌, ℕ, List, arith, sym, subst}
use Rattle.commands.specs.Trials.{IsNumber}
use Rattle.commands.proofs.Numbers.{large_no_number, fault_no_number}
use Rattle.commands.proofs.trials.number_of.Goals as goal

pub returns-else-n-clause-none : goal.returns-else-n-clause-none
returns-else-n-clause-none c = large_no_number c.args.text.now c.in-Ok.n (sym c.as_bytes.ensures.value ∙ c.in-Ok.ensures.0) (λ below. omega (arith, below, c.if-n.false))

pub returns-in-Err-clause-none : goal.returns-in-Err-clause-none
returns-in-Err-clause-none c = subst (λ (text : List ℕ). (n : ℕ) → IsNumber n text → ⊥) c.as_bytes.ensures.value (fault_no_number c.as_bytes.result.now c.in-Err.field-0 c.in-Err.ensures)
