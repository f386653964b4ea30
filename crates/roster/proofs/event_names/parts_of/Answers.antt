use Rattle.std.proofs.Common.{◌≢◌, ◌<◌, ◌^◌, ◌+◌, ◌∙◌, ℕ, drop}
use Rattle.std.proofs.lemmas.List.{take_rest}
use Rattle.atto.specs.Decimal.{decimal_of}
use Rattle.roster.proofs.EventNames.{without_sharp, without_number, no_number_spelled, if_none}
use Rattle.roster.proofs.event_names.parts_of.Goals as goal

pub returns-in_err-sharp-clause-none : goal.returns-in_err-sharp-clause-none
returns-in_err-sharp-clause-none c = if_none c.from_residual.result _ (without_sharp c.args.name.now c.in_err-sharp.ensures.none)

pub returns-in-Err-clause-none : goal.returns-in-Err-clause-none
returns-in-Err-clause-none c =
    let name = c.args.name.now in
    let sharp = c.in_ok-sharp.sharp in
    let parts = c.in_ok-sharp.ensures.some in
    let none : (n : ℕ) → n < 2 ^ 64 → drop (sharp + 1) name ≢ decimal_of n = λ n fits is. no_number_spelled _ c.in-Err.field-0 c.in-Err.ensures n fits (take_rest name (sharp + 1) ∙ is) in
    without_number name sharp parts.0 parts.1 none
