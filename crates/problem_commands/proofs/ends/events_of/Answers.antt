use Rattle.std.proofs.Common.{◌⊎◌, ℕ, inl, inr, subst}
use Rattle.problem.specs.Line.{IsUnknown}
use Rattle.problem_commands.proofs.Intervals.{where_none}
use Rattle.problem_commands.proofs.ends.events_of.Goals as goal

pub returns-in_err-from-clause-none : goal.returns-in_err-from-clause-none
returns-in_err-from-clause-none c =
    where_none {A = ℕ × ℕ} c.from_residual.result (IsUnknown c.args.p.now c.args.names.now.first.now ⊎ IsUnknown c.args.p.now c.args.names.now.second.now)
    (inl (subst (IsUnknown c.args.p.now) c.as_bytes.ensures.value c.in_err-from.ensures.none))

pub returns-in_err-to-clause-none : goal.returns-in_err-to-clause-none
returns-in_err-to-clause-none c =
    where_none {A = ℕ × ℕ} c.from_residual-in_err-to.result (IsUnknown c.args.p.now c.args.names.now.first.now ⊎ IsUnknown c.args.p.now c.args.names.now.second.now)
    (inr (subst (IsUnknown c.args.p.now) c.as_bytes-2.ensures.value c.in_err-to.ensures.none))
