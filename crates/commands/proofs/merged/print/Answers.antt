use Rattle.std.proofs.Common.{inl, inr, refl}
use Rattle.mergecap.specs.MergedCapture.{merged_capture}
use Rattle.mergecap.specs.Packets.{all_timed}
use Rattle.problem_commands.specs.Printing.{IsOnlyText}
use Rattle.problem_commands.specs.declared.status.Status.TheVariants.{Done}
use Rattle.problem_commands.proofs.Printing.{written_prints, failed_prints}
use Rattle.commands.proofs.merged.print.Goals as goal

pub returns-in-Ok-clause-prints : goal.returns-in-Ok-clause-prints
returns-in-Ok-clause-prints g c =
    let text = merged_capture (all_timed c.args.ordered.now) in
    written_prints (IsOnlyText text Done) text Done _ _ (refl, refl) c.in-Ok.ensures.written

pub returns-in-Err-clause-prints : goal.returns-in-Err-clause-prints
returns-in-Err-clause-prints g c =
    let text = merged_capture (all_timed c.args.ordered.now) in
    failed_prints (IsOnlyText text Done) text Done _ _ (refl, refl) c.in-Err.ensures.written

pub returns-in-Ok-clause-only : goal.returns-in-Ok-clause-only
returns-in-Ok-clause-only g c = inl refl

pub returns-in-Err-clause-only : goal.returns-in-Err-clause-only
returns-in-Err-clause-only g c = inr refl
