use Rattle.std.proofs.Common.{ℕ, List, Some, subst}
use Rattle.merge_script.specs.Turns.{reads}
use Rattle.problem_commands.specs.Printing.{Prints}
use Rattle.commands.specs.DatedCapture.{DatedAt}
use Rattle.commands.proofs.dated.mergecap_since.Goals as goal

pub returns-clause-dated : goal.returns-clause-dated
returns-clause-dated g c =
    subst
    (λ (event : List ℕ). Prints (DatedAt c.args.file.now.path.now (Some event) (reads (g.F.Files.told c.args.files.now) (g.I.Source.told c.args.input.now)) (reads (g.F.Files.told c.merge_from.new.files) (g.I.Source.told c.merge_from.new.input)))
    (g.O.Sink.told c.args.out.now) (g.O.Sink.told c.merge_from.new.out) c.merge_from.result)
    c.as_bytes.ensures.value c.merge_from.ensures.dated
