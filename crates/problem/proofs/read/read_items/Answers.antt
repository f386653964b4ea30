use Rattle.std.proofs.Common.{◌≤◌, length, rules}
use Rattle.line_format.specs.Format.{most_text_bytes}
use Rattle.problem.proofs.Answering.{head_reads}
use Rattle.problem.proofs.read.read_items.Goals as goal

pub returns-in-None : goal.returns-in-None
returns-in-None c =
    let short : length c.args.text.now ≤ most_text_bytes = search rules in
    head_reads c.args.text.now short c.in-None.ensures.none
