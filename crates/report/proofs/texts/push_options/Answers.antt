use Rattle.std.proofs.lemmas.Result.{on_ok_weaker}
use Rattle.report.proofs.AsciiKeys.{ascii_options}
use Rattle.report.proofs.texts.push_options.Goals as goal

pub returns-else-is_empty-clause-ascii : goal.returns-else-is_empty-clause-ascii
returns-else-is_empty-clause-ascii c = on_ok_weaker c.push_bytes.result (ascii_options c.args.options.now) c.push_bytes.ensures.ascii
