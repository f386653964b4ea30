use Rattle.std.proofs.Common.{arith}
use Rattle.event_log.proofs.Rows.{every_row}
use Rattle.event_log.proofs.read.read_rows.Goals as goal

pub returns-clause-rows : goal.returns-clause-rows
returns-clause-rows c = every_row c.args.piece.now _ c.in_ok-rows.rows c.in_ok-rows.ensures.rows (omega arith)
