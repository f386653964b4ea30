use Rattle.event_log.proofs.Fronts.{answers_fault, answers_rows}
use Rattle.event_log.proofs.read.read_first_rows.Goals as goal

pub returns-clause-rows : goal.returns-clause-rows
returns-clause-rows c = answers_rows c.args.piece.now _ c.args.most _ c.short_front.ensures.front c.read_records.ensures.rows

pub returns-clause-fault : goal.returns-clause-fault
returns-clause-fault c = answers_fault c.args.piece.now _ _ c.short_front.ensures.front c.read_records.ensures.fault
