use Rattle.merged_blocks.proofs.ReadBack.{is_written, read_back}
use Rattle.merged_blocks.proofs.laws.files_are_read_back.Goals as goal

pub returns-clause-written : goal.returns-clause-written
returns-clause-written c = is_written

pub returns-clause-read : goal.returns-clause-read
returns-clause-read c = read_back c.files_are_read.ensures
