use Rattle.pcapng_blocks.proofs.ReadBack.{read_back}
use Rattle.pcapng_blocks.proofs.laws.files_are_read.Goals as goal

pub returns : goal.returns
returns c = read_back
