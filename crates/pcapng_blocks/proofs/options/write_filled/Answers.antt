use Rattle.std.proofs.Common.{length}
use Rattle.ports.proofs.Writing.{writes_failed, writes_front, writes_then}
use Rattle.pcapng_blocks.specs.Bytes.{filler}
use Rattle.pcapng_blocks.proofs.options.write_filled.Goals as goal

pub returns-in_err-write_whole : goal.returns-in_err-write_whole
returns-in_err-write_whole g c = writes_failed c.from_residual.ensures.0 (writes_front (filler (length c.args.bytes.now)) c.in_err-write_whole.ensures)

pub returns : goal.returns
returns g c = writes_then c.in_ok-write_whole.ensures c.write_filler.ensures
