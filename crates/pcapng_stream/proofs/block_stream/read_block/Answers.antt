use Rattle.std.proofs.Common.{◌≡◌, Err, rules}
use Rattle.pcapng_stream.specs.Inside.{IsFirst, block_of, section_of}
use Rattle.pcapng_stream.proofs.Reading.{flaw_here}
use Rattle.pcapng_stream.proofs.block_stream.read_block.Goals as goal

pub returns-in_err-take_block-clause-fault : goal.returns-in_err-take_block-clause-fault
returns-in_err-take_block-clause-fault c =
    let from : c.from_residual.result ≡ Err c.in_err-take_block.field-0.0 = search rules in
    let first : IsFirst c.args.section.now.order c.args.bytes.now (block_of c.in-Ok-Some.block) = search rules in
    rw from (flaw_here (section_of c.args.section.now) c.args.bytes.now c.args.place (block_of c.in-Ok-Some.block) c.in_err-take_block.field-0.0 first c.in_err-take_block.ensures.fault)
