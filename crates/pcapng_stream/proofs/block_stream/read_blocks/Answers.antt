use Rattle.std.proofs.Common.{◌≡◌, ◌+◌, ◌-◌, [], Err, length, refl, arith, rules}
use Rattle.packets.proofs.Collecting.{adds_then}
use Rattle.pcapng_stream.specs.Inside.{section_of}
use Rattle.pcapng_stream.proofs.Reading.{block_read, blocks_end, later_fault, next_behind, read_few}
use Rattle.pcapng_stream.proofs.block_stream.read_blocks.Goals as goal

pub returns-in_err-size-clause-fault : goal.returns-in_err-size-clause-fault
returns-in_err-size-clause-fault c =
    let from : c.from_residual.result ≡ Err c.in_err-size.field-0.0 = search rules in
    rw from (later_fault (section_of c.args.section.now) c.args.bytes.now c.walk.left.now (section_of c.walk.section) c.args.passed.now c.walk.passed [] c.walk.invariant.added
    c.args.place (c.args.place + (length c.args.bytes.now - length c.walk.left.now)) c.in_err-size.field-0.0 c.walk.invariant.are c.in_err-size.ensures.fault refl)

pub walk-preserved : goal.walk-preserved
walk-preserved c =
    let found = rw c.in-Some.is at c.in_ok-size.ensures.ok in
    adds_then (λ some more read next.
    block_read (section_of c.args.section.now) c.args.bytes.now c.walk.left.now c.in-Some.size (section_of c.walk.section) (section_of c.read_block.new.section) c.args.passed.now c.walk.passed c.read_block.new.passed [] some _ read
    (next_behind (section_of c.walk.section) c.walk.left.now c.in-Some.size (section_of c.read_block.new.section) c.walk.passed c.read_block.new.passed some more next))
    c.walk.invariant found

pub returns-clause-ok : goal.returns-clause-ok
returns-clause-ok c =
    let found = rw c.in_default.is at c.in_ok-size.ensures.ok in
    adds_then (λ some more read ended.
    blocks_end (section_of c.args.section.now) c.args.bytes.now c.walk.left.now (section_of c.walk.section) (section_of c.read_block.new.section) c.args.passed.now c.walk.passed c.read_block.new.passed some more read ended)
    c.walk.invariant found

-- fewer packets were passed over so far than bytes came
pub read_block-requires : goal.read_block-requires
read_block-requires c =
    let few = read_few (section_of c.args.section.now) c.args.bytes.now c.walk.left.now (section_of c.walk.section) c.args.passed.now c.walk.passed [] c.walk.invariant.added c.walk.invariant.are in
    omega (arith, few, c.requires.few, c.requires.early)
