use Rattle.std.proofs.Common.{◌≡◌, [], Err, rules}
use Rattle.packets.proofs.Collecting.{adds_weaker}
use Rattle.captures.specs.Formats.{pcapng_fault}
use Rattle.captures.proofs.Formats.{blocks_begin, blocks_begin_refused}
use Rattle.captures.proofs.kind.begin_blocks.Goals as goal

pub returns-in_err-read-clause-fault : goal.returns-in_err-read-clause-fault
returns-in_err-read-clause-fault c =
    let from : c.from_residual.result ≡ Err (pcapng_fault c.in_err-read.field-0.0) = search rules in
    rw from (blocks_begin_refused c.new.result c.args.piece.now c.in_err-read.field-0.0 c.new.ensures c.requires.pcapng c.in_err-read.ensures.fault)

pub returns-clause-ok : goal.returns-clause-ok
returns-clause-ok c =
    adds_weaker (λ added all.
    blocks_begin c.new.result c.in_ok-read.field-0 c.args.piece.now [] added
    c.new.ensures c.requires.pcapng all c.in_ok-read.ensures.size)
    c.in_ok-read.ensures.ok
