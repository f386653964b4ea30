use Rattle.std.proofs.Common.{◌≡◌, [], Err, rules}
use Rattle.packets.proofs.Collecting.{adds_weaker}
use Rattle.captures.specs.Formats.{classic_fault}
use Rattle.captures.proofs.Formats.{classic_begins, classic_begins_refused}
use Rattle.captures.proofs.kind.begin_classic.Goals as goal

pub returns-in_err-read-clause-fault : goal.returns-in_err-read-clause-fault
returns-in_err-read-clause-fault c =
    let from : c.from_residual.result ≡ Err (classic_fault c.in_err-read.field-0.0) = search rules in
    rw from (classic_begins_refused c.new.result c.args.piece.now c.in_err-read.field-0.0 c.new.ensures c.requires.classic c.in_err-read.ensures.fault)

pub returns-clause-ok : goal.returns-clause-ok
returns-clause-ok c =
    adds_weaker (λ added all.
    classic_begins c.new.result c.in_ok-read.field-0 c.args.piece.now [] added
    c.new.ensures c.requires.begun c.requires.classic all c.in_ok-read.ensures.size)
    c.in_ok-read.ensures.ok
