use Rattle.std.proofs.Common.{◌≡◌, [], Err, subst, rules}
use Rattle.packets.proofs.Collecting.{adds_weaker}
use Rattle.captures.specs.Feeding.{Tail}
use Rattle.captures.specs.Kept.{GoesOn, IsRefused}
use Rattle.captures.proofs.Standing.{grown_by, refused_by}
use Rattle.captures.proofs.stream.CaptureStream.read.Goals as goal

pub returns-in_err-kind-clause-fault : goal.returns-in_err-kind-clause-fault
returns-in_err-kind-clause-fault c =
    let from : c.from_residual.result ≡ Err c.in_err-kind.field-0.0 = search rules in
    rw from (refused_by c.args.self.now c.args.piece.now c.in_err-kind.field-0.0
    (subst (λ (t : Tail). IsRefused t c.args.piece.now c.in_err-kind.field-0.0) c.self.view_is c.in_err-kind.ensures.fault))

pub returns-clause-ok : goal.returns-clause-ok
returns-clause-ok c =
    adds_weaker (λ added all.
    grown_by c.args.self.now c.args.piece.now _ [] added (subst (λ (t : Tail). GoesOn t c.args.piece.now [] added c.in_ok-kind.kind) c.self.view_is all).grows)
    c.in_ok-kind.ensures.ok
