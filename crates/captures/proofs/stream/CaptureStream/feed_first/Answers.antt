use Rattle.std.proofs.Common.{◌∙◌, []}
use Rattle.packets.proofs.Collecting.{adds_weaker}
use Rattle.captures.proofs.stream.CaptureStream.feed_first.Goals as goal

pub append-requires : goal.append-requires
append-requires c = c.in_ok-next.ensures.ok.most ∙ c.behind-packets.ensures.room

pub returns-clause-ok : goal.returns-clause-ok
returns-clause-ok c =
    let read = c.in_ok-next.ensures.ok in
    let appended = c.in_ok-append.ensures.appended read.added (read.keeps [] c.behind-packets.ensures.none) in
    adds_weaker (λ added same. rw same read.are) appended
