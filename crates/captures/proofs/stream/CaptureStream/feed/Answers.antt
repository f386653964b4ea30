use Rattle.std.proofs.Common.{◌≡◌, ◌++◌, Err, arith, rules}
use Rattle.packets.specs.Packets.{seen_packets}
use Rattle.packets.proofs.Collecting.{every_behind, grows_behind}
use Rattle.captures.specs.Feeding.{StandsFor, packets_of}
use Rattle.captures.proofs.stream.CaptureStream.feed.Goals as goal

pub returns-clause-ok : goal.returns-clause-ok
returns-clause-ok c =
    let adds = c.in_ok-next.ensures.ok in
    let items : c.append.new.self.items ≡ c.args.out.now.items ++ c.feed_first.new.out.kept.items = search rules in
    let behind = every_behind adds c.args.out.now.items c.append.new.self.items c.new-first.ensures.none (omega (arith, c.new-first.ensures.most)) items in
    λ s capture stands. grows_behind StandsFor packets_of _ _ capture adds.added (seen_packets c.args.out.now.items) (seen_packets c.append.new.self.items) (adds.are s capture stands) behind

pub returns-in_err-next-clause-fault : goal.returns-in_err-next-clause-fault
returns-in_err-next-clause-fault c =
    let from : c.from_residual.result ≡ Err c.in_err-next.field-0.0 = search rules in
    rw from c.in_err-next.ensures.fault
