use Rattle.std.proofs.Common.{◌≡◌, rules, Err, refl}
use Rattle.headers.specs.Frame.{carries}
use Rattle.headers.specs.Packet.{parts_of}
use Rattle.headers.proofs.Steps.{frame_refused, packet_refused, carried_refused, keyed}
use Rattle.headers.proofs.frame.decode.Goals as goal

pub returns-in_err-packet_in : goal.returns-in_err-packet_in
returns-in_err-packet_in c =
    let is : c.from_residual.result ≡ Err c.in_err-packet_in.field-0.0 = search rules in
    rw is (frame_refused c.args.link c.args.frame.now c.args.wanted c.in_err-packet_in.field-0.0 c.in_err-packet_in.ensures.refused)

pub returns-in_err-packet : goal.returns-in_err-packet
returns-in_err-packet c =
    let is : c.from_residual-in_err-packet.result ≡ Err c.in_err-packet.field-0.0 = search rules in
    rw is (packet_refused c.args.link c.args.frame.now c.args.wanted (carries c.in_ok-packet_in.field-0) c.in_err-packet.field-0.0 c.in_ok-packet_in.ensures.found c.in_ok-packet_in.ensures.lawful
    c.in_err-packet.ensures.refused)

pub returns-in_err-transport : goal.returns-in_err-transport
returns-in_err-transport c =
    let is : c.from_residual-in_err-transport.result ≡ Err c.in_err-transport.field-0.0 = search rules in
    let part = carries c.in_ok-packet_in.field-0 in
    rw is (carried_refused c.args.link c.args.frame.now c.args.wanted part c.in_err-transport.field-0.0 c.in_ok-packet_in.ensures.found c.in_ok-packet_in.ensures.lawful
    c.in_ok-packet.ensures.lawful (c.in_err-transport.ensures.refused (parts_of part c.args.wanted) c.in_ok-packet.ensures.read))

pub returns : goal.returns
returns c =
    let part = carries c.in_ok-packet_in.field-0 in
    let read = c.in_ok-packet.ensures.read in
    keyed c.args.link c.args.frame.now c.args.wanted part _ c.in_ok-packet_in.ensures.found c.in_ok-packet_in.ensures.lawful
    c.in_ok-packet.ensures.lawful (c.in_ok-transport.ensures.lawful (parts_of part c.args.wanted) read) (rw (read.network, c.in_ok-transport.ensures.read (parts_of part c.args.wanted) read) refl)
