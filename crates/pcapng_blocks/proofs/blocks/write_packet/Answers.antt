use Rattle.std.proofs.Common.{◌∙◌}
use Rattle.ports.proofs.Writing.{writes_as, writes_failed, writes_front, writes_then}
use Rattle.pcapng_blocks.specs.Bytes.{comment_options, filled, four_bytes}
use Rattle.pcapng_blocks.specs.Texts.{said_packet}
use Rattle.pcapng_blocks.proofs.Written.{packet_as}
use Rattle.pcapng_blocks.proofs.blocks.write_packet.Goals as goal

pub returns-in_err-write_whole : goal.returns-in_err-write_whole
returns-in_err-write_whole g c =
    let n = c.packet_size-size.result in
    let p = said_packet c.args.packet.now in
    writes_failed c.from_residual.ensures.0 (writes_as (packet_as p n c.packet_size-size.ensures)
    (writes_front (four_bytes n) (writes_front (comment_options p.comment) (writes_front (filled p.bytes) (writes_as (c.as_slice.ensures.value ∙ c.packet_head.ensures) c.in_err-write_whole.ensures)))))

pub returns-in_err-write_filled : goal.returns-in_err-write_filled
returns-in_err-write_filled g c =
    let n = c.packet_size-size.result in
    let p = said_packet c.args.packet.now in
    writes_failed c.from_residual-in_err-write_filled.ensures.0 (writes_as (packet_as p n c.packet_size-size.ensures)
    (writes_front (four_bytes n) (writes_front (comment_options p.comment) (writes_then (writes_as (c.as_slice.ensures.value ∙ c.packet_head.ensures) c.in_ok-write_whole.ensures) c.in_err-write_filled.ensures))))

pub returns-in_err-write_comment : goal.returns-in_err-write_comment
returns-in_err-write_comment g c =
    let n = c.packet_size-size.result in
    let p = said_packet c.args.packet.now in
    writes_failed c.from_residual-in_err-write_comment.ensures.0 (writes_as (packet_as p n c.packet_size-size.ensures)
    (writes_front (four_bytes n) (writes_then (writes_then (writes_as (c.as_slice.ensures.value ∙ c.packet_head.ensures) c.in_ok-write_whole.ensures) c.in_ok-write_filled.ensures) c.in_err-write_comment.ensures)))

pub returns : goal.returns
returns g c =
    let n = c.packet_size-size.result in
    let p = said_packet c.args.packet.now in
    writes_as (packet_as p n c.packet_size-size.ensures)
    (writes_then (writes_then (writes_then (writes_as (c.as_slice.ensures.value ∙ c.packet_head.ensures) c.in_ok-write_whole.ensures) c.in_ok-write_filled.ensures) c.in_ok-write_comment.ensures) c.write_size.ensures)
