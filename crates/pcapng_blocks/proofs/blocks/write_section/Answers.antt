use Rattle.std.proofs.Common.{◌∙◌}
use Rattle.ports.proofs.Writing.{writes_as, writes_failed, writes_front, writes_then}
use Rattle.pcapng_blocks.specs.Bytes.{comment_options, four_bytes}
use Rattle.pcapng_blocks.proofs.Written.{section_as}
use Rattle.pcapng_blocks.proofs.blocks.write_section.Goals as goal

pub returns-in_err-write_whole : goal.returns-in_err-write_whole
returns-in_err-write_whole g c =
    let n = c.section_size-size.result in
    writes_failed c.from_residual.ensures.0 (writes_as (section_as c.args.comment.now n c.section_size-size.ensures)
    (writes_front (four_bytes n) (writes_front (comment_options c.args.comment.now) (writes_as (c.as_slice.ensures.value ∙ c.section_head.ensures) c.in_err-write_whole.ensures))))

pub returns-in_err-write_comment : goal.returns-in_err-write_comment
returns-in_err-write_comment g c =
    let n = c.section_size-size.result in
    writes_failed c.from_residual-in_err-write_comment.ensures.0 (writes_as (section_as c.args.comment.now n c.section_size-size.ensures)
    (writes_front (four_bytes n) (writes_then (writes_as (c.as_slice.ensures.value ∙ c.section_head.ensures) c.in_ok-write_whole.ensures) c.in_err-write_comment.ensures)))

pub returns : goal.returns
returns g c =
    let n = c.section_size-size.result in
    writes_as (section_as c.args.comment.now n c.section_size-size.ensures)
    (writes_then (writes_then (writes_as (c.as_slice.ensures.value ∙ c.section_head.ensures) c.in_ok-write_whole.ensures) c.in_ok-write_comment.ensures) c.write_size.ensures)
