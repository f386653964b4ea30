use Rattle.std.proofs.Common.{sym, ◌∙◌}
use Rattle.ports.proofs.Writing.{writes_as, writes_failed, writes_front, writes_then}
use Rattle.pcapng_blocks.specs.Bytes.{end_of_options}
use Rattle.pcapng_blocks.proofs.Written.{comment_some}
use Rattle.pcapng_blocks.proofs.options.write_comment.Goals as goal

pub returns-in_err-write_option : goal.returns-in_err-write_option
returns-in_err-write_option g c =
    writes_failed c.from_residual.ensures.0
    (writes_as (sym (comment_some c.args.comment.now (sym c.is_empty.ensures ∙ c.if-is_empty.false))) (writes_front end_of_options c.in_err-write_option.ensures))

pub returns : goal.returns
returns g c =
    writes_as (sym (comment_some c.args.comment.now (sym c.is_empty.ensures ∙ c.if-is_empty.false))) (writes_then c.in_ok-write_option.ensures c.write_whole.ensures)
