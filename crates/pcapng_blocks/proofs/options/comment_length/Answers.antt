use Rattle.std.proofs.Common.{sym, ◌∙◌, arith}
use Rattle.pcapng_blocks.proofs.Written.{comment_of}
use Rattle.pcapng_blocks.proofs.options.comment_length.Goals as goal

pub returns-clause-is : goal.returns-clause-is
returns-clause-is c = omega (arith, c.option_length.ensures.is 1, comment_of c.args.comment.now (sym c.is_empty.ensures ∙ c.if-is_empty.false))
