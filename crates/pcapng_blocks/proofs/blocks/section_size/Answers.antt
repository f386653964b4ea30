use Rattle.std.proofs.Common.{refl}
use Rattle.pcapng_blocks.proofs.Written.{section_length}
use Rattle.pcapng_blocks.proofs.blocks.section_size.Goals as goal

pub returns : goal.returns
returns c = section_length c.args.comment.now c.comment_length.result _ c.comment_length.ensures.is refl
