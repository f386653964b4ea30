use Rattle.std.proofs.Common.{refl}
use Rattle.pcapng_blocks.specs.Texts.{said_packet}
use Rattle.pcapng_blocks.proofs.Written.{packet_sum}
use Rattle.pcapng_blocks.proofs.blocks.packet_size.Goals as goal

pub returns : goal.returns
returns c = packet_sum (said_packet c.args.packet.now) c.padded.result c.comment_length.result _ c.padded.ensures c.comment_length.ensures.is refl
