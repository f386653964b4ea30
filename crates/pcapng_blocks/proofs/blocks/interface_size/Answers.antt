use Rattle.std.proofs.Common.{refl}
use Rattle.pcapng_blocks.specs.Texts.{said_interface}
use Rattle.pcapng_blocks.proofs.Written.{interface_length}
use Rattle.pcapng_blocks.proofs.blocks.interface_size.Goals as goal

pub returns : goal.returns
returns c =
    interface_length (said_interface c.args.interface.now) c.option_length.result c.option_length-2.result _ (c.option_length.ensures.is 2) (c.option_length-2.ensures.is 3) refl
