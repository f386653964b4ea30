use Rattle.std.proofs.Common.{◌∙◌}
use Rattle.ports.proofs.Writing.{writes_as}
use Rattle.pcapng_blocks.proofs.Written.{filler_is}
use Rattle.pcapng_blocks.proofs.options.write_filler.Goals as goal

pub returns : goal.returns
returns g c = writes_as (c.front.ensures ∙ filler_is c.args.length c.missing.result c.missing.ensures.is c.missing.ensures.few) c.write_whole.ensures
