use Rattle.cert_check.proofs.Rising.{found_is}
use Rattle.cert_check.proofs.cut.has_clock.Goals as goal

pub returns : goal.returns
returns c = rw (c.is_ok.ensures.value) (found_is c.args.inside.now c.args.clock c.binary_search.result c.requires c.binary_search.ensures.position)
