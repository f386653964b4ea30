use Rattle.mergecap.proofs.Links.{links_told}
use Rattle.mergecap.proofs.order.have_one_link.Goals as goal

pub returns : goal.returns
returns c = links_told c.args.kept.now c.link_of.result c.all_have_link.result c.link_of.ensures.value c.all_have_link.ensures
