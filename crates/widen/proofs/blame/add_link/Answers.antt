use Rattle.std.proofs.Common.{◌∷◌}
use Rattle.cert_check.specs.declared.what.Links.TheVariants as links
use Rattle.cert_check.specs.declared.what.What.TheVariants.{Least}
use Rattle.widen.proofs.blame.add_link.Goals as goal

pub returns-clause-lines : goal.returns-clause-lines
returns-clause-lines g c = λ rest so_far. c.in_ok-add_found-2.ensures.lines rest (c.in_ok-add_found.ensures.lines (Least (links.Between c.args.link.now.0 c.args.link.now.1) ∷ rest) so_far)
