use Rattle.std.proofs.Common.{List, ap, ◌∙◌}
use Rattle.decl.specs.Links.{has_link}
use Rattle.decl.specs.declared.items.Link.{Link}
use Rattle.decl.proofs.links.Links.has.Goals as goal

pub returns : goal.returns
returns c =
    c.contains_key.ensures ∙ (c.self.invariant (c.args.from, c.args.to)).0 ∙ ap (λ (links : List Link). has_link links c.args.from c.args.to) c.self.view_is
