use Rattle.std.proofs.Common.{◌≡◌, List, ap, ◌∙◌, rules}
use Rattle.decl.specs.Firsts.{bounds_among}
use Rattle.decl.specs.declared.items.Link.{Link}
use Rattle.decl.proofs.LookingUp.{bounds_found, bounds_lacking}
use Rattle.decl.proofs.links.Links.bounds_of.Goals as goal

pub returns-in-Some : goal.returns-in-Some
returns-in-Some c =
    bounds_found _ c.in-Some.found.now _ c.in-Some.ensures.value ((c.self.invariant (c.args.from, c.args.to)).1 ∙ ap (λ (links : List Link). bounds_among links c.args.from c.args.to) c.self.view_is)

pub returns-in-None : goal.returns-in-None
returns-in-None c =
    let zero : c.unwrap.result ≡ 0 = search rules in
    bounds_lacking _ c.unwrap.result _ c.in-None.ensures.value zero ((c.self.invariant (c.args.from, c.args.to)).1 ∙ ap (λ (links : List Link). bounds_among links c.args.from c.args.to) c.self.view_is)
