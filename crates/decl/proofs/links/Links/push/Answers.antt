use Rattle.std.proofs.Common.{◌≡◌, ℕ, ◌++◌, ◌∷◌, [], List, Option, None, is_some, unwrap_or, ap, sym, ◌∙◌, rules}
use Rattle.decl.specs.Firsts.{bounds_among}
use Rattle.decl.specs.Links.{has_link}
use Rattle.decl.specs.declared.items.Link.{Link}
use Rattle.decl.proofs.LinkTurns.{has_link_more}
use Rattle.decl.proofs.LookingUp.{bounds_more, some_more}
use Rattle.decl.proofs.links.Links.push.Goals as goal

pub invariant_of-self-2 : goal.invariant_of-self-2
invariant_of-self-2 c =
    let links = c.self.inside.list.items in
    let added : Link = c.args.link.now in
    let listed : c.push_reserved.new.self.items ≡ links ++ added ∷ [] = search rules in
    let new = rw (← c.self.view_is) at c.requires.new in
    λ q.
    let held = c.self.invariant q in
    let here = c.in_ok-insert.ensures.updates.0 q in (
      ap is_some here ∙ some_more _ _ _ ∙ has_link_more links added q _ held.0 ∙ ap (λ (all : List Link). has_link all q.0 q.1) (sym listed),
      ap (λ (o : Option (ℕ × Option ℕ)). unwrap_or o (0, None)) here ∙ bounds_more links added c.bounds.result q _ new c.bounds.ensures held.1 ∙ ap (λ (all : List Link). bounds_among all q.0 q.1) (sym listed),
    )
