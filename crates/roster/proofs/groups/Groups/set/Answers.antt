use Rattle.std.proofs.Common.{set}
use Rattle.std.proofs.lemmas.List.{length-set}
use Rattle.roster.proofs.GroupSizes.{write_is, sizes_stay}
use Rattle.roster.proofs.groups.Groups.set.Goals as goal

pub invariant_of-self : goal.invariant_of-self
invariant_of-self g c =
    sizes_stay c.self.inside.lists.items c.self.inside.sizes c.args.self.now c.args.g c.index_mut.result.now c.write.new.list c.self.view_is c.index_mut.ensures.value c.requires.group c.self.invariant
    (λ l. set l c.args.k c.args.element) c.write.ensures (length-set _ c.args.k c.args.element)

pub returns : goal.returns
returns g c =
    write_is c.self.inside.lists.items c.self.inside.sizes c.args.self.now c.args.g c.index_mut.result.now c.write.new.list c.self.view_is c.index_mut.ensures.value c.requires.group c.self.invariant
    (λ l. set l c.args.k c.args.element) c.write.ensures
