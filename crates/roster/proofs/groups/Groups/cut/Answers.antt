use Rattle.std.proofs.Common.{◌≡◌, ℕ, ◌<◌, length, take, set, sym, ◌∙◌, ap, subst, arith, rules}
use Rattle.roster.specs.Groups.{total, sizes_of}
use Rattle.roster.proofs.GroupSizes.{write_is, size_written, length_there, fits_then, length_fits, cut_fits}
use Rattle.roster.proofs.groups.Groups.cut.Goals as goal

pub overflow_cast-len : goal.overflow_cast-len
overflow_cast-len g c =
    let len : c.len.result ≡ length c.index.result.now.items = search rules in
    let long = length_there c.self.inside.lists.items c.self.inside.sizes c.args.self.now c.args.g c.index_mut.result.now c.truncate.new.self c.self.view_is c.index_mut.ensures.value c.requires.group c.self.invariant c.len.result c.index.result.now len c.index.ensures in
    let fits : total (set c.self.inside.sizes c.args.g (length c.truncate.new.self.items)) < 4294967296 =
    fits_then c.self.inside.lists.items c.self.inside.sizes c.args.self.now c.args.g c.index_mut.result.now c.truncate.new.self c.self.view_is c.index_mut.ensures.value c.requires.group c.self.invariant
    (take c.args.from) 0 4294967296 c.truncate.ensures.items (cut_fits c.args.from _) (let few : total (sizes_of c.args.self.now) < 4294967296 = c.requires.few in omega (arith, few)) in
    let small : length c.truncate.new.self.items < 4294967296 = length_fits c.self.inside.lists.items c.self.inside.sizes c.args.self.now c.args.g c.index_mut.result.now c.truncate.new.self c.self.view_is c.index_mut.ensures.value c.requires.group c.self.invariant 4294967296 fits in
    let short : c.len.result < 4294967296 = omega (arith, long, small) in
    search rules

pub set-requires-clause-fits : goal.set-requires-clause-fits
set-requires-clause-fits g c =
    let len : c.len.result ≡ length c.index.result.now.items = search rules in
    let long = length_there c.self.inside.lists.items c.self.inside.sizes c.args.self.now c.args.g c.index_mut.result.now c.truncate.new.self c.self.view_is c.index_mut.ensures.value c.requires.group c.self.invariant c.len.result c.index.result.now len c.index.ensures in
    let fits : total (set c.self.inside.sizes c.args.g (length c.truncate.new.self.items)) < 4294967296 =
    fits_then c.self.inside.lists.items c.self.inside.sizes c.args.self.now c.args.g c.index_mut.result.now c.truncate.new.self c.self.view_is c.index_mut.ensures.value c.requires.group c.self.invariant
    (take c.args.from) 0 4294967296 c.truncate.ensures.items (cut_fits c.args.from _) (let few : total (sizes_of c.args.self.now) < 4294967296 = c.requires.few in omega (arith, few)) in
    subst (λ (n : ℕ). total (set c.self.inside.sizes c.args.g n) < 4294967296) (sym long) fits

pub invariant_of-self : goal.invariant_of-self
invariant_of-self g c =
    let len : c.len.result ≡ length c.index.result.now.items = search rules in
    let long = length_there c.self.inside.lists.items c.self.inside.sizes c.args.self.now c.args.g c.index_mut.result.now c.truncate.new.self c.self.view_is c.index_mut.ensures.value c.requires.group c.self.invariant c.len.result c.index.result.now len c.index.ensures in
    c.set.ensures ∙ ap (λ (n : ℕ). set c.self.inside.sizes c.args.g n) long ∙ size_written c.self.inside.lists.items c.self.inside.sizes c.args.self.now c.args.g c.index_mut.result.now c.truncate.new.self c.self.view_is c.index_mut.ensures.value c.requires.group c.self.invariant

pub returns : goal.returns
returns g c =
    write_is c.self.inside.lists.items c.self.inside.sizes c.args.self.now c.args.g c.index_mut.result.now c.truncate.new.self c.self.view_is c.index_mut.ensures.value c.requires.group c.self.invariant
    (take c.args.from) c.truncate.ensures.items
