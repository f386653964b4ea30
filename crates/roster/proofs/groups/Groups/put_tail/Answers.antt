use Rattle.std.proofs.Common.{◌≡◌, ℕ, ◌<◌, ◌++◌, length, take, set, refl, sym, ◌∙◌, ap, subst, arith, rules}
use Rattle.roster.specs.Groups.{total}
use Rattle.roster.proofs.GroupSizes.{write_is, write_none, size_written, length_there, fits_then, length_fits, sizes_stay, tail_fits, in_err}
use Rattle.roster.proofs.groups.Groups.put_tail.Goals as goal

pub invariant_of-self : goal.invariant_of-self
invariant_of-self g c =
    sizes_stay c.self.inside.lists.items c.self.inside.sizes c.args.self.now c.args.g c.index_mut.result.now c.put_behind.new.list c.self.view_is c.index_mut.ensures.value c.requires.group c.self.invariant
    (λ l. l) c.in_err-put_behind.ensures.err refl

pub returns-in_err-put_behind-clause-err : goal.returns-in_err-put_behind-clause-err
returns-in_err-put_behind-clause-err g c =
    in_err c.from_residual.result _
    (write_none c.self.inside.lists.items c.self.inside.sizes c.args.self.now c.args.g c.index_mut.result.now c.put_behind.new.list c.self.view_is c.index_mut.ensures.value c.requires.group c.self.invariant
    c.in_err-put_behind.ensures.err)

pub overflow_cast-len : goal.overflow_cast-len
overflow_cast-len g c =
    let len : c.len.result ≡ length c.index.result.now.items = search rules in
    let long = length_there c.self.inside.lists.items c.self.inside.sizes c.args.self.now c.args.g c.index_mut.result.now c.put_behind.new.list c.self.view_is c.index_mut.ensures.value c.requires.group c.self.invariant c.len.result c.index.result.now len c.index.ensures in
    let fits : total (set c.self.inside.sizes c.args.g (length c.put_behind.new.list.items)) < 4294967296 =
    fits_then c.self.inside.lists.items c.self.inside.sizes c.args.self.now c.args.g c.index_mut.result.now c.put_behind.new.list c.self.view_is c.index_mut.ensures.value c.requires.group c.self.invariant
    (λ l. take c.args.from l ++ c.args.tail.now) (length c.args.tail.now) 4294967296 c.in_ok-put_behind.ensures.ok (tail_fits c.args.from _ c.args.tail.now) c.requires.few in
    let small : length c.put_behind.new.list.items < 4294967296 = length_fits c.self.inside.lists.items c.self.inside.sizes c.args.self.now c.args.g c.index_mut.result.now c.put_behind.new.list c.self.view_is c.index_mut.ensures.value c.requires.group c.self.invariant 4294967296 fits in
    let short : c.len.result < 4294967296 = omega (arith, long, small) in
    search rules

pub set-requires-clause-fits : goal.set-requires-clause-fits
set-requires-clause-fits g c =
    let len : c.len.result ≡ length c.index.result.now.items = search rules in
    let long = length_there c.self.inside.lists.items c.self.inside.sizes c.args.self.now c.args.g c.index_mut.result.now c.put_behind.new.list c.self.view_is c.index_mut.ensures.value c.requires.group c.self.invariant c.len.result c.index.result.now len c.index.ensures in
    let fits : total (set c.self.inside.sizes c.args.g (length c.put_behind.new.list.items)) < 4294967296 =
    fits_then c.self.inside.lists.items c.self.inside.sizes c.args.self.now c.args.g c.index_mut.result.now c.put_behind.new.list c.self.view_is c.index_mut.ensures.value c.requires.group c.self.invariant
    (λ l. take c.args.from l ++ c.args.tail.now) (length c.args.tail.now) 4294967296 c.in_ok-put_behind.ensures.ok (tail_fits c.args.from _ c.args.tail.now) c.requires.few in
    subst (λ (n : ℕ). total (set c.self.inside.sizes c.args.g n) < 4294967296) (sym long) fits

pub invariant_of-self-2 : goal.invariant_of-self-2
invariant_of-self-2 g c =
    let len : c.len.result ≡ length c.index.result.now.items = search rules in
    let long = length_there c.self.inside.lists.items c.self.inside.sizes c.args.self.now c.args.g c.index_mut.result.now c.put_behind.new.list c.self.view_is c.index_mut.ensures.value c.requires.group c.self.invariant c.len.result c.index.result.now len c.index.ensures in
    c.set.ensures ∙ ap (λ (n : ℕ). set c.self.inside.sizes c.args.g n) long ∙ size_written c.self.inside.lists.items c.self.inside.sizes c.args.self.now c.args.g c.index_mut.result.now c.put_behind.new.list c.self.view_is c.index_mut.ensures.value c.requires.group c.self.invariant

pub returns-clause-ok : goal.returns-clause-ok
returns-clause-ok g c =
    write_is c.self.inside.lists.items c.self.inside.sizes c.args.self.now c.args.g c.index_mut.result.now c.put_behind.new.list c.self.view_is c.index_mut.ensures.value c.requires.group c.self.invariant
    (λ l. take c.args.from l ++ c.args.tail.now) c.in_ok-put_behind.ensures.ok
