use Rattle.std.proofs.Common.{arith}
use Rattle.problem.proofs.Counted.{sizes_fit}
use Rattle.problem.proofs.chains.merge.Goals as goal

pub overflow_add-links : goal.overflow_add-links
overflow_add-links c =
    let fit = sizes_fit c.args.links.now _ _ c.requires.apart in
    let one = c.size_of-ahead.ensures in
    let other = c.size_of-behind.ensures in
    let few = c.requires.few in omega (arith, fit, one, other, few)

pub overflow_add-links-else-ahead-behind : goal.overflow_add-links-else-ahead-behind
overflow_add-links-else-ahead-behind c =
    let fit = sizes_fit c.args.links.now _ _ c.requires.apart in
    let one = c.size_of-ahead.ensures in
    let other = c.size_of-behind.ensures in
    let few = c.requires.few in omega (arith, fit, one, other, few)
