use Rattle.std.proofs.Common.{arith}
use Rattle.problem.proofs.Joined.{in_order, inside_later, inside_earlier, ends_earlier, begins_later, numbers_apart, one_chain, links_read}
use Rattle.problem.proofs.chains.join.Goals as goal

pub merge-requires-clause-few : goal.merge-requires-clause-few
merge-requires-clause-few c =
    let count = c.requires.2.each in
    let few = c.requires.1.fits.clock_limit in omega (arith, count, few)

pub merge-requires-clause-inside : goal.merge-requires-clause-inside
merge-requires-clause-inside c =
    (inside_earlier c.requires.0 _ c.requires.1.formed c.requires.2 _ c.requires.3, inside_later c.requires.0 _ c.requires.1.formed c.requires.2 _ c.requires.3)

pub merge-requires-clause-last : goal.merge-requires-clause-last
merge-requires-clause-last c = ends_earlier c.requires.0 _ c.requires.1.formed c.requires.2 _ c.requires.3

pub merge-requires-clause-first : goal.merge-requires-clause-first
merge-requires-clause-first c = begins_later c.requires.0 _ c.requires.1.formed c.requires.2 _ c.requires.3

pub merge-requires-clause-apart : goal.merge-requires-clause-apart
merge-requires-clause-apart c = numbers_apart c.requires.0 _ c.requires.1.formed c.requires.2 _ c.requires.3

pub merge-requires-clause-order : goal.merge-requires-clause-order
merge-requires-clause-order c = in_order c.requires.0 _ c.requires.1.formed c.requires.2

pub merge-requires-clause-counted : goal.merge-requires-clause-counted
merge-requires-clause-counted c = c.requires.2.counted

pub returns : goal.returns
returns c p lawful links new =
    let one = one_chain p _ lawful.formed links _ new _ c.merge.ensures in
    links_read p _ lawful.formed links _ new _ one c.index-links-f.result c.index-links-f-2.result
