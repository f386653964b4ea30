use Rattle.std.proofs.Common.{◌<◌, ℕ, length, All, sym, subst}
use Rattle.widen.proofs.LinkLists.{links_are, links_within}
use Rattle.widen.proofs.links.links_of.Goals as goal

pub returns-clause-are : goal.returns-clause-are
returns-clause-are c =
    let p = c.args.p.now in
    links_are p c.messages.ensures.lawful.formed _ _ _ c.in_ok-links.ensures c.sort_unstable.ensures.permutation c.sort_unstable.ensures.sorted c.dedup.ensures.filtered

pub returns-clause-named : goal.returns-clause-named
returns-clause-named c =
    let p = c.args.p.now in
    let are = links_are p c.messages.ensures.lawful.formed _ _ _ c.in_ok-links.ensures c.sort_unstable.ensures.permutation c.sort_unstable.ensures.sorted c.dedup.ensures.filtered in
    subst (All (λ (l : ℕ × ℕ). (l.0 < length p.clocks) × (l.1 < length p.clocks))) (sym are) (links_within p)
