use Rattle.std.proofs.Common.{◌≤◌, sym, ◌∙◌, arith}
use Rattle.problem.proofs.Renumbering.{starts, goes_on, ends, count_kept, after_known, left_onward, next_onward, end_onward}
use Rattle.problem.proofs.chains.renumber_onward.Goals as goal

pub loop-follow-init : goal.loop-follow-init
loop-follow-init c =
    starts _ _ _ _ c.requires.inside (λ k within same. left_onward _ c.requires.order c.args.first k c.requires.inside c.requires.first same)

pub loop-follow-preserved : goal.loop-follow-preserved
loop-follow-preserved c =
    let way = c.loop-follow.invariant in
    let is = c.in-Some.ensures.links in
    let after = after_known _ _ _ _ _ _ _ way is _ c.in-Some.ensures.after in
    let next = c.requires.order.onward c.loop-follow.clock c.in-Some.follow after in
    goes_on _ _ _ _ _ _ _ way is _ (λ k. c.in-Some.follow.later ≤ k) next.inside (next.one_number ∙ way.here)
    (λ k within same left. next_onward _ c.requires.order c.loop-follow.clock k c.in-Some.follow after (same ∙ sym way.here) left)

pub loop-follow-smaller : goal.loop-follow-smaller
loop-follow-smaller c =
    let way = c.loop-follow.invariant in
    let is = c.in-Some.ensures.links in
    let after = after_known _ _ _ _ _ _ _ way is _ c.in-Some.ensures.after in
    let next = c.requires.order.onward c.loop-follow.clock c.in-Some.follow after in
    let behind = next.behind in
    let inside = next.inside in
    let before = way.count in
    let count = count_kept _ _ _ _ _ _ _ way is in
    omega (arith, behind, inside, before, count)

pub returns : goal.returns
returns c =
    let way = c.loop-follow.invariant in
    let is = c.in_default.ensures.links in
    let none = after_known _ _ _ _ _ _ _ way is _ c.in_default.ensures.after in
    ends _ _ _ _ _ _ _ way is (λ k within same left. end_onward _ c.requires.order c.loop-follow.clock k within none (same ∙ sym way.here) left)
