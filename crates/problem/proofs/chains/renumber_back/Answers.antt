use Rattle.std.proofs.Common.{◌≤◌, sym, ◌∙◌, arith}
use Rattle.problem.proofs.Renumbering.{starts, goes_on, ends, before_known, left_back, next_back, end_back}
use Rattle.problem.proofs.chains.renumber_back.Goals as goal

pub loop-follow-init : goal.loop-follow-init
loop-follow-init c =
    starts _ _ _ _ c.requires.inside (λ k within same. left_back _ c.requires.order c.args.last k within c.requires.last same)

pub loop-follow-preserved : goal.loop-follow-preserved
loop-follow-preserved c =
    let way = c.loop-follow.invariant in
    let is = c.in-Some.ensures.links in
    let before = before_known _ _ _ _ _ _ _ way is _ c.in-Some.ensures.before in
    let next = c.requires.order.back c.loop-follow.clock c.in-Some.follow before in
    let behind = next.behind in
    let inside = next.inside in
    goes_on _ _ _ _ _ _ _ way is _ (λ k. k ≤ c.in-Some.follow.earlier) (omega (arith, behind, inside)) (sym next.one_number ∙ way.here)
    (λ k within same left. next_back _ c.requires.order c.loop-follow.clock k c.in-Some.follow before (same ∙ sym way.here) left)

pub loop-follow-smaller : goal.loop-follow-smaller
loop-follow-smaller c =
    let before = before_known _ _ _ _ _ _ _ c.loop-follow.invariant c.in-Some.ensures.links _ c.in-Some.ensures.before in
    (c.requires.order.back c.loop-follow.clock c.in-Some.follow before).behind

pub returns : goal.returns
returns c =
    let way = c.loop-follow.invariant in
    let is = c.in_default.ensures.links in
    let none = before_known _ _ _ _ _ _ _ way is _ c.in_default.ensures.before in
    ends _ _ _ _ _ _ _ way is (λ k within same left. end_back _ c.requires.order c.loop-follow.clock k way.inside none (same ∙ sym way.here) left)
