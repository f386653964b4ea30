use Rattle.problem.proofs.Taking.{no_new_follow, gap_refused}
use Rattle.problem.proofs.lines.gap_fault.Goals as goal

pub returns-then-is_new_follow : goal.returns-then-is_new_follow
returns-then-is_new_follow c = λ version x y gap at at' out.
    gap_refused version c.args.items.now c.is_new_follow.ensures.lawful x y c.args.earlier c.args.later gap at at' gap ((c.is_new_follow.ensures.test gap).0 c.if-is_new_follow.true) out

pub returns-else-is_new_follow : goal.returns-else-is_new_follow
returns-else-is_new_follow c = λ version x y gap at at' out.
    no_new_follow version c.args.items.now c.is_new_follow.ensures.lawful x y c.args.earlier c.args.later gap at at' gap (λ new. let yes = (c.is_new_follow.ensures.test gap).1 new in let no = c.if-is_new_follow.false in cc)
