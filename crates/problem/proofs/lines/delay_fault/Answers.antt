use Rattle.problem.proofs.Taking.{not_new}
use Rattle.problem.proofs.lines.delay_fault.Goals as goal

pub returns-else-is_new_pair : goal.returns-else-is_new_pair
returns-else-is_new_pair c = λ version x y l m at at' out.
    not_new version c.args.items.now c.is_new_pair.ensures.lawful x y c.args.send c.args.receive l m at at' (λ new. let yes = c.is_new_pair.ensures.test.1 new in let no = c.if-is_new_pair.false in cc)
