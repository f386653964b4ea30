use Rattle.std.proofs.Common.{refl}
use Rattle.problem.proofs.items.Items.allows_follow.Goals as goal

pub returns-then-is_new_follow : goal.returns-then-is_new_follow
returns-then-is_new_follow c = ((c.if-is_new_follow.ensures.test c.args.f.now.gap).0 refl, tt)

pub returns-else-is_new_follow : goal.returns-else-is_new_follow
returns-else-is_new_follow c new = let yes = (c.if-is_new_follow.ensures.test c.args.f.now.gap).1 new in absurd cc
