use Rattle.std.proofs.Common.{rules}
use Rattle.problem_text.proofs.Paging.{puts_held}
use Rattle.problem_text.proofs.pages.put.Goals as goal

pub returns-then-is_ok : goal.returns-then-is_ok
returns-then-is_ok g c = puts_held c.args.piece.now c.args.page.now.items _ (g.O.Sink.told c.args.out.now) (search rules)
