use Rattle.std.proofs.Common.{rules}
use Rattle.ports.proofs.Writing.{writes_as}
use Rattle.problem_text.proofs.Paging.{puts_failed, puts_long, puts_turned}
use Rattle.problem_text.proofs.pages.turn.Goals as goal

pub returns-in_err-write_whole : goal.returns-in_err-write_whole
returns-in_err-write_whole g c = puts_failed c.args.piece.now c.args.page.now.items _ c.from_residual.ensures.0 (writes_as c.as_slice.ensures.value c.in_err-write_whole.ensures)

pub returns-then-is_ok : goal.returns-then-is_ok
returns-then-is_ok g c = puts_turned c.args.piece.now c.args.page.now.items _ (writes_as c.as_slice.ensures.value c.in_ok-write_whole.ensures) (search rules)

pub returns : goal.returns
returns g c = puts_long c.args.piece.now c.args.page.now.items _ (writes_as c.as_slice.ensures.value c.in_ok-write_whole.ensures) (search rules) c.write_whole-2.ensures
