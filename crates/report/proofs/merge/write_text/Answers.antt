use Rattle.std.proofs.Common.{◌∷◌, []}
use Rattle.ports.proofs.Writing.{writes_then, writes_front, writes_failed}
use Rattle.report.proofs.merge.write_text.Goals as goal

pub returns-in_err-write_whole : goal.returns-in_err-write_whole
returns-in_err-write_whole g c = writes_failed c.from_residual.ensures.0 (writes_front _ (writes_front _ c.in_err-write_whole.ensures))

pub returns-in_err-write_whole-2 : goal.returns-in_err-write_whole-2
returns-in_err-write_whole-2 g c = writes_failed c.from_residual-in_err-write_whole-2.ensures.0 (writes_front _ (writes_then c.in_ok-write_whole.ensures c.in_err-write_whole-2.ensures))

pub returns : goal.returns
returns g c = writes_then (writes_then c.in_ok-write_whole.ensures c.in_ok-write_whole-2.ensures) c.write_whole-3.ensures
