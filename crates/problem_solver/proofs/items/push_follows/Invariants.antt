use Rattle.std.proofs.Common.{◌-◌, length}
use Rattle.problem_solver.specs.Items.{AreItems, items_of}
use Rattle.problem_solver.proofs.items.push_follows.Given as goal

abbrev pub invariant-loop-place : goal.invariant-loop-place
invariant-loop-place l = AreItems l.p l.readings (length l.readings - 1) l.place 0 0 (items_of l.items.items)
