use Rattle.std.proofs.Common.{take}
use Rattle.std.specs.List.{flat_map}
use Rattle.problem_solver.specs.Items.{bounds_of, items_of}
use Rattle.problem_solver.specs.Pushing.{AddsBounds}
use Rattle.problem_solver.proofs.pushes.push_items.Given as goal

-- the bounds of the items before this place came
abbrev pub invariant-loop-ranked : goal.invariant-loop-ranked
invariant-loop-ranked g l = AddsBounds l.p (flat_map (bounds_of l.p l.readings) (items_of (take l.ranked-index l.items))) l.initial.s l.s
