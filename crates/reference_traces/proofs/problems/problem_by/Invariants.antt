use Rattle.std.proofs.Common.{◌≡◌, [], take}
use Rattle.decl.specs.Declaration.{declaration_of}
use Rattle.traces.specs.Held.{placed_in}
use Rattle.traces.specs.Making.{problem_by}
use Rattle.reference_traces.proofs.Growth.{clocks_alone}
use Rattle.reference_traces.proofs.Follows.{followed}
use Rattle.reference_traces.proofs.problems.problem_by.Given as goal

abbrev pub invariant-loop-clock : goal.invariant-loop-clock
invariant-loop-clock l = l.p ≡ clocks_alone (take l.clock-index l.decl.clocks.items)

abbrev pub invariant-loop-place : goal.invariant-loop-place
invariant-loop-place l = l.p ≡ followed (declaration_of l.decl) l.place

abbrev pub invariant-loop-event : goal.invariant-loop-event
invariant-loop-event l = l.p ≡ problem_by (declaration_of l.decl) (take l.event-index (placed_in l.events)) []

abbrev pub invariant-loop-couple : goal.invariant-loop-couple
invariant-loop-couple l = l.p ≡ problem_by (declaration_of l.decl) (placed_in l.events) (take l.couple-index l.couples)
