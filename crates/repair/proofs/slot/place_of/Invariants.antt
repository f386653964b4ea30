use Rattle.std.proofs.Common.{◌≡◌, ◌==◌, drop}
use Rattle.std.specs.Prelude.{find}
use Rattle.repair.specs.Slots.{slots_in}
use Rattle.repair.proofs.slot.place_of.Given as goal

-- what is found among those that are left is found among all
abbrev pub invariant-loop-before : goal.invariant-loop-before
invariant-loop-before l = find (λ slot. slot.node == l.node) (slots_in (drop l.before l.entries)) ≡ find (λ slot. slot.node == l.node) (slots_in l.entries)
