use Rattle.std.proofs.Common.{◌≡◌, ◌==◌, drop}
use Rattle.std.specs.Prelude.{find}
use Rattle.repair.specs.Slots.{slots_in}
use Rattle.repair.proofs.slot.find_slot.Given as goal

-- what is found among those that are left is found among all
abbrev pub invariant-loop-entry : goal.invariant-loop-entry
invariant-loop-entry l = find (λ slot. slot.node == l.node) (slots_in (drop l.entry-index l.entries)) ≡ find (λ slot. slot.node == l.node) (slots_in l.entries)
