use Rattle.std.proofs.Common.{◌==◌, List, Option, slice_get, sym, ap, ◌∙◌}
use Rattle.std.specs.Prelude.{find}
use Rattle.repair.specs.declared.slot.Slot.{Slot}
use Rattle.repair.specs.Slots.{KeptRows, slots_in, slot_of}
use Rattle.repair.proofs.Found.{slot_at}
use Rattle.repair.proofs.kept.Kept.place_of.Goals as goal

pub returns-in-Some : goal.returns-in-Some
returns-in-Some c =
    let t = c.in-Some.ensures.place in (
      t.0,
      ap (λ (k : KeptRows). slot_of k c.args.p) (sym c.self.view_is) ∙ ap (λ (xs : List (Option Slot)). find (λ s. s.node == c.args.p) (slots_in xs)) (sym c.deref.ensures.0) ∙ t.2,
      t.1,
      t.3,
      ap (λ (k : KeptRows). slice_get k.slots t.1) (sym c.self.view_is)
          ∙ slot_at c.self.inside.slots.items t.1 t.0 c.self.invariant.0 (ap (λ (xs : List (Option Slot)). slice_get xs t.1) (sym c.deref.ensures.0) ∙ t.4),
    )
