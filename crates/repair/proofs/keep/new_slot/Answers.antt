use Rattle.repair.proofs.keep.new_slot.Goals as goal

pub make_rows-requires-clause-has : goal.make_rows-requires-clause-has
make_rows-requires-clause-has g c = c.take_rows-slot.ensures.takes.has
