use Rattle.std.proofs.Common.{drop, map}
use Rattle.ports.proofs.Writing.{Leaves}
use Rattle.session.specs.Stands.{under_of}
use Rattle.merge_script.specs.Notes.{notes_held}
use Rattle.merge_script.proofs.notes.write_all.Given as goal

-- the notes on the labels from this place on are left
abbrev pub invariant-loop-place : goal.invariant-loop-place
invariant-loop-place g l =
    Leaves (g.N.Sink.told l.initial.notes) (g.N.Sink.told l.notes) (notes_held (drop l.place l.labels) (drop l.place (map under_of l.under))) (notes_held l.labels (map under_of l.under))
