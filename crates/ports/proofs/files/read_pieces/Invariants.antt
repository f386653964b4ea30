use Rattle.std.proofs.Common.{◌≤◌, ◌-◌, vec_len}
use Rattle.ports.specs.Files.{RaisesNoFault, ReadSoFar, Keeps}
use Rattle.ports.proofs.files.read_pieces.Given as goal

abbrev pub invariant-loop-files : goal.invariant-loop-files
invariant-loop-files g l = ReadSoFar (g.F.Files.told l.files).content l.path l.bytes.items × (vec_len l.bytes ≤ l.most)
    × RaisesNoFault l.path (g.F.Files.told l.initial.files) (g.F.Files.told l.files) × Keeps (g.F.Files.told l.initial.files) (g.F.Files.told l.files)

abbrev pub decreases-loop-files : goal.decreases-loop-files
decreases-loop-files g l = l.most - vec_len l.bytes
