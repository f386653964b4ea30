-- Replies to lines, one after another.
use Rattle.std.proofs.Common.{refl, ◌∙◌, arith}
use Rattle.ports.specs.Files.{FilesTold, Keeps}

-- ---- files are kept
pub keeps_none : (now : FilesTold) → Keeps now now
keeps_none now = record { same = refl; faults = omega arith; absences = omega arith }

pub keeps_then : (old mid new : FilesTold) → Keeps old mid → Keeps mid new → Keeps old new
keeps_then old mid new first second = record {
  same = second.same ∙ first.same;
  faults = omega (arith, first.faults, second.faults);
  absences = omega (arith, first.absences, second.absences);
}
