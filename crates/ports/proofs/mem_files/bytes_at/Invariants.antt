use Rattle.std.proofs.Common.{◌≡◌, length, map}
use Rattle.ports.specs.Memory.{bytes_of}
use Rattle.ports.specs.Put.{put_of}
use Rattle.ports.proofs.mem_files.bytes_at.Given as goal

abbrev pub invariant-loop-last : goal.invariant-loop-last
invariant-loop-last l = bytes_of (map put_of l.earlier) l.path ≡ bytes_of (map put_of l.files) l.path

abbrev pub decreases-loop-last : goal.decreases-loop-last
decreases-loop-last l = length l.earlier
