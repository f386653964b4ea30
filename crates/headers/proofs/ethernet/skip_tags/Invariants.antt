use Rattle.std.proofs.Common.{◌≡◌, ◌≤◌, length}
use Rattle.headers.specs.Frame.{untagged}
use Rattle.headers.proofs.ethernet.skip_tags.Given as goal

abbrev pub invariant-loop-rest : goal.invariant-loop-rest
invariant-loop-rest l = (2 ≤ length l.rest) × (untagged l.fn.typed ≡ untagged l.rest)

abbrev pub decreases-loop-rest : goal.decreases-loop-rest
decreases-loop-rest l = length l.rest
