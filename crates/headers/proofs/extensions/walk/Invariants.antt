use Rattle.std.proofs.Common.{◌≡◌}
use Rattle.headers.specs.Extensions.{walked}
use Rattle.headers.specs.Inside.{follows}
use Rattle.headers.proofs.extensions.walk.Given as goal

-- what is found from here on is what is found from the first header on
abbrev pub invariant-loop-inner : goal.invariant-loop-inner
invariant-loop-inner l = walked 8 (follows l.fn.first) ≡ walked l.left (follows l.inner)

abbrev pub decreases-loop-inner : goal.decreases-loop-inner
decreases-loop-inner l = l.left
