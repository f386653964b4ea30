use Rattle.std.proofs.Common.{◌≡◌, ◌≤◌, ◌+◌, ◌++◌, length, List, ℕ}
use Rattle.std.specs.Prelude.{option_map}
use Rattle.headers.specs.Options.{telling}
use Rattle.headers.proofs.options.telling.Given as goal

-- what was told so far, and then what the rest tells
abbrev pub invariant-loop-rest : goal.invariant-loop-rest
invariant-loop-rest l = (telling 40 l.fn.list ≡ option_map (λ (more : List ℕ). l.told.items ++ more) (telling l.left l.rest)) × (length l.told.items + length l.rest ≤ 40)

abbrev pub decreases-loop-rest : goal.decreases-loop-rest
decreases-loop-rest l = l.left
