use Rattle.std.proofs.Common.{◌≡◌, All, take}
use Rattle.report_tests.proofs.report_lines.is_new.Given as goal

abbrev pub invariant-loop-other : goal.invariant-loop-other
invariant-loop-other l = All (λ k. (k.place ≡ l.key.place) → (k.n ≡ l.key.n) → ⊥) (take l.other-index l.keys)
