use Rattle.std.proofs.Common.{◌<◌, ◌≤◌, ◌^◌, ℕ, Some, refl, arith, inl, inr}
use Rattle.std.proofs.lemmas.Bool.{cases_lt}
use Rattle.widen.proofs.read.extra_of.Goals as goal

-- a number that is not below a limit reaches it
reaches : (limit n : ℕ) → (n < limit → ⊥) → limit ≤ n
reaches limit n not_below =
    elim (cases_lt n limit) [
      | inl below ↦ absurd (not_below below)
      | inr le ↦ le
    ]

pub returns-in-None-clause-some : goal.returns-in-None-clause-some
returns-in-None-clause-some c = (Some c.in-Ok.extra, c.in-Ok.ensures.0, (c.in-Ok.extra, refl, reaches (2 ^ 62) c.in-Ok.extra c.in-None.ensures))

pub returns-in-Err-Range-clause-some : goal.returns-in-Err-Range-clause-some
returns-in-Err-Range-clause-some c =
    let fault = rw c.in-Err-Range.field-0-is at c.in-Err-Range.ensures in
    let over = reaches (2 ^ 64) fault.0 fault.2 in
    (Some fault.0, fault.1, (fault.0, refl, omega (arith, over)))
