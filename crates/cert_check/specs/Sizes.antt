-- How large the numbers are that checking tells.
use Rattle.std.specs.Prelude.{◌<◌, ◌≤◌, ◌^◌, unsigned_abs}
use Rattle.problem_model.specs.Limits.{walk_bits}
use Rattle.cert_check.specs.declared.answer.Reason.{Reason}
use Rattle.cert_check.specs.declared.answer.Reason.TheVariants as reasons
use Rattle.cert_check.specs.declared.answer.Answer.{Answer}
use Rattle.cert_check.specs.declared.answer.Answer.TheVariants.{Yes, No}
use Rattle.cert_check.specs.declared.verdict.Verdict.{Verdict}
use Rattle.cert_check.specs.declared.verdict.Verdict.TheVariants.{Obeys, Broken}
use Rattle.cert_check.specs.declared.walk.Walk.{Walk}
use Rattle.cert_check.specs.declared.walk.Walk.TheVariants.{Astray, Misweighed, Arrived}

-- the weight of a broken bound is below 2^93, and the difference of two values at most 2^121
abbrev pub IsSmallVerdict : Verdict → Type 0
IsSmallVerdict Obeys = Unit {0}
IsSmallVerdict (Broken bound weight difference) = (unsigned_abs weight < 2 ^ 93) × (unsigned_abs difference ≤ 2 ^ 121)

-- the sum of a chain that was walked over is below 2^119
abbrev pub IsSmallWalk : Walk → Type 0
IsSmallWalk (Astray step) = Unit {0}
IsSmallWalk (Misweighed step) = Unit {0}
IsSmallWalk (Arrived held) = unsigned_abs held.sum < 2 ^ walk_bits

-- a reason tells sums below 2^119, weights below 2^93 and differences of at most 2^121
abbrev pub IsSmallReason : Reason → Type 0
IsSmallReason (reasons.Sum sum) = unsigned_abs sum < 2 ^ walk_bits
IsSmallReason (reasons.Broken bound weight difference) = (unsigned_abs weight < 2 ^ 93) × (unsigned_abs difference ≤ 2 ^ 121)
IsSmallReason (reasons.Difference difference) = unsigned_abs difference ≤ 2 ^ 121
IsSmallReason _ = Unit {0}

-- an answer has such a reason, if any
abbrev pub IsSmallAnswer : Answer → Type 0
IsSmallAnswer Yes = Unit {0}
IsSmallAnswer (No part reason) = IsSmallReason reason
