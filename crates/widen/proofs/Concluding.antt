-- What is known once nothing is left to be tried is the least widening.
use Rattle.std.proofs.Common.{◌≡◌, ◌<◌, ◌≤◌, ◌-◌, ◌^◌, ℕ, List, Option, Some, None, subst, arith, inl, inr}
use Rattle.std.specs.Prelude.{ℤ}
use Rattle.std.proofs.lemmas.Bool.{cases_lt}
use Rattle.problem_model.specs.Problem.{ProblemLists}
use Rattle.cert.specs.declared.chain.Step.{Step}
use Rattle.cert_check.specs.declared.what.What.{What}
use Rattle.widen.specs.declared.known.Known.{Known}
use Rattle.widen.specs.declared.widening.Widening.TheVariants.{Least}
use Rattle.widen.specs.Least.{HasExecution}
use Rattle.widen.specs.Found.{IsRunAt, IsFoundBelow, FindsWidening}
use Rattle.widen.specs.Search.{IsFoundAbove, IsKnown}
use Rattle.widen.proofs.Rising.{none_below}

has_execution : (what : What) (p : ProblemLists) (e : ℕ) (execution : List ℤ) → IsRunAt what p e execution → HasExecution what p e
has_execution what p e execution run = (run.earliest.0, run.earliest.2.execution)

-- what heals is nothing below
not_below : (what : What) (p : ProblemLists) (low high : ℕ) (below : Option (List Step)) → IsFoundBelow what p low below → HasExecution what p high → low ≤ high
not_below what p low high None found heals = let none : low ≡ 0 = found in omega (arith, none)
not_below what p low high (Some cycle) found heals = elim (cases_lt high low) [
  | inl before ↦ absurd (none_below what p cycle high (low - 1) found.1.contradiction (omega (arith, before)) heals)
  | inr le ↦ le
]

-- the search never leaves the range of widenings
pub high_within : (what : What) (p : ProblemLists) (k : Known) → IsKnown what p k → k.high ≤ 2 ^ 62
high_within what p k known = within k.run known.above
  where
    within : (run : Option (List ℤ)) → IsFoundAbove what p k.high run → k.high ≤ 2 ^ 62
    within None above = let is : k.high ≡ 2 ^ 62 = above in omega (arith, is)
    within (Some execution) above = let less = above.0 in omega (arith, less)

pub met : (what : What) (p : ProblemLists) (k : Known) (execution : List ℤ) → k.high ≤ k.low → k.run ≡ Some execution → IsKnown what p k → FindsWidening what p (Least k.low execution k.below)
met what p k execution done is known =
    let above : IsFoundAbove what p k.high (Some execution) = subst (IsFoundAbove what p k.high) is known.above in
    let less : k.high < 2 ^ 62 = above.0 in
    let before : k.low ≤ k.high = not_below what p k.low k.high k.below known.below (has_execution what p k.high execution above.1) in
    let same : k.high ≡ k.low = omega (arith, done, before) in
    (omega (arith, less, same), subst (λ (e : ℕ). IsRunAt what p e execution) same above.1, known.below)
