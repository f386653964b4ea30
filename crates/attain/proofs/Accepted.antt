-- The certificates of intervals that are written are accepted.
use Rattle.std.proofs.Common.{◌<◌, ◌≤◌, ◌^◌, ℕ, List, length, get_or, sym, subst, arith}
use Rattle.std.specs.Prelude.{◌+◌, ℤ, pos, negsuc, neg_ℤ, ◌≤ℤ◌, All}
use Rattle.std.proofs.lemmas.Int.{ints}
use Rattle.atto.specs.Number.{FitsUnits}
use Rattle.line_format.specs.Format.{most_text_bytes}
use Rattle.problem_model.specs.Problem.{ProblemLists, IsProblem}
use Rattle.problem_model.specs.Nodes.{Reading, AreReadings, nodes_of}
use Rattle.problem_model.specs.Limits.{path_bits}
use Rattle.problem.proofs.ListedNodes.{few_nodes}
use Rattle.cert.specs.EndLists.{EndLists, Limited, Unlimited}
use Rattle.cert.specs.declared.chain.Step.{Step}
use Rattle.cert.specs.ReadsCert.{FitsEndLists}
use Rattle.cert.specs.ReadAgain.{IsAccepted}
use Rattle.cert.proofs.ReadAgain.{ends_shown_again}
use Rattle.attain.specs.Tight.{IsUnder, IsUpperAs, IsLowerAs, IsSmallEnd, AreTight, IsTightText}
use Rattle.attain.proofs.EndLengths.{text_short}

-- ---- ranges
units_below : (m : ℕ) (z : ℤ) → m ≤ 2 ^ 120 → neg_ℤ (pos m) ≤ℤ z → z ≤ℤ pos m → FitsUnits z
units_below m (pos n) few low high = omega (arith, ints, few, high)
units_below m (negsuc n) few low high = omega (arith, ints, few, low)

value_fits : (z : ℤ) → IsUnder (path_bits + 1) z → FitsUnits z
value_fits z (low, high) = units_below (2 ^ (path_bits + 1)) z (omega arith) (omega (arith, ints, low)) (omega (arith, ints, high))

time_fits : (z : ℤ) → IsUnder (path_bits + 2) z → FitsUnits z
time_fits z (low, high) = units_below (2 ^ (path_bits + 2)) z (omega arith) (omega (arith, ints, low)) (omega (arith, ints, high))

weight_fits : (z : ℤ) → IsUnder 93 z → FitsUnits z
weight_fits z (low, high) = units_below (2 ^ 93) z (omega arith) (omega (arith, ints, low)) (omega (arith, ints, high))

pub values_fit : (xs : List ℤ) → All (IsUnder (path_bits + 2)) xs → All FitsUnits xs
values_fit xs small i d inside = time_fits (get_or xs i d) (small i d inside)

pub weights_fit : (path : List Step) → All (λ s. IsUnder 93 s.weight) path → All (λ s. FitsUnits s.weight) path
weights_fit path small i d inside = weight_fits (get_or path i d).weight (small i d inside)

module _ (p : ProblemLists) (readings : List Reading) (lawful : IsProblem p) (are : AreReadings p readings) (first : ℕ) where
  limited_fits : (value : ℤ) (path : List Step) (execution : List ℤ) → IsSmallEnd (Limited value path execution) → length path < length (nodes_of p readings) → FitsEndLists (Limited value path execution)
  limited_fits value path execution small short =
      (value_fits value small.0, (weights_fit path small.1, (let few = few_nodes p readings lawful are in omega (arith, few, short))), values_fit execution small.2)

  upper_fits : (e : EndLists) → IsSmallEnd e → IsUpperAs p readings first e → FitsEndLists e
  upper_fits (Limited value path execution) small (earliest, K, x, is, lead, latest, values, short) = limited_fits value path execution small short
  upper_fits (Unlimited inside execution) small cut = values_fit execution small

  lower_fits : (e : EndLists) → IsSmallEnd e → IsLowerAs p readings first e → FitsEndLists e
  lower_fits (Limited value path execution) small (earliest, K, x, is, lead, soonest, values, short) = limited_fits value path execution small short
  lower_fits (Unlimited inside execution) small cut = values_fit execution small

  pub ends_fit : (second : ℕ) (upper lower : EndLists) → AreTight p readings first second upper lower → FitsEndLists upper × FitsEndLists lower
  ends_fit second upper lower tight = (upper_fits upper tight.upper_small tight.upper_as, lower_fits lower tight.lower_small tight.lower_as)

-- ---- read again
pub ends_accepted : (p : ProblemLists) (readings : List Reading) (first second : ℕ) (text : List ℕ) → IsTightText p readings first second text → IsProblem p → AreReadings p readings → first < length p.events → second < length p.events
    → IsAccepted p readings text
ends_accepted p readings first second text (upper, lower, tight, is) lawful are there there' =
    let below : length text < most_text_bytes = text_short p readings first second text (upper, lower, tight, is) lawful are in
    let short : length text ≤ most_text_bytes = omega (arith, below) in
    let fits = ends_fit p readings lawful are first second upper lower tight in
    subst (IsAccepted p readings) (sym is)
    (ends_shown_again p readings first second upper lower lawful are there there' tight.upper_of tight.lower_of fits.0 fits.1 (subst (λ (t : List ℕ). length t ≤ most_text_bytes) is short) tight.upper_shown tight.lower_shown)
