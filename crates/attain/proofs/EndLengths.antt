-- The certificate of an interval is no longer than one may be.
use Rattle.std.proofs.Common.{◌≡◌, ◌<◌, ◌≤◌, ◌+◌, ◌-◌, ◌*◌, ℕ, List, [], ◌∷◌, ◌++◌, length, get_or, codes, sym, subst, arith, length-append}
use Rattle.std.specs.Prelude.{ℤ, All}
use Rattle.std.specs.List.{flat_map}
use Rattle.std.proofs.lemmas.Int.{ints}
use Rattle.atto.specs.NsText.{ns_text}
use Rattle.line_format.specs.Format.{most_text_bytes}
use Rattle.line_format.specs.Words.{line_of}
use Rattle.problem_model.specs.Problem.{ProblemLists, IsProblem}
use Rattle.problem_model.specs.ProblemText.{event_name}
use Rattle.problem_model.specs.ExecutionText.{value_lines}
use Rattle.problem_model.specs.Nodes.{Reading, AreReadings, nodes_of}
use Rattle.problem_model.specs.Numbers.{IsUpTo}
use Rattle.problem_model.specs.Limits.{most_nodes, path_bits}
use Rattle.problem.proofs.ListedNodes.{few_nodes}
use Rattle.cert.specs.EndLists.{EndLists, Limited, Unlimited}
use Rattle.cert.specs.declared.chain.Step.{Step}
use Rattle.cert.specs.Listed.{certificate_head, certified}
use Rattle.cert.specs.CertificateText.{AreListsOf, step_line, inside_line, end_text, ends_lines}
use Rattle.cert.proofs.TextLengths.{line_size, events_short, steps_short, cut_short, values_short, value_short}
use Rattle.attain.specs.Tight.{IsUnder, IsUpperAs, IsLowerAs, IsSmallEnd, AreTight, IsTightText}

-- ---- numbers
up_to : (bits : ℕ) (z : ℤ) → IsUnder bits z → IsUpTo bits z
up_to bits z (low, high) = (omega (arith, ints, low), omega (arith, ints, high))

value_up_to : (z : ℤ) → IsUnder (path_bits + 1) z → IsUpTo (path_bits + 2) z
value_up_to z (low, high) = (omega (arith, ints, low), omega (arith, ints, high))

pub values_up_to : (zs : List ℤ) → All (IsUnder (path_bits + 2)) zs → All (IsUpTo (path_bits + 2)) zs
values_up_to zs small i d inside = up_to (path_bits + 2) (get_or zs i d) (small i d inside)

pub weights_up_to : (steps : List Step) → All (λ s. IsUnder 93 s.weight) steps → All (λ s. IsUpTo 93 s.weight) steps
weights_up_to steps small i d inside = up_to 93 (get_or steps i d).weight (small i d inside)

-- ---- texts
-- the most bytes of an end: its first line, fewer steps than there are nodes, and a real time for each node
abbrev pub end_bytes : ℕ
end_bytes = 46 + (most_nodes - 1) * 149 + most_nodes * 101

pub three : (a b c : List ℕ) → length (a ++ b ++ c) ≡ length a + (length b + length c)
three a b c = omega (arith, length-append (a ++ b) c, length-append a b)

module _ (p : ProblemLists) (readings : List Reading) (lawful : IsProblem p) (are : AreReadings p readings) where
  limited_short : (part : List ℕ) (value : ℤ) (path : List Step) (execution : List ℤ) → length part ≤ 5 → AreListsOf p (Limited value path execution) → IsSmallEnd (Limited value path execution) → length path < length (nodes_of p readings)
      → length (line_of (part ∷ ns_text value ∷ []) ++ flat_map (step_line p) path ++ value_lines p (nodes_of p readings) execution) ≤ end_bytes
  limited_short part value path execution word of small short =
      let head : length (line_of (part ∷ ns_text value ∷ [])) ≡ length part + 1 + (length (ns_text value) + 1 + 0) = line_size part (ns_text value ∷ []) in
      let limit = value_short value (value_up_to value small.0) in
      let steps = steps_short p lawful path of.0 (weights_up_to path small.1) in
      let times = values_short p lawful readings execution are (values_up_to execution small.2) in
      let few = few_nodes p readings lawful are in
      omega (arith, three (line_of (part ∷ ns_text value ∷ [])) (flat_map (step_line p) path) (value_lines p (nodes_of p readings) execution), word, head, limit, steps, times, few, short)

  unlimited_short : (part unlimited : List ℕ) (inside : List ℕ) (execution : List ℤ) → length part ≤ 5 → length unlimited ≤ 4 → AreListsOf p (Unlimited inside execution) → IsSmallEnd (Unlimited inside execution)
      → length (line_of (part ∷ unlimited ∷ []) ++ flat_map (inside_line p) inside ++ value_lines p (nodes_of p readings) execution) ≤ end_bytes
  unlimited_short part unlimited inside execution word word' of small =
      let head : length (line_of (part ∷ unlimited ∷ [])) ≡ length part + 1 + (length unlimited + 1 + 0) = line_size part (unlimited ∷ []) in
      let clocks = cut_short p lawful inside of.0 of.1 in
      let times = values_short p lawful readings execution are (values_up_to execution small) in
      let few = few_nodes p readings lawful are in
      omega (arith, three (line_of (part ∷ unlimited ∷ [])) (flat_map (inside_line p) inside) (value_lines p (nodes_of p readings) execution), word, word', head, clocks, times, few)

  upper_short : (first : ℕ) (e : EndLists) → AreListsOf p e → IsSmallEnd e → IsUpperAs p readings first e → length (end_text p (nodes_of p readings) (codes "upper") (codes "+inf") e) ≤ end_bytes
  upper_short first (Limited value path execution) of small (earliest, K, x, is, lead, latest, values, short) = limited_short (codes "upper") value path execution (omega arith) of small short
  upper_short first (Unlimited inside execution) of small cut = unlimited_short (codes "upper") (codes "+inf") inside execution (omega arith) (omega arith) of small

  lower_short : (first : ℕ) (e : EndLists) → AreListsOf p e → IsSmallEnd e → IsLowerAs p readings first e → length (end_text p (nodes_of p readings) (codes "lower") (codes "-inf") e) ≤ end_bytes
  lower_short first (Limited value path execution) of small (earliest, K, x, is, lead, soonest, values, short) = limited_short (codes "lower") value path execution (omega arith) of small short
  lower_short first (Unlimited inside execution) of small cut = unlimited_short (codes "lower") (codes "-inf") inside execution (omega arith) (omega arith) of small

  whole_short : (first second : ℕ) (upper lower : EndLists) → AreTight p readings first second upper lower → length (certified (ends_lines p (nodes_of p readings) first second upper lower)) < most_text_bytes
  whole_short first second upper lower tight =
      let events : List ℕ = line_of (codes "ends" ∷ event_name p.events first ∷ event_name p.events second ∷ []) in
      let above : List ℕ = end_text p (nodes_of p readings) (codes "upper") (codes "+inf") upper in
      let below : List ℕ = end_text p (nodes_of p readings) (codes "lower") (codes "-inf") lower in
      let head : length (line_of certificate_head) ≡ 14 = line_size (codes "certificate") (codes "1" ∷ []) in
      let end : length (line_of (codes "end" ∷ [])) ≡ 4 = line_size (codes "end") [] in
      let named : length events ≤ 103 = events_short p lawful first second in
      let high : length above ≤ end_bytes = upper_short first upper tight.upper_of tight.upper_small tight.upper_as in
      let low : length below ≤ end_bytes = lower_short first lower tight.lower_of tight.lower_small tight.lower_as in
      let lines = three events above below in
      let whole = three (line_of certificate_head) (events ++ above ++ below) (line_of (codes "end" ∷ [])) in
      omega (arith, head, end, named, high, low, lines, whole)

pub text_short : (p : ProblemLists) (readings : List Reading) (first second : ℕ) (text : List ℕ) → IsTightText p readings first second text → IsProblem p → AreReadings p readings → length text < most_text_bytes
text_short p readings first second text (upper, lower, tight, is) lawful are = subst (λ (t : List ℕ). length t < most_text_bytes) (sym is) (whole_short p readings lawful are first second upper lower tight)
