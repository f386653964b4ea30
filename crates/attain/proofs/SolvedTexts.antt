-- The certificates of a problem that is solved are accepted.
use Rattle.std.proofs.Common.{◌≡◌, ◌<◌, ◌≤◌, ◌+◌, ◌*◌, ◌^◌, ℕ, List, [], ◌∷◌, ◌++◌, length, map, get_or, codes, refl, sym, subst, arith, length-append}
use Rattle.std.specs.Prelude.{ℤ, pos, neg_ℤ, ◌≤ℤ◌, All}
use Rattle.std.specs.List.{flat_map}
use Rattle.std.proofs.lemmas.Int.{ints}
use Rattle.std.proofs.lemmas.List.{length-map, get_or_default}
use Rattle.std.proofs.lemmas.List.Elements.{All-nil, All-cons}
use Rattle.line_format.specs.Format.{most_text_bytes}
use Rattle.line_format.specs.Words.{line_of}
use Rattle.problem_model.specs.declared.items.Node.{Node}
use Rattle.problem_model.specs.Problem.{ProblemLists, IsProblem}
use Rattle.problem_model.specs.Bounds.{Times}
use Rattle.problem_model.specs.ExecutionText.{value_lines}
use Rattle.problem_model.specs.Nodes.{Reading, AreReadings, nodes_of}
use Rattle.problem_model.specs.Executions as bounds
use Rattle.problem_model.specs.Executions.{at}
use Rattle.problem_model.specs.Earliest.{IsEarliest}
use Rattle.problem_model.specs.Solutions.{IsEarliestExecution, Leads, IsContradictionOf}
use Rattle.problem_model.specs.Limits.{most_nodes, path_bits}
use Rattle.problem_model.proofs.Heights.{earliest_height, height_low}
use Rattle.problem_model.proofs.Problems.{within}
use Rattle.problem_model.proofs.Solutions.{same_earliest}
use Rattle.problem.proofs.ListedNodes.{few_nodes}
use Rattle.cert.specs.declared.chain.Step.{Step}
use Rattle.cert.specs.declared.certificate.Cert.TheVariants.{Cycle, Run}
use Rattle.cert.specs.Listed.{certificate_head}
use Rattle.cert.specs.CertificateText.{IsStepOf, step_line, certificate_text}
use Rattle.cert.specs.ReadAgain.{IsAccepted}
use Rattle.cert.specs.Shows.{weighed_bounds}
use Rattle.cert.proofs.ReadAgain.{shown_again}
use Rattle.cert.proofs.TextLengths.{line_size, steps_short, values_short}
use Rattle.attain.specs.Tight.{IsUnder}
use Rattle.attain.proofs.Accepted.{weights_fit, values_fit}
use Rattle.attain.proofs.DeclaredBounds.{declared_small, arcs_stand}
use Rattle.attain.proofs.EndLengths.{end_bytes, values_up_to, weights_up_to, three}

-- ---- steps of a contradiction
module _ (p : ProblemLists) (lawful : IsProblem p) where
  led_steps : (steps : List Step) (m n : Node) → Leads p m (weighed_bounds steps) n → All (IsStepOf p) steps
  led_steps [] m n leads = All-nil (IsStepOf p)
  led_steps (s ∷ steps) m n (c, declares, weighs, begins, rest) = All-cons (IsStepOf p) s steps (c, declares) (led_steps steps c.to n rest)

  led_small : (steps : List Step) (m n : Node) → Leads p m (weighed_bounds steps) n → All (λ s. IsUnder 93 s.weight) steps
  led_small [] m n leads = All-nil (λ (s : Step). IsUnder 93 s.weight)
  led_small (s ∷ steps) m n (c, declares, weighs, begins, rest) =
      All-cons (λ (s : Step). IsUnder 93 s.weight) s steps (subst (IsUnder 93) weighs (declared_small p lawful s.bound c declares)) (led_small steps c.to n rest)

  pub cycle_small : (steps : List Step) → IsContradictionOf p (weighed_bounds steps) → All (λ s. IsUnder 93 s.weight) steps
  cycle_small steps contradiction = let n = contradiction.closed.0 in led_small steps n n contradiction.closed.1

module _ (p : ProblemLists) (readings : List Reading) (lawful : IsProblem p) (are : AreReadings p readings) where
  -- what is said between the head and the end
  framed_short : (kind lines : List ℕ) → length kind ≤ 5 → length lines ≤ end_bytes
      → length (line_of certificate_head ++ (line_of (kind ∷ []) ++ lines) ++ line_of (codes "end" ∷ [])) < most_text_bytes
  framed_short kind lines word short =
      let head : length (line_of certificate_head) ≡ 14 = line_size (codes "certificate") (codes "1" ∷ []) in
      let end : length (line_of (codes "end" ∷ [])) ≡ 4 = line_size (codes "end") [] in
      let first : length (line_of (kind ∷ [])) ≡ length kind + 1 + 0 = line_size kind [] in
      let both = length-append (line_of (kind ∷ [])) lines in
      let whole = three (line_of certificate_head) (line_of (kind ∷ []) ++ lines) (line_of (codes "end" ∷ [])) in
      omega (arith, word, short, head, end, first, both, whole)

  -- ---- contradictions
  pub cycle_short : (steps : List Step) → IsContradictionOf p (weighed_bounds steps) → length steps ≤ length (nodes_of p readings) → length (certificate_text p (nodes_of p readings) (Cycle steps)) < most_text_bytes
  cycle_short steps contradiction short =
      let n = contradiction.closed.0 in
      let few = few_nodes p readings lawful are in
      let lines = steps_short p lawful steps (led_steps p lawful steps n n contradiction.closed.1) (weights_up_to steps (led_small p lawful steps n n contradiction.closed.1)) in
      framed_short (codes "cycle") (flat_map (step_line p) steps) (omega arith) (omega (arith, short, few, lines))

  below : (m n : ℕ) → m < n → m ≤ n
  below m n less = omega (arith, less)

  pub cycle_accepted : (steps : List Step) → IsContradictionOf p (weighed_bounds steps) → length steps ≤ length (nodes_of p readings) → IsAccepted p readings (certificate_text p (nodes_of p readings) (Cycle steps))
  cycle_accepted steps contradiction short =
      let n = contradiction.closed.0 in
      let declared = led_steps p lawful steps n n contradiction.closed.1 in
      let small = led_small p lawful steps n n contradiction.closed.1 in
      let few = few_nodes p readings lawful are in
      shown_again p readings (Cycle steps) lawful are declared (weights_fit steps small, omega (arith, short, few))
      (below (length (certificate_text p (nodes_of p readings) (Cycle steps))) most_text_bytes (cycle_short steps contradiction short)) contradiction

  -- ---- earliest executions
  module _ (x : Times) (e : IsEarliestExecution p x) where
    abbrev values : List ℤ
    values = map x (nodes_of p readings)

    abbrev own_arcs : List bounds.Arc
    own_arcs = (arcs_stand p lawful readings are).0

    earliest_is : IsEarliest (length (nodes_of p readings)) own_arcs values
    earliest_is = (same_earliest p readings own_arcs are (arcs_stand p lawful readings are).1 x values refl).1 e

    low_weights : All (λ a. neg_ℤ (pos (2 ^ 93)) ≤ℤ a.weight) own_arcs
    low_weights i d inside =
        let arc = (arcs_stand p lawful readings are).1.each i d inside in
        let low = (declared_small p lawful arc.0 arc.1 arc.2).0 in
        subst (λ (w : ℤ). neg_ℤ (pos (2 ^ 93)) ≤ℤ w) (sym arc.3.weighs) (omega (arith, ints, low))

    limit_is : (n : ℕ) (z : ℤ) → n ≤ most_nodes → pos 0 ≤ℤ z → z ≤ℤ pos (n * 2 ^ 93) → IsUnder (path_bits + 1) z
    limit_is n z few low high =
        let most : n * 2 ^ 93 ≤ 2 ^ path_bits = height_low n few in
        (omega (arith, ints, most, low, high), omega (arith, ints, most, low, high))

    values_long : length values ≡ length (nodes_of p readings)
    values_long = length-map (nodes_of p readings) x

    pub values_small : All (IsUnder (path_bits + 1)) values
    values_small i d inside =
        let here : at values i ≡ get_or values i d = get_or_default values i (pos 0) d inside in
        subst (IsUnder (path_bits + 1)) here
        (limit_is (length (nodes_of p readings)) (at values i) (few_nodes p readings lawful are) (earliest_is.non_negative i)
        (earliest_height (length (nodes_of p readings)) own_arcs values (2 ^ 93) (within p readings own_arcs are (arcs_stand p lawful readings are).1) low_weights earliest_is i (omega (arith, inside, values_long))))

    -- so they are small enough for real times of a certificate
    wider : (z : ℤ) → IsUnder (path_bits + 1) z → IsUnder (path_bits + 2) z
    wider z (low, high) = (omega (arith, ints, low), omega (arith, ints, high))

    times_small : All (IsUnder (path_bits + 2)) values
    times_small i d inside = wider (get_or values i d) (values_small i d inside)

    pub run_short : length (certificate_text p (nodes_of p readings) (Run values)) < most_text_bytes
    run_short =
        let few = few_nodes p readings lawful are in
        let lines = values_short p lawful readings values are (values_up_to values times_small) in
        framed_short (codes "run") (value_lines p (nodes_of p readings) values) (omega arith) (omega (arith, few, lines))

    pub run_accepted : IsAccepted p readings (certificate_text p (nodes_of p readings) (Run values))
    run_accepted =
        shown_again p readings (Run values) lawful are (readings, are, values_long) (values_fit values times_small)
        (below (length (certificate_text p (nodes_of p readings) (Run values))) most_text_bytes run_short) (x, (readings, are, refl), e.execution)
