-- What is found is a widening of the problem that shows what it should, and its text is one that is read again.
use Rattle.std.proofs.Common.{◌≡◌, ◌<◌, ◌≤◌, ◌+◌, ◌-◌, ◌*◌, ◌^◌, ℕ, List, [], ◌∷◌, length, codes, Option, Some, None, Result, Ok, Err, refl, sym, ◌∙◌, ap, subst, arith, inl, inr, length-append}
use Rattle.std.specs.Prelude.{ℤ, ◌⊎◌, All, IfSome}
use Rattle.std.specs.List.{flat_map}
use Rattle.std.proofs.lemmas.List.{length-map}
use Rattle.std.proofs.lemmas.List.Elements.{All-nil, All-cons}
use Rattle.atto.proofs.DecimalLemmas.{length-decimal_of-le}
use Rattle.line_format.specs.Words.{line_of}
use Rattle.line_format.specs.Format.{most_text_bytes}
use Rattle.line_format.proofs.Lengths.{sized}
use Rattle.problem_model.specs.declared.items.Node.{Node}
use Rattle.problem_model.specs.Problem.{ProblemLists, IsProblem}
use Rattle.problem_model.specs.ExecutionText.{value_lines}
use Rattle.problem_model.specs.Nodes.{Reading, AreReadings, nodes_of}
use Rattle.problem.proofs.ListedNodes.{few_nodes}
use Rattle.problem_model.specs.Solutions.{Leads}
use Rattle.problem_model.specs.Limits.{most_nodes}
use Rattle.cert.specs.declared.chain.Step.{Step}
use Rattle.cert.specs.declared.error.CertError.{CertError}
use Rattle.cert.specs.declared.error.CertError.TheVariants as errors
use Rattle.cert.specs.CertificateText.{IsStepOf, HasOneEach, step_line}
use Rattle.cert.specs.ReadsCert.{FitsSteps}
use Rattle.cert.specs.Shows.{weighed_bounds, IsExecutionOf}
use Rattle.cert.proofs.TextLengths.{line_size, steps_short, values_short}
use Rattle.attain.proofs.Accepted.{values_fit, weights_fit}
use Rattle.attain.proofs.EndLengths.{three, values_up_to, weights_up_to}
use Rattle.cert_check.specs.declared.answer.Answer as judged
use Rattle.cert_check.specs.declared.answer.Answer.TheVariants.{Yes}
use Rattle.cert_check.specs.declared.what.What.{What}
use Rattle.cert_check.specs.Widened.{widened}
use Rattle.cert_check.proofs.Widening.{readings_back}
use Rattle.cert_check.proofs.Comparing.{declared_back}
use Rattle.widen.specs.declared.widening.Widening.{Widening}
use Rattle.widen.specs.declared.widening.Widening.TheVariants.{Least, Never}
use Rattle.widen.specs.Least.{most_extra, IsLeastWidening, HasNoWidening}
use Rattle.widen.specs.declared.widening.StatedWidening.{StatedWidening}
use Rattle.widen.specs.Named.{NamesWhat, IsKindOfClocks, IsKindOfLinks, AreStated, stated_words}
use Rattle.widen.specs.Widening.{HasCycle, IsWideningOf, ShowsBelow, ShowsWidening}
use Rattle.widen.specs.WideningText.{widening_head, least_word, least_line, cycle_lines, widening_lines, widening_text}
use Rattle.widen.specs.ReadsWidening.{FitsCycle, FitsWidening, IsWideningTextOf}
use Rattle.widen.specs.JudgedText.{JudgesText}
use Rattle.widen.specs.Found.{IsRunAt, IsCycleAt, IsFoundBelow, FindsWidening}
use Rattle.widen.proofs.SameNodes.{nodes_same}
use Rattle.widen.proofs.Solved.{wider}
use Rattle.widen.proofs.Rising.{shown_least, shown_never}
use Rattle.widen.proofs.Naming.{what_spelled}
use Rattle.widen.proofs.Readable.{read_again}

-- ---- bounds of the widened problem are bounds of the problem
module _ (what : What) (p : ProblemLists) (e : ℕ) where
  led_back : (steps : List Step) (m n : Node) → Leads (widened what p e) m (weighed_bounds steps) n → All (IsStepOf p) steps
  led_back [] m n leads = All-nil (IsStepOf p)
  led_back (s ∷ steps) m n (c, declares, weighs, begins, rest) = All-cons (IsStepOf p) s steps (declared_back what p e s.bound c declares) (led_back steps c.to n rest)

  steps_back : (cycle : List Step) → IsCycleAt what p e cycle → All (IsStepOf p) cycle
  steps_back cycle found = let n = found.contradiction.closed.0 in led_back cycle n n found.contradiction.closed.1

  one_each : (execution : List ℤ) → IsRunAt what p e execution → HasOneEach p execution
  one_each execution found =
      let listed = found.earliest.1 in
      (listed.0, readings_back what p e listed.0 listed.1, ap length listed.2 ∙ length-map (nodes_of (widened what p e) listed.0) found.earliest.0 ∙ ap length (nodes_same what p e listed.0))

  runs : (execution : List ℤ) → IsRunAt what p e execution → IsExecutionOf (widened what p e) execution
  runs execution found = (found.earliest.0, found.earliest.1, found.earliest.2.execution)

has_cycle : (what : What) (p : ProblemLists) (extra : ℕ) (cycle : Option (List Step)) → IsFoundBelow what p extra cycle → HasCycle p extra cycle
has_cycle what p extra None found = found
has_cycle what p extra (Some cycle) found = (found.0, steps_back what p (extra - 1) cycle found.1)

shows_below : (what : What) (p : ProblemLists) (extra : ℕ) (cycle : Option (List Step)) → IsFoundBelow what p extra cycle → ShowsBelow what p extra cycle
shows_below what p extra None found = tt
shows_below what p extra (Some cycle) found = found.1.contradiction

pub widening_of : (what : What) (p : ProblemLists) (w : Widening) → FindsWidening what p w → IsWideningOf p w
widening_of what p (Least extra execution cycle) found = (one_each what p extra execution found.1, has_cycle what p extra cycle found.2)
widening_of what p (Never cycle) found = steps_back what p most_extra cycle found

pub shows : (what : What) (p : ProblemLists) (w : Widening) → FindsWidening what p w → ShowsWidening what p w
shows what p (Least extra execution cycle) found = (runs what p extra execution found.1, shows_below what p extra cycle found.2)
shows what p (Never cycle) found = found.contradiction

pub least_found : (what : What) (p : ProblemLists) (extra : ℕ) (execution : List ℤ) (cycle : Option (List Step)) → FindsWidening what p (Least extra execution cycle) → IsLeastWidening what p extra
least_found what p extra execution cycle found = shown_least what p extra execution cycle found.0 (widening_of what p (Least extra execution cycle) found) (shows what p (Least extra execution cycle) found)

pub never_found : (what : What) (p : ProblemLists) (cycle : List Step) → FindsWidening what p (Never cycle) → HasNoWidening what p
never_found what p cycle found = shown_never what p cycle found.contradiction

-- ---- texts
-- a kind has 6 bytes at most, and a name 32
clocks_kind_short : (kind : List ℕ) → IsKindOfClocks kind → length kind ≤ 6
clocks_kind_short kind (inl is) = rw is (omega arith)
clocks_kind_short kind (inr is) = rw is (omega arith)

links_kind_short : (kind : List ℕ) → IsKindOfLinks kind → length kind ≤ 6
links_kind_short kind (inl is) = rw is (omega arith)
links_kind_short kind (inr is) = rw is (omega arith)

stated_short : (ws : List (List ℕ)) → AreStated ws → sized ws ≤ 73
stated_short [] stated = omega arith
stated_short (kind ∷ []) (inl k) = let short = clocks_kind_short kind k in omega (arith, short)
stated_short (kind ∷ []) (inr (inl k)) = let short : length kind ≤ 5 = rw k (omega arith) in omega (arith, short)
stated_short (kind ∷ []) (inr (inr k)) = let short : length kind ≤ 4 = rw k (omega arith) in omega (arith, short)
stated_short (kind ∷ clock ∷ []) stated =
    let short = clocks_kind_short kind stated.0 in
    let name = stated.1.short in
    omega (arith, short, name)
stated_short (kind ∷ from ∷ to ∷ []) stated =
    let short = links_kind_short kind stated.0 in
    let one = stated.1.short in
    let two = stated.2.short in
    omega (arith, short, one, two)
stated_short (kind ∷ from ∷ to ∷ other ∷ more) stated = absurd stated

module _ (what : What) (p : ProblemLists) (readings : List Reading) (lawful : IsProblem p) (are : AreReadings p readings) (named : NamesWhat p what) where
  steps_fit : (e : ℕ) (cycle : List Step) → IsCycleAt what p e cycle → FitsSteps cycle
  steps_fit e cycle found = (weights_fit cycle found.small, (let few = few_nodes p readings lawful are in let short = found.short readings are in omega (arith, few, short)))

  cycle_fits : (extra : ℕ) (cycle : Option (List Step)) → IsFoundBelow what p extra cycle → FitsCycle cycle
  cycle_fits extra None found = tt
  cycle_fits extra (Some cycle) found = steps_fit (extra - 1) cycle found.1

  fits : (w : Widening) → FindsWidening what p w → FitsWidening w
  fits (Least extra execution cycle) found = (found.0, values_fit execution (wider execution found.1.small), cycle_fits extra cycle found.2)
  fits (Never cycle) found = steps_fit most_extra cycle found

  -- of the 2 ^ 25 nodes at most each has a line of 101 bytes at most, and each step one of 149
  steps_text : (e : ℕ) (cycle : List Step) → IsCycleAt what p e cycle → length (cycle_lines p (Some cycle)) ≤ most_nodes * 149 + 6
  steps_text e cycle found =
      let head : length (line_of (codes "cycle" ∷ [])) ≡ 5 + 1 + 0 = line_size (codes "cycle") [] in
      let lines = steps_short p lawful cycle (steps_back what p e cycle found) (weights_up_to cycle found.small) in
      let few = few_nodes p readings lawful are in
      let short = found.short readings are in
      omega (arith, length-append (line_of (codes "cycle" ∷ [])) (flat_map (step_line p) cycle), head, lines, few, short)

  cycle_text : (extra : ℕ) (cycle : Option (List Step)) → IsFoundBelow what p extra cycle → length (cycle_lines p cycle) ≤ most_nodes * 149 + 6
  cycle_text extra None found = omega arith
  cycle_text extra (Some cycle) found = steps_text (extra - 1) cycle found.1

  word_short : (extra : Option ℕ) → IfSome extra (λ e. e < 2 ^ 62) → length (least_word extra) ≤ 19
  word_short None within = omega arith
  word_short (Some e) within = length-decimal_of-le 19 e (omega arith) (let below : 2 ^ 62 ≤ 10 ^ 19 = omega arith in omega (arith, within))

  least_line_short : (extra : Option ℕ) → IfSome extra (λ e. e < 2 ^ 62) → length (least_line p what extra) ≤ 99
  least_line_short extra within =
      let size : length (least_line p what extra) ≡ 5 + 1 + (length (least_word extra) + 1 + sized (stated_words p what)) = line_size (codes "least") (least_word extra ∷ stated_words p what) in
      omega (arith, size, word_short extra within, stated_short (stated_words p what) (what_spelled p lawful what named))

  lines_short : (w : Widening) → FindsWidening what p w → length (widening_lines p (nodes_of p readings) what w) ≤ most_nodes * 250 + 105
  lines_short (Least extra execution cycle) found =
      let values = values_short p lawful readings execution are (values_up_to execution (wider execution found.1.small)) in
      let few = few_nodes p readings lawful are in
      omega (arith, three (least_line p what (Some extra)) (value_lines p (nodes_of p readings) execution) (cycle_lines p cycle), least_line_short (Some extra) found.0, values, few, cycle_text extra cycle found.2)
  lines_short (Never cycle) found =
      omega (arith, length-append (least_line p what None) (cycle_lines p (Some cycle)), least_line_short None tt, steps_text most_extra cycle found)

  text_short : (w : Widening) → FindsWidening what p w → length (widening_text p (nodes_of p readings) what w) ≤ most_text_bytes
  text_short w found =
      let head : length (line_of widening_head) ≡ 8 + 1 + (1 + 1 + 0) = line_size (codes "widening") (codes "1" ∷ []) in
      let end : length (line_of (codes "end" ∷ [])) ≡ 3 + 1 + 0 = line_size (codes "end") [] in
      omega (arith, three (line_of widening_head) (widening_lines p (nodes_of p readings) what w) (line_of (codes "end" ∷ [])), head, end, lines_short w found)

  pub text_of : (w : Widening) → FindsWidening what p w → IsWideningTextOf p readings what w (widening_text p (nodes_of p readings) what w)
  text_of w found = (text_short w found, widening_of what p w found, fits w found, refl, named)

  -- ---- what is written is read again and judged
  same_stated : (v w : StatedWidening) → ◌≡◌ {A = Result StatedWidening CertError} (Ok v) (Ok w) → v ≡ w
  same_stated v w is = cc

  same_error : (e : CertError) → ◌≡◌ {A = Result StatedWidening CertError} (Err e) (Err errors.Memory) → e ≡ errors.Memory
  same_error e is = cc

  abbrev stated : Widening → StatedWidening
  stated w = record { what = what; widening = w }

  pub accepted : (w : Widening) (result : Result judged.Answer CertError) → FindsWidening what p w → JudgesText p (widening_text p (nodes_of p readings) what w) result → (result ≡ Ok Yes) ⊎ (result ≡ Err errors.Memory)
  accepted w (Ok answer) found (v, reads, is) = elim (read_again p readings lawful are (stated w) (widening_text p (nodes_of p readings) what w) (Ok v) (text_of w found) (reads readings are)) [
    | inl same ↦ inl (ap Ok (is.exact.0 (subst (λ (s : StatedWidening). ShowsWidening s.what p s.widening) (sym (same_stated v (stated w) same)) (shows what p w found))))
    | inr other ↦ absurd cc
  ]
  accepted w (Err e) found reads = elim (read_again p readings lawful are (stated w) (widening_text p (nodes_of p readings) what w) (Err e) (text_of w found) (reads readings are)) [
    | inl other ↦ absurd cc
    | inr same ↦ inr (ap Err (same_error e same))
  ]
