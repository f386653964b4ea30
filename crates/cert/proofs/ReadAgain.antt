-- The text of a certificate is read as this certificate.
use Rattle.std.proofs.Common.{◌≡◌, ◌<◌, ◌≤◌, ℕ, List, [], ◌∷◌, ◌++◌, length, codes, All, Result, Ok, Err, refl, sym, ◌∙◌, ap, subst, arith, ℤ, append_assoc}
use Rattle.atto.specs.Number.{FitsUnits}
use Rattle.line_format.specs.Words.{line_of}
use Rattle.line_format.specs.Format.{Answers, most_text_bytes}
use Rattle.line_format.specs.Format.Answer.{Found, Faulty}
use Rattle.line_format.specs.declared.fault.FaultKind.{FaultKind}
use Rattle.line_format.specs.declared.fault.FaultKind.TheVariants as kinds
use Rattle.problem_model.specs.Problem.{ProblemLists, IsProblem}
use Rattle.problem_model.specs.Nodes.{Reading, AreReadings, nodes_of}
use Rattle.problem_model.proofs.OneList.{readings_one}
use Rattle.cert.specs.declared.chain.Step.{Step}
use Rattle.cert.specs.declared.certificate.Cert.{Cert}
use Rattle.cert.specs.declared.certificate.Cert.TheVariants.{Cycle, Run, Ends}
use Rattle.cert.specs.declared.error.CertError.{CertError}
use Rattle.cert.specs.declared.error.CertError.TheVariants as errors
use Rattle.cert.specs.declared.kinds.Side.TheVariants.{Upper, Lower}
use Rattle.cert.specs.EndLists.{EndLists, Limited, Unlimited, end_lists}
use Rattle.cert.specs.Listed.{certificate_head, certified}
use Rattle.cert.specs.ExecutionFormat.{AreValues}
use Rattle.cert.specs.CertificateText.{IsStepOf, HasOneEach, AreListsOf, IsCertOf, end_text, ends_lines, certificate_text}
use Rattle.cert.specs.CertificateFormat.{Said, said, AreSteps, IsSoundEnd, IsWhole, MayStand, side_lines, said_lines, certificate_format}
use Rattle.cert.specs.CertificateFormat.CertLine.{NodeLine}
use Rattle.cert.specs.ExecutionFormat.ExecutionLine.{EndLine}
use Rattle.cert.specs.CertificateFormat.Said.{NoneSaid, CycleSaid, RunSaid, EventsSaid, UpperSaid, EndsSaid}
use Rattle.cert.specs.ReadsCert.{FitsSteps, FitsEndLists, FitsCert, IsCertTextOf}
use Rattle.cert.specs.ReadAgain.{SaysOrMemory, IsReadAsCert, ShowsOrMemory, IsAccepted}
use Rattle.cert.specs.Shows.{Shows, IsUpperEnd, IsLowerEnd}
use Rattle.cert.proofs.CertReadable.{certificate_one}

-- ---- what a certificate says
-- what shows what it should, by what is said
abbrev ShownSaid : ProblemLists → Said → Type 0
ShownSaid p NoneSaid = ⊥
ShownSaid p (CycleSaid steps) = Shows p (Cycle steps)
ShownSaid p (RunSaid execution) = Shows p (Run execution)
ShownSaid p (EventsSaid a b) = ⊥
ShownSaid p (UpperSaid a b upper) = ⊥
ShownSaid p (EndsSaid a b upper lower) = IsUpperEnd p a b upper × IsLowerEnd p a b lower

shown_said : (p : ProblemLists) (c : Cert) → Shows p c → ShownSaid p (said c)
shown_said p (Cycle steps) shows = shows
shown_said p (Run execution) shows = shows
shown_said p (Ends a b upper lower) shows = shows

said_shown : (p : ProblemLists) (c : Cert) → ShownSaid p (said c) → Shows p c
said_shown p (Cycle steps) shows = shows
said_shown p (Run execution) shows = shows
said_shown p (Ends a b upper lower) shows = shows

-- it counts what is said alone
pub same_shows : (p : ProblemLists) (c d : Cert) → said c ≡ said d → Shows p c → Shows p d
same_shows p c d same shows = said_shown p d (subst (ShownSaid p) same (shown_said p c shows))

one_shows : (p : ProblemLists) (state : Said) (result : Result Cert CertError) → ShownSaid p state → SaysOrMemory state result → ShowsOrMemory p result
one_shows p state (Ok d) shown says = said_shown p d (subst (ShownSaid p) (sym says) shown)
one_shows p state (Err e) shown memory = memory

pub cycle_said : (steps : List Step) (d : Cert) → said d ≡ CycleSaid steps → d ≡ Cycle steps
cycle_said steps (Cycle others) same = let is : others ≡ steps = cc in ap (λ (s : List Step). Cycle s) is
cycle_said steps (Run execution) same = absurd cc
cycle_said steps (Ends a b upper lower) same = absurd cc

pub run_said : (execution : List ℤ) (d : Cert) → said d ≡ RunSaid execution → d ≡ Run execution
run_said execution (Cycle steps) same = absurd cc
run_said execution (Run values) same = let is : values ≡ execution = cc in ap (λ (x : List ℤ). Run x) is
run_said execution (Ends a b upper lower) same = absurd cc

-- ---- a text that says something
found_one : (a b : Said) → Found a ≡ Found b → a ≡ b
found_one a b same = cc

not_found : (kind : FaultKind) (n : ℕ) (s : Said) → Faulty kind n ≡ Found s → ⊥
not_found kind n s same = absurd cc

module _ (p : ProblemLists) (readings : List Reading) (are : AreReadings p readings) where
  abbrev IsFound : List ℕ → Said → Type 0
  IsFound text state = Answers (certificate_format p readings) text (Found state)

  -- the lines between the head and the end
  framed : (text : List ℕ) (state : Said) → text ≡ certified (said_lines p readings state) → text ≡ (line_of certificate_head ++ said_lines p readings state) ++ line_of (codes "end" ∷ [])
  framed text state is = is ∙ sym (append_assoc (line_of certificate_head) (said_lines p readings state) (line_of (codes "end" ∷ [])))

  one_each : (values : List ℤ) → HasOneEach p values → length values ≡ length (nodes_of p readings)
  one_each values (others, are', same) = same ∙ ap (λ (rs : List Reading). length (nodes_of p rs)) (readings_one p others readings are' are)

  values_sound : (values : List ℤ) → HasOneEach p values → All FitsUnits values → AreValues (length (nodes_of p readings)) values
  values_sound values each fits = let same = one_each values each in record { fit = fits; few = omega (arith, same) }

  steps_sound : (steps : List Step) → All (IsStepOf p) steps → FitsSteps steps → AreSteps p steps
  steps_sound steps declared fits = record { declared = declared; weights = fits.0; few = fits.1 }

  end_sound : (e : EndLists) → AreListsOf p e → FitsEndLists e → IsSoundEnd p readings e × IsWhole p readings e
  end_sound (Limited value path values) lists fits = ((fits.0, steps_sound path lists.0 fits.1, values_sound values lists.1 fits.2), one_each values lists.1)
  end_sound (Unlimited inside values) lists fits = ((record { known = lists.0; rising = lists.1 }, values_sound values lists.2 fits), one_each values lists.2)

  end_stands : (a b : ℕ) (upper lower : EndLists) → IsWhole p readings lower → MayStand p readings (EndsSaid a b upper lower) (NodeLine EndLine)
  end_stands a b upper (Limited value path values) whole = whole
  end_stands a b upper (Unlimited inside values) whole = whole

  upper_lines : (e : EndLists) → end_text p (nodes_of p readings) (codes "upper") (codes "+inf") e ≡ side_lines p readings Upper e
  upper_lines (Limited value path values) = refl
  upper_lines (Unlimited inside values) = refl

  lower_lines : (e : EndLists) → end_text p (nodes_of p readings) (codes "lower") (codes "-inf") e ≡ side_lines p readings Lower e
  lower_lines (Limited value path values) = refl
  lower_lines (Unlimited inside values) = refl

  lines_are : (a b : ℕ) (upper lower : EndLists) → ends_lines p (nodes_of p readings) a b upper lower ≡ said_lines p readings (EndsSaid a b upper lower)
  lines_are a b upper lower =
      ap (λ (t : List ℕ). said_lines p readings (EventsSaid a b) ++ t ++ end_text p (nodes_of p readings) (codes "lower") (codes "-inf") lower) (upper_lines upper)
      ∙ ap (λ (t : List ℕ). said_lines p readings (EventsSaid a b) ++ side_lines p readings Upper upper ++ t) (lower_lines lower)

  ends_found : (a b : ℕ) (upper lower : EndLists) (text : List ℕ) → a < length p.events → b < length p.events → AreListsOf p upper → AreListsOf p lower → FitsEndLists upper → FitsEndLists lower
      → length text ≤ most_text_bytes → text ≡ certified (ends_lines p (nodes_of p readings) a b upper lower) → IsFound text (EndsSaid a b upper lower)
  ends_found a b upper lower text there there' of of' fits fits' short is =
      let above = end_sound upper of fits in
      let below = end_sound lower of' fits' in
      (short, ((there, there'), above, below.0), end_stands a b upper lower below.1, framed text (EndsSaid a b upper lower) (is ∙ ap certified (lines_are a b upper lower)))

  cert_found : (c : Cert) (text : List ℕ) → IsCertTextOf p readings c text → IsFound text (said c)
  cert_found (Cycle steps) text (short, of, fits, is) = (short, steps_sound steps of fits, tt, framed text (CycleSaid steps) is)
  cert_found (Run values) text (short, of, fits, is) = (short, values_sound values of fits, one_each values of, framed text (RunSaid values) is)
  cert_found (Ends a b upper lower) text (short, of, fits, is) = ends_found a b (end_lists upper) (end_lists lower) text of.0 of.1 of.2 of.3 fits.0 fits.1 short is

  -- ---- it has no other answer
  module _ (lawful : IsProblem p) where
    faults : (text : List ℕ) (state : Said) (kind : FaultKind) (n : ℕ) → IsFound text state → Answers (certificate_format p readings) text (Faulty kind n) → ⊥
    faults text state kind n found fault = not_found kind n state (certificate_one p readings text (Faulty kind n) (Found state) lawful are fault found)

    read_as : (text : List ℕ) (state : Said) → IsFound text state → IsReadAsCert p readings text state
    read_as text state found (Ok d) reads = found_one (said d) state (certificate_one p readings text (Found (said d)) (Found state) lawful are (cert_found d text reads) found)
    read_as text state found (Err (errors.Syntax n)) reads = absurd (faults text state kinds.Syntax n found reads)
    read_as text state found (Err (errors.Name n)) reads = absurd (faults text state kinds.Name n found reads)
    read_as text state found (Err (errors.Range n)) reads = absurd (faults text state kinds.Range n found reads)
    read_as text state found (Err (errors.Limit n)) reads = absurd (faults text state kinds.Limit n found reads)
    read_as text state found (Err errors.Long) reads = absurd (let short = found.0 in omega (arith, short, reads))
    read_as text state found (Err errors.Memory) reads = refl

pub certificate_again : (p : ProblemLists) (readings : List Reading) (c : Cert) → IsProblem p → AreReadings p readings → IsCertOf p c → FitsCert c → length (certificate_text p (nodes_of p readings) c) ≤ most_text_bytes
    → IsReadAsCert p readings (certificate_text p (nodes_of p readings) c) (said c)
certificate_again p readings c lawful are of fits short =
    let text : List ℕ = certificate_text p (nodes_of p readings) c in
    read_as p readings are lawful text (said c) (cert_found p readings are c text (short, of, fits, refl))

pub ends_again : (p : ProblemLists) (readings : List Reading) (a b : ℕ) (upper lower : EndLists) → IsProblem p → AreReadings p readings → a < length p.events → b < length p.events
    → AreListsOf p upper → AreListsOf p lower → FitsEndLists upper → FitsEndLists lower → length (certified (ends_lines p (nodes_of p readings) a b upper lower)) ≤ most_text_bytes
    → IsReadAsCert p readings (certified (ends_lines p (nodes_of p readings) a b upper lower)) (EndsSaid a b upper lower)
ends_again p readings a b upper lower lawful are there there' of of' fits fits' short =
    let text : List ℕ = certified (ends_lines p (nodes_of p readings) a b upper lower) in
    read_as p readings are lawful text (EndsSaid a b upper lower) (ends_found p readings are a b upper lower text there there' of of' fits fits' short refl)

-- ---- and shows what it should
pub shown_again : (p : ProblemLists) (readings : List Reading) (c : Cert) → IsProblem p → AreReadings p readings → IsCertOf p c → FitsCert c → length (certificate_text p (nodes_of p readings) c) ≤ most_text_bytes → Shows p c
    → IsAccepted p readings (certificate_text p (nodes_of p readings) c)
shown_again p readings c lawful are of fits short shows result reads = one_shows p (said c) result (shown_said p c shows) (certificate_again p readings c lawful are of fits short result reads)

pub ends_shown_again : (p : ProblemLists) (readings : List Reading) (a b : ℕ) (upper lower : EndLists) → IsProblem p → AreReadings p readings → a < length p.events → b < length p.events
    → AreListsOf p upper → AreListsOf p lower → FitsEndLists upper → FitsEndLists lower → length (certified (ends_lines p (nodes_of p readings) a b upper lower)) ≤ most_text_bytes → IsUpperEnd p a b upper → IsLowerEnd p a b lower
    → IsAccepted p readings (certified (ends_lines p (nodes_of p readings) a b upper lower))
ends_shown_again p readings a b upper lower lawful are there there' of of' fits fits' short above below result reads =
    one_shows p (EndsSaid a b upper lower) result (above, below) (ends_again p readings a b upper lower lawful are there there' of of' fits fits' short result reads)
