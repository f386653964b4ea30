-- What is found in the parts of a certificate is the answer for the whole.
use Rattle.std.proofs.Common.{◌≡◌, ◌≢◌, ◌<◌, ℕ, List, [], ◌∷◌, length, Option, Some, None, refl, arith, inl, inr}
use Rattle.std.specs.Prelude.{ℤ}
use Rattle.problem_model.specs.declared.items.Node.{Node}
use Rattle.problem_model.specs.declared.items.Node.TheVariants as nodes
use Rattle.problem_model.specs.Problem.{ProblemLists, IsWellFormed}
use Rattle.problem_model.specs.Solutions.{WeighedBound, Leads, IsContradictionOf}
use Rattle.cert.specs.declared.chain.Step.{Step}
use Rattle.cert.specs.declared.certificate.EndProof.{EndProof}
use Rattle.cert.specs.declared.certificate.EndProof.TheVariants.{At, Unbounded}
use Rattle.cert.specs.declared.certificate.Cert.{Cert}
use Rattle.cert.specs.declared.certificate.Cert.TheVariants as certs
use Rattle.cert.specs.CertificateText.{IsEndOf, IsCertOf}
use Rattle.cert.specs.Shows.{weighed_bounds, IsExecutionOf, LeadsAgainst, ShowsUpper, ShowsLower, Shows}
use Rattle.cert_check.specs.declared.answer.Part.{Part}
use Rattle.cert_check.specs.declared.answer.Part.TheVariants.{Cycle, Run, Upper, Lower}
use Rattle.cert_check.specs.declared.answer.Reason.{Reason}
use Rattle.cert_check.specs.declared.answer.Answer.{Answer}
use Rattle.cert_check.specs.declared.answer.Answer.TheVariants.{Yes, No}
use Rattle.cert_check.specs.Walks.{Goes}
use Rattle.cert_check.specs.Reasons.{CycleIs, IsBrokenBy, EndIs, IsSo, IsNoLater, IsFirstReason, IsAnswer}
use Rattle.cert_check.specs.Faults.{IsFirstWrong, FindsFault, ShowsEnd, verdict_at}
use Rattle.cert_check.proofs.Cycles.{cycle_sound}
use Rattle.cert_check.proofs.Paths.{path_sound}
use Rattle.cert_check.proofs.Agreeing.{execution_sound, difference_sound}
use Rattle.cert_check.proofs.Cutting.{cut_sound}

-- ---- ends, part by part
leads_of : (p : ProblemLists) (m n : Node) (steps : List WeighedBound) → Goes p Lower m steps n → Leads p m steps n
leads_of p m n [] goes = goes
leads_of p m n (s ∷ steps) goes = (goes.0, goes.1, goes.2, goes.3, leads_of p goes.0.to n steps goes.4)

goes_along : (p : ProblemLists) (m n : Node) (steps : List WeighedBound) → Leads p m steps n → Goes p Lower m steps n
goes_along p m n [] leads = leads
goes_along p m n (s ∷ steps) leads = (leads.0, leads.1, leads.2, leads.3, goes_along p leads.0.to n steps leads.4)

against_of : (p : ProblemLists) (m n : Node) (steps : List WeighedBound) → Goes p Upper m steps n → LeadsAgainst p m steps n
against_of p m n [] goes = goes
against_of p m n (s ∷ steps) goes = (goes.0, goes.1, goes.2, goes.3, against_of p goes.0.from n steps goes.4)

goes_against : (p : ProblemLists) (m n : Node) (steps : List WeighedBound) → LeadsAgainst p m steps n → Goes p Upper m steps n
goes_against p m n [] leads = leads
goes_against p m n (s ∷ steps) leads = (leads.0, leads.1, leads.2, leads.3, goes_against p leads.0.from n steps leads.4)

pub upper_shown : (p : ProblemLists) (first second : ℕ) (end : EndProof) → ShowsEnd p Upper first second end → ShowsUpper p first second end
upper_shown p first second (At value path execution) shown = (against_of p (nodes.Event second) (nodes.Event first) (weighed_bounds path) shown.0, shown.1, shown.2)
upper_shown p first second (Unbounded inside execution) shown = shown

pub lower_shown : (p : ProblemLists) (first second : ℕ) (end : EndProof) → ShowsEnd p Lower first second end → ShowsLower p first second end
lower_shown p first second (At value path execution) shown = (leads_of p (nodes.Event second) (nodes.Event first) (weighed_bounds path) shown.0, shown.1, shown.2)
lower_shown p first second (Unbounded inside execution) shown = shown

upper_back : (p : ProblemLists) (first second : ℕ) (end : EndProof) → ShowsUpper p first second end → ShowsEnd p Upper first second end
upper_back p first second (At value path execution) shown = (goes_against p (nodes.Event second) (nodes.Event first) (weighed_bounds path) shown.0, shown.1, shown.2)
upper_back p first second (Unbounded inside execution) shown = shown

lower_back : (p : ProblemLists) (first second : ℕ) (end : EndProof) → ShowsLower p first second end → ShowsEnd p Lower first second end
lower_back p first second (At value path execution) shown = (goes_along p (nodes.Event second) (nodes.Event first) (weighed_bounds path) shown.0, shown.1, shown.2)
lower_back p first second (Unbounded inside execution) shown = shown

-- ---- what is shown has no fault
module _ (p : ProblemLists) (lawful : IsWellFormed p) where
  pub end_sound : (part : Part) (first second : ℕ) (end : EndProof) → part ≢ Cycle → first < length p.events → second < length p.events → IsEndOf p end → ShowsEnd p part first second end → (r : Reason) → EndIs p part first second end r → ⊥
  end_sound part first second (At value path execution) is_path within within' of shown r (inl so) = path_sound p part first second value path lawful is_path of.0 shown.0 shown.1 r so
  end_sound part first second (At value path execution) is_path within within' of shown r (inr (inl so)) = execution_sound p execution lawful (shown.2.0, shown.2.1, shown.2.2) r so
  end_sound part first second (At value path execution) is_path within within' of shown r (inr (inr so)) = difference_sound p first second value execution within within' shown.2 r so
  end_sound part first second (Unbounded inside execution) is_path within within' of shown r (inl so) = cut_sound p part first second inside.items shown.0 r so
  end_sound part first second (Unbounded inside execution) is_path within within' of shown r (inr so) = execution_sound p execution lawful shown.1 r so

  pub no_reason : (c : Cert) (part : Part) (r : Reason) → IsCertOf p c → IsSo p c part r → Shows p c → ⊥
  no_reason (certs.Cycle steps) Cycle r of so shown = cycle_sound p steps lawful of shown r so
  no_reason (certs.Cycle steps) Run r of so shown = so
  no_reason (certs.Cycle steps) Upper r of so shown = so
  no_reason (certs.Cycle steps) Lower r of so shown = so
  no_reason (certs.Run execution) Run r of so shown = execution_sound p execution lawful shown r so
  no_reason (certs.Run execution) Cycle r of so shown = so
  no_reason (certs.Run execution) Upper r of so shown = so
  no_reason (certs.Run execution) Lower r of so shown = so
  no_reason (certs.Ends first second upper lower) Upper r of so shown = end_sound Upper first second upper (λ e. absurd cc) of.0 of.1 of.2 (upper_back p first second upper shown.0) r so
  no_reason (certs.Ends first second upper lower) Lower r of so shown = end_sound Lower first second lower (λ e. absurd cc) of.0 of.1 of.3 (lower_back p first second lower shown.1) r so
  no_reason (certs.Ends first second upper lower) Cycle r of so shown = so
  no_reason (certs.Ends first second upper lower) Run r of so shown = so

  pub yes_of : (c : Cert) (a : Answer) → IsCertOf p c → IsAnswer p c a → Shows p c → a ≡ Yes
  yes_of c Yes of is shown = refl
  yes_of c (No part r) of is shown = absurd (no_reason c part r of is.is_so shown)

  -- ---- the answer of each kind of certificate
  cycle_first : (steps : List Step) (r : Reason) → IsFirstWrong Cycle (CycleIs p steps) r → IsFirstReason p (certs.Cycle steps) Cycle r
  cycle_first steps r found = record { is_so = found.is_so; first = before }
    where
      before : (part : Part) (o : Reason) → IsSo p (certs.Cycle steps) part o → IsNoLater Cycle r part o
      before Cycle o so = found.first o so
      before Run o so = absurd so
      before Upper o so = absurd so
      before Lower o so = absurd so

  pub cycle_answer : (steps : List Step) (o : Option Reason) → FindsFault Cycle (CycleIs p steps) (IsContradictionOf p (weighed_bounds steps)) o → IsAnswer p (certs.Cycle steps) (verdict_at Cycle o)
  cycle_answer steps None found = found
  cycle_answer steps (Some r) found = cycle_first steps r found

  run_first : (execution : List ℤ) (r : Reason) → IsFirstWrong Run (IsBrokenBy p execution) r → IsFirstReason p (certs.Run execution) Run r
  run_first execution r found = record { is_so = found.is_so; first = before }
    where
      before : (part : Part) (o : Reason) → IsSo p (certs.Run execution) part o → IsNoLater Run r part o
      before Run o so = found.first o so
      before Cycle o so = absurd so
      before Upper o so = absurd so
      before Lower o so = absurd so

  pub run_answer : (execution : List ℤ) (o : Option Reason) → FindsFault Run (IsBrokenBy p execution) (IsExecutionOf p execution) o → IsAnswer p (certs.Run execution) (verdict_at Run o)
  run_answer execution None found = found
  run_answer execution (Some r) found = run_first execution r found

  module _ (first second : ℕ) (upper lower : EndProof) where
    upper_first : (r : Reason) → IsFirstWrong Upper (EndIs p Upper first second upper) r → IsFirstReason p (certs.Ends first second upper lower) Upper r
    upper_first r found = record { is_so = found.is_so; first = before }
      where
        before : (part : Part) (o : Reason) → IsSo p (certs.Ends first second upper lower) part o → IsNoLater Upper r part o
        before Upper o so = found.first o so
        before Lower o so = inl (omega arith)
        before Cycle o so = absurd so
        before Run o so = absurd so

    lower_first : (r : Reason) → ((o : Reason) → EndIs p Upper first second upper o → ⊥) → IsFirstWrong Lower (EndIs p Lower first second lower) r → IsFirstReason p (certs.Ends first second upper lower) Lower r
    lower_first r none found = record { is_so = found.is_so; first = before }
      where
        before : (part : Part) (o : Reason) → IsSo p (certs.Ends first second upper lower) part o → IsNoLater Lower r part o
        before Upper o so = absurd (none o so)
        before Lower o so = found.first o so
        before Cycle o so = absurd so
        before Run o so = absurd so

    pub upper_answer : (o : Option Reason) → (o ≡ None → ⊥) → FindsFault Upper (EndIs p Upper first second upper) (ShowsEnd p Upper first second upper) o → IsAnswer p (certs.Ends first second upper lower) (verdict_at Upper o)
    upper_answer None some found = absurd (some refl)
    upper_answer (Some r) some found = upper_first r found

    pub lower_answer : (o : Option Reason) → IsCertOf p (certs.Ends first second upper lower) → ShowsEnd p Upper first second upper → FindsFault Lower (EndIs p Lower first second lower) (ShowsEnd p Lower first second lower) o
        → IsAnswer p (certs.Ends first second upper lower) (verdict_at Lower o)
    lower_answer None of shown found = (upper_shown p first second upper shown, lower_shown p first second lower found)
    lower_answer (Some r) of shown found = lower_first r (end_sound Upper first second upper (λ e. absurd cc) of.0 of.1 of.2 shown) found
