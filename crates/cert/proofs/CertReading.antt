-- From the lines of a text to what the whole text answers.
use Rattle.std.proofs.Common.{◌≡◌, ◌↔◌, ◌⊎◌, inl, inr, ℕ, List, [], length, All, Some, Ok, Err, Result, refl, sym, ◌∙◌, ap, arith, ℤ}
use Rattle.atto.specs.Number.{FitsUnits}
use Rattle.line_format.specs.Cut.{cut}
use Rattle.line_format.specs.Format.{Answers, Answer, Takes, whole_text}
use Rattle.line_format.specs.Format.Answer.{Found, Faulty}
use Rattle.line_format.specs.declared.fault.FaultKind.{FaultKind}
use Rattle.line_format.specs.declared.fault.FaultKind.TheVariants as kinds
use Rattle.line_format.specs.declared.fault.LineError.{LineError}
use Rattle.line_format.specs.declared.fault.LineError.TheVariants as lines
use Rattle.line_format.specs.declared.fault.Taken.TheVariants as taken
use Rattle.line_format.proofs.Reading.{Stands, fault_answers, end_answers}
use Rattle.problem_model.specs.Problem.{ProblemLists, IsProblem}
use Rattle.problem_model.specs.Nodes.{Reading, AreReadings, nodes_of}
use Rattle.problem_model.proofs.OneList.{readings_one}
use Rattle.cert.specs.declared.certificate.EndProof.{EndProof}
use Rattle.cert.specs.declared.certificate.EndProof.TheVariants.{At, Unbounded}
use Rattle.cert.specs.declared.certificate.Cert.{Cert}
use Rattle.cert.specs.declared.certificate.Cert.TheVariants.{Cycle, Run, Ends}
use Rattle.cert.specs.declared.error.CertError.{CertError}
use Rattle.cert.specs.declared.error.CertError.TheVariants as errors
use Rattle.cert.specs.declared.kinds.Side.{Side}
use Rattle.cert.specs.declared.kinds.Side.TheVariants.{Upper, Lower}
use Rattle.cert.specs.ExecutionFormat.{AreValues}
use Rattle.cert.specs.ExecutionFormat.ExecutionLine.{EndLine}
use Rattle.cert.specs.Listed.{certified}
use Rattle.cert.specs.CertificateText.{end_lines, certificate_lines, certificate_text, HasOneEach, IsEndOf, IsCertOf}
use Rattle.cert.specs.CertificateFormat.{Said, MayStand, IsSound, IsSoundEnd, IsWhole, side_word, unlimited_word, side_lines, said_lines, said, certificate_format}
use Rattle.cert.specs.EndLists.{end_lists}
use Rattle.cert.specs.CertificateFormat.CertLine.{NodeLine}
use Rattle.cert.specs.ReadsExecution.{error_at}
use Rattle.cert.specs.ReadsCert.{FitsEndProof, FitsCert, IsCertTextOf, ReadsCertOver}
use Rattle.cert.proofs.CertLines.{cert_lacks}
use Rattle.cert.proofs.CertReadable.{certificate_one}

module _ (p : ProblemLists) (readings : List Reading) where
  -- ---- the text of what is said is that of the certificate
  end_is : (side : Side) (e : EndProof) → side_lines p readings side (end_lists e) ≡ end_lines p (nodes_of p readings) (side_word side) (unlimited_word side) e
  end_is side (At value path execution) = refl
  end_is side (Unbounded inside execution) = refl

  lines_are : (c : Cert) → said_lines p readings (said c) ≡ certificate_lines p (nodes_of p readings) c
  lines_are (Cycle steps) = refl
  lines_are (Run execution) = refl
  lines_are (Ends a b upper lower) = rw (end_is Upper upper, end_is Lower lower) refl

  whole_is : (c : Cert) → whole_text (certificate_format p readings) (said c) ≡ certificate_text p (nodes_of p readings) c
  whole_is c = ap certified (lines_are c)

  -- ---- what is said is lawful where the certificate is
  module _ (are : AreReadings p readings) where
    pub whole_from : (values : List ℤ) → HasOneEach p values → length values ≡ length (nodes_of p readings)
    whole_from values (rs, are', same) = same ∙ ap (λ (r : List Reading). length (nodes_of p r)) (readings_one p rs readings are' are)

    pub values_from : (values : List ℤ) → HasOneEach p values → All FitsUnits values → AreValues (length (nodes_of p readings)) values
    values_from values each fit = record { fit = fit; few = let same = whole_from values each in omega (arith, same) }

    end_from : (e : EndProof) → IsEndOf p e → FitsEndProof e → IsSoundEnd p readings (end_lists e) × IsWhole p readings (end_lists e)
    end_from (At value path execution) lawful fits =
        ((fits.0, record { declared = lawful.0; weights = fits.1.0; few = fits.1.1 }, values_from execution lawful.1 fits.2), whole_from execution lawful.1)
    end_from (Unbounded inside execution) lawful fits =
        ((record { known = lawful.0; rising = lawful.1 }, values_from execution lawful.2 fits), whole_from execution lawful.2)

    sound_from : (c : Cert) → IsCertOf p c → FitsCert c → IsSound p readings (said c) × MayStand p readings (said c) (NodeLine EndLine)
    sound_from (Cycle steps) lawful fits = (record { declared = lawful; weights = fits.0; few = fits.1 }, tt)
    sound_from (Run execution) lawful fits = (values_from execution lawful fits, whole_from execution lawful)
    sound_from (Ends a b upper (At value path execution)) lawful fits =
        let u = end_from upper lawful.2 fits.0 in
        let l = end_from (At value path execution) lawful.3 fits.1 in
        (((lawful.0, lawful.1), (u.0, u.1), l.0), l.1)
    sound_from (Ends a b upper (Unbounded inside execution)) lawful fits =
        let u = end_from upper lawful.2 fits.0 in
        let l = end_from (Unbounded inside execution) lawful.3 fits.1 in
        (((lawful.0, lawful.1), (u.0, u.1), l.0), l.1)

    end_back : (e : EndProof) → IsSoundEnd p readings (end_lists e) → IsWhole p readings (end_lists e) → IsEndOf p e × FitsEndProof e
    end_back (At value path execution) sound whole =
        ((sound.1.declared, (readings, are, whole)), (sound.0, (sound.1.weights, sound.1.few), sound.2.fit))
    end_back (Unbounded inside execution) sound whole = ((sound.0.known, sound.0.rising, (readings, are, whole)), sound.1.fit)

    sound_back : (c : Cert) → IsSound p readings (said c) → MayStand p readings (said c) (NodeLine EndLine) → IsCertOf p c × FitsCert c
    sound_back (Cycle steps) sound may = (sound.declared, (sound.weights, sound.few))
    sound_back (Run execution) sound may = ((readings, are, may), sound.fit)
    sound_back (Ends a b upper (At value path execution)) sound may =
        let u = end_back upper sound.1.0 sound.1.1 in
        let l = end_back (At value path execution) sound.2 may in
        ((sound.0.0, sound.0.1, u.0, l.0), (u.1, l.1))
    sound_back (Ends a b upper (Unbounded inside execution)) sound may =
        let u = end_back upper sound.1.0 sound.1.1 in
        let l = end_back (Unbounded inside execution) sound.2 may in
        ((sound.0.0, sound.0.1, u.0, l.0), (u.1, l.1))

    pub found_is : (c : Cert) (text : List ℕ) → IsCertTextOf p readings c text ↔ Answers (certificate_format p readings) text (Found (said c))
    found_is c text = (
      λ is. let s = sound_from c is.1 is.2 in (is.0, s.0, s.1, is.3 ∙ sym (whole_is c)),
      λ found. let s = sound_back c found.1 found.2 in (found.0, s.0, s.1, found.3 ∙ whole_is c),
    )

  -- ---- the loop
  abbrev Is : List ℕ → List ℕ → Said → ℕ → Type 0
  Is = Stands (certificate_format p readings) cert_lacks

  kind_reads : (text : List ℕ) (kind : FaultKind) (n : ℕ) → Answers (certificate_format p readings) text (Faulty kind n) → ReadsCertOver p readings text (Err (error_at (lines.Fault kind) n))
  kind_reads text kinds.Syntax n fault = fault
  kind_reads text kinds.Name n fault = fault
  kind_reads text kinds.Range n fault = fault
  kind_reads text kinds.Limit n fault = fault

  pub fault_reads : (text rest body after : List ℕ) (s t : Said) (n : ℕ) (e : LineError) → Is text rest s n → cut 10 rest ≡ Some (body, after) → Takes (certificate_format p readings) s body (Err e) t →
      ReadsCertOver p readings text (Err (error_at e n))
  fault_reads text rest body after s t n lines.Memory stands parts r = tt
  fault_reads text rest body after s t n (lines.Fault kind) stands parts r = kind_reads text kind n (fault_answers (certificate_format p readings) cert_lacks text rest body after s t n kind stands parts r)

  pub end_reads : AreReadings p readings → (text rest body after : List ℕ) (s : Said) (c : Cert) (n : ℕ) → Is text rest s n → cut 10 rest ≡ Some (body, after) → Takes (certificate_format p readings) s body (Ok taken.End) (said c) → after ≡ [] →
      ReadsCertOver p readings text (Ok c)
  end_reads are text rest body after s c n stands parts r none =
      (found_is are c text).1 (end_answers (certificate_format p readings) cert_lacks text rest body after s (said c) n stands parts r none)

  -- ---- what was written is read again
  said_of : Answer Said → Said
  said_of (Found s) = s
  said_of (Faulty kind n) = Said.NoneSaid
  said_of Answer.Long = Said.NoneSaid

  pub read_again : (c : Cert) (text : List ℕ) (result : Result Cert CertError) → IsProblem p → AreReadings p readings → IsCertTextOf p readings c text → ReadsCertOver p readings text result →
      ((d : Cert) × (result ≡ Ok d) × (said d ≡ said c)) ⊎ (result ≡ Err errors.Memory)
  unfolding said_of
  read_again c text (Ok d) lawful are is reads =
      inl (d, refl, ap said_of (certificate_one p readings text (Found (said d)) (Found (said c)) lawful are ((found_is are d text).0 reads) ((found_is are c text).0 is)))
  read_again c text (Err errors.Memory) lawful are is reads = inr refl
  read_again c text (Err errors.Long) lawful are is reads = absurd (omega (arith, is.0, reads))
  read_again c text (Err (errors.Syntax n)) lawful are is reads = absurd (let e = certificate_one p readings text (Found (said c)) (Faulty kinds.Syntax n) lawful are ((found_is are c text).0 is) reads in cc)
  read_again c text (Err (errors.Name n)) lawful are is reads = absurd (let e = certificate_one p readings text (Found (said c)) (Faulty kinds.Name n) lawful are ((found_is are c text).0 is) reads in cc)
  read_again c text (Err (errors.Range n)) lawful are is reads = absurd (let e = certificate_one p readings text (Found (said c)) (Faulty kinds.Range n) lawful are ((found_is are c text).0 is) reads in cc)
  read_again c text (Err (errors.Limit n)) lawful are is reads = absurd (let e = certificate_one p readings text (Found (said c)) (Faulty kinds.Limit n) lawful are ((found_is are c text).0 is) reads in cc)
