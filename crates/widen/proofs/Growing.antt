-- What one line more does to the text of a widening.
use Rattle.std.proofs.Common.{◌≡◌, ℕ, List, [], ◌∷◌, ◌++◌, Option, Some, None, codes, refl, sym, ◌∙◌, ap, arith, ℤ, append_assoc, append-nil}
use Rattle.std.proofs.lemmas.List.{append_cancel_left}
use Rattle.line_format.specs.Words.{line_of}
use Rattle.line_format.specs.Format.{Grows}
use Rattle.problem_model.specs.Problem.{ProblemLists}
use Rattle.problem_model.specs.Nodes.{Reading}
use Rattle.cert.specs.declared.chain.Step.{Step}
use Rattle.cert.specs.ExecutionFormat.{execution_format}
use Rattle.cert.specs.Listed.{certificate_head}
use Rattle.cert.specs.CertificateFormat.{certificate_format}
use Rattle.cert.specs.CertificateFormat.CertLine.{CycleLine}
use Rattle.cert.specs.CertificateFormat.Said.{CycleSaid}
use Rattle.cert_check.specs.declared.what.What.{What}
use Rattle.cert.proofs.CertGrowing.{behind_all, values_text, values_none, values_grow}
use Rattle.widen.specs.Named.{stated_words}
use Rattle.widen.specs.WideningText.{widening_head, least_line, cycle_lines}
use Rattle.widen.specs.WideningFormat.{WideningSaid, line_words, widening_format}
use Rattle.widen.specs.WideningFormat.WideningLine.{LeastLine, PartLine}
use Rattle.widen.specs.WideningFormat.WideningSaid.{NoneSaid, Said}

-- a piece more behind the last of four
last_of_four : (h a b c d l : List ℕ) → d ≡ c ++ l → h ++ ((a ++ b) ++ d) ≡ (h ++ ((a ++ b) ++ c)) ++ l
last_of_four h a b c d l is = behind_all h (a ++ b) c l d is

-- a piece more behind the third, where the last is empty
third_of_four : (h a b b' l : List ℕ) → b' ≡ b ++ l → h ++ ((a ++ b') ++ []) ≡ (h ++ ((a ++ b) ++ [])) ++ l
third_of_four h a b b' l is = rw (is, append-nil (a ++ (b ++ l)), append-nil (a ++ b)) (ap (λ (t : List ℕ). h ++ t) (sym (append_assoc a b l)) ∙ sym (append_assoc h (a ++ b) l))

module _ (p : ProblemLists) (readings : List Reading) where
  abbrev pub GrowsTo : WideningSaid → WideningSaid → List ℕ → Type 0
  GrowsTo = Grows (widening_format p readings)

  pub least_begins : (what : What) (extra : Option ℕ) → GrowsTo NoneSaid (Said what extra [] None) (line_of (line_words (LeastLine extra (stated_words p what))))
  least_begins what extra = record {
    text = first_only (line_of widening_head) (least_line p what extra) (values_text p readings []) (values_none p readings);
    lines = refl;
  }
    where
      first_only : (h a b : List ℕ) → b ≡ [] → h ++ ((a ++ b) ++ []) ≡ (h ++ []) ++ a
      first_only h a b none = rw (none, append-nil h, append-nil (a ++ []), append-nil a) refl

  pub times_grow : (what : What) (extra : Option ℕ) (vs ws : List ℤ) (line : List ℕ) → Grows (execution_format p readings) vs ws line → GrowsTo (Said what extra vs None) (Said what extra ws None) line
  times_grow what extra vs ws line grows =
      let g = values_grow p readings vs ws line grows in record {
        text = third_of_four (line_of widening_head) (least_line p what extra) (values_text p readings vs) (values_text p readings ws) line g.0;
        lines = omega (arith, g.1);
      }

  pub cycle_begins : (what : What) (extra : Option ℕ) (vs : List ℤ) → GrowsTo (Said what extra vs None) (Said what extra vs (Some [])) (line_of (line_words (PartLine CycleLine)))
  cycle_begins what extra vs = record {
    text = last_of_four (line_of widening_head) (least_line p what extra) (values_text p readings vs) [] (cycle_lines p (Some [])) (line_of (codes "cycle" ∷ [])) refl;
    lines = omega arith;
  }

  pub steps_grow : (what : What) (extra : Option ℕ) (vs : List ℤ) (old new : List Step) (line : List ℕ) → Grows (certificate_format p readings) (CycleSaid old) (CycleSaid new) line → GrowsTo (Said what extra vs (Some old)) (Said what extra vs (Some new)) line
  steps_grow what extra vs old new line grows = record {
    text = last_of_four (line_of widening_head) (least_line p what extra) (values_text p readings vs) (cycle_lines p (Some old)) (cycle_lines p (Some new)) line
        (append_cancel_left (line_of certificate_head) (cycle_lines p (Some new)) (cycle_lines p (Some old) ++ line) (grows.text ∙ append_assoc (line_of certificate_head) (cycle_lines p (Some old)) line));
    lines = omega (arith, grows.lines);
  }
