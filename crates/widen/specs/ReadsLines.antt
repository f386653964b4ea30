-- What reading some lines of a widening's text answers.
use Rattle.std.specs.Prelude.{◌≡◌, ℕ, ◌+◌, ◌≤◌, ◌<◌, ◌^◌, List, [], ◌++◌, length, Option, Some, None, ℤ, Result, Ok, Err}
use Rattle.std.specs.Borrow.{Bor}
use Rattle.line_format.specs.Words.{line_of}
use Rattle.line_format.specs.Cut.{cut}
use Rattle.line_format.specs.Format.{Answers, most_text_bytes}
use Rattle.line_format.specs.Format.Answer.{Found, Faulty}
use Rattle.line_format.specs.declared.fault.FaultKind.TheVariants.{Range}
use Rattle.problem_model.specs.Problem.{ProblemLists}
use Rattle.problem_model.specs.Nodes.{Reading}
use Rattle.cert.specs.declared.chain.Step.{Step}
use Rattle.cert.specs.declared.error.CertError.{CertError}
use Rattle.cert_check.specs.declared.what.What.{What}
use Rattle.widen.specs.declared.read.Extra.{Extra}
use Rattle.widen.specs.declared.read.Extra.TheVariants.{Of, TooMuch, Never}
use Rattle.widen.specs.WideningText.{widening_head}
use Rattle.widen.specs.WideningFormat.{WideningSaid, IsWhole, IsSound, said_size, said_lines, widening_format}
use Rattle.widen.specs.WideningFormat.WideningSaid.{NoneSaid, Said}
use Rattle.widen.specs.ReadsWidening.{RefusesText}

-- this is stated by the number, or by that there is none
abbrev pub IsStated : Option ℕ → Extra → Type 0
IsStated extra (Of e) = (extra ≡ Some e) × (e < 2 ^ 62)
IsStated extra TooMuch = (e : ℕ) × (extra ≡ Some e) × (2 ^ 62 ≤ e)
IsStated extra Never = extra ≡ None

module _ (p : ProblemLists) (readings : List Reading) where
  -- the rest stands behind the lines that say s, and line n is its first
  pub record IsBehind (text rest : List ℕ) (s : WideningSaid) (n : ℕ) : Type 0 where
    pub is : text ≡ line_of widening_head ++ said_lines p readings s ++ rest
    pub number : n ≡ said_size s + 2
    pub sound : IsSound p readings s
    pub short : length text ≤ most_text_bytes

  -- line 2 of the text is this one without its line feed, and this is the rest
  abbrev pub IsSecondOf : List ℕ → List ℕ → List ℕ → Type 0
  IsSecondOf text body rest = (lines : List ℕ) × IsBehind text lines NoneSaid 2 × (cut 10 lines ≡ Some (body, rest))

  -- line 2 of the text states this, and this is the rest: that of a widening, a fault, or that of no widening
  abbrev pub IsStatedIn : List ℕ → List ℕ → What → Extra → Type 0
  IsStatedIn text rest what (Of e) = IsBehind text rest (Said what (Some e) [] None) 3
  IsStatedIn text rest what TooMuch = Answers (widening_format p readings) text (Faulty Range 2)
  IsStatedIn text rest what Never = IsBehind text rest (Said what None [] None) 3

  -- the real time of one node more, and what stands behind it, or the text's first fault
  abbrev pub ReadsTime : List ℕ → What → ℕ → List ℤ → Result (Bor (List ℕ)) CertError → Type 0
  ReadsTime text what extra values (Ok rest) = IsBehind text rest.now (Said what (Some extra) values None) (length values + 3)
  ReadsTime text what extra values (Err e) = RefusesText p readings text e

  -- the real times of all nodes, and what stands behind them, or the text's first fault
  abbrev pub ReadsTimes : List ℕ → What → ℕ → List ℤ → Result (Bor (List ℕ)) CertError → Type 0
  ReadsTimes text what extra values (Ok rest) = IsBehind text rest.now (Said what (Some extra) values None) (length values + 3) × IsWhole p readings values
  ReadsTimes text what extra values (Err e) = RefusesText p readings text e

  -- the whole text, which has no cycle, or its first fault
  abbrev pub ReadsEnd : List ℕ → What → List ℤ → Result (Unit {0}) CertError → Type 0
  ReadsEnd text what values (Ok _) = Answers (widening_format p readings) text (Found (Said what (Some 0) values None))
  ReadsEnd text what values (Err e) = RefusesText p readings text e

  -- the whole text with the steps of its cycle, or its first fault
  abbrev pub ReadsCycle : List ℕ → What → Option ℕ → List ℤ → Result (List Step) CertError → Type 0
  ReadsCycle text what extra values (Ok cycle) = Answers (widening_format p readings) text (Found (Said what extra values (Some cycle)))
  ReadsCycle text what extra values (Err e) = RefusesText p readings text e
