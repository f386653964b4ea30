-- What taking a line does to a list or an end of a certificate.
use Rattle.std.specs.Prelude.{◌≡◌, ℕ, ◌+◌, ◌<◌, List, [], ◌∷◌, ◌++◌, length, All, ℤ, codes, Option, Some, None, IfSome, Result, Ok, Err}
use Rattle.atto.specs.Number.{FitsUnits}
use Rattle.line_format.specs.Words.{words}
use Rattle.line_format.specs.Format.{Takes}
use Rattle.line_format.specs.declared.fault.FaultKind.{FaultKind}
use Rattle.line_format.specs.declared.fault.FaultKind.TheVariants.{Syntax, Name, Range, Limit}
use Rattle.line_format.specs.declared.fault.LineError.{LineError}
use Rattle.line_format.specs.declared.fault.LineError.TheVariants as errors
use Rattle.line_format.specs.declared.fault.Taken.{Taken}
use Rattle.line_format.specs.declared.fault.Taken.TheVariants as taken
use Rattle.problem_model.specs.declared.items.Bound.{Bound}
use Rattle.problem_model.specs.Problem.{ProblemLists}
use Rattle.problem_model.specs.Nodes.{Reading}
use Rattle.problem.specs.Line.{HasClock}
use Rattle.problem.specs.Listing.{all_readings}
use Rattle.cert.specs.declared.chain.Step.{Step}
use Rattle.problem_model.specs.declared.items.Message.{Message}
use Rattle.problem_model.specs.Limits.{most_steps}
use Rattle.cert.specs.declared.kinds.Extreme.{Extreme}
use Rattle.cert.specs.declared.kinds.Extreme.TheVariants.{Most, Least}
use Rattle.cert.specs.declared.kinds.Side.{Side}
use Rattle.cert.specs.declared.certificate.EndProof.{EndProof}
use Rattle.cert.specs.declared.parts.Parts.{Parts}
use Rattle.cert.specs.declared.parts.Parts.TheVariants as parts
use Rattle.cert.specs.declared.parts.Next.{Next}
use Rattle.cert.specs.declared.parts.Next.TheVariants.{More, Done}
use Rattle.cert.specs.CertificateFormat.{CertLine, NamedBound, Said, Names, IsDeclared, limit_word, cert_words, IsSpelled, NumbersFit, HasRoomIn, NamesFitIn, MayStandIn, IsSound, IsWhole, end_steps, end_inside, end_values, end_size, side_lines, said, certificate_format}
use Rattle.cert.specs.EndLists.{EndLists, Limited, Unlimited, end_lists}
use Rattle.cert.specs.CertificateFormat.CertLine.{SideLine}
use Rattle.cert.specs.CertificateFormat.Said.{NoneSaid, EventsSaid, UpperSaid}

-- why a line is refused, by its names, its numbers and the room for it
abbrev pub RefusedBy : Type 0 → Type 0 → Type 0 → FaultKind → Type 0
RefusedBy names numbers room Syntax = ⊥
RefusedBy names numbers room Name = names → ⊥
RefusedBy names numbers room Range = names × (numbers → ⊥)
RefusedBy names numbers room Limit = names × numbers × (room → ⊥)

-- the message has this bound on its delay: a least one always
abbrev pub HasDelayBound : Extreme → Message → Type 0
HasDelayBound Most m = (most : ℕ) × (m.most ≡ Some most)
HasDelayBound Least m = Unit {0}

-- a step of these names and this weight behind the others, or why it is refused
abbrev pub TakesStep : ProblemLists → List Step → NamedBound → ℤ → Result (Unit {0}) LineError → List Step → Type 0
TakesStep p old n z (Ok _) new = (b : Bound) × Names p n b × IsDeclared p b × FitsUnits z × (length old < most_steps) × (new ≡ old ++ record { bound = b; weight = z } ∷ [])
TakesStep p old n z (Err errors.Memory) new = Unit {0}
TakesStep p old n z (Err (errors.Fault kind)) new = RefusedBy ((b : Bound) × Names p n b × IsDeclared p b) (FitsUnits z) (length old < most_steps) kind

-- the clock of this name behind the others, or why it is refused
abbrev pub TakesInside : ProblemLists → List ℕ → List ℕ → Result (Unit {0}) LineError → List ℕ → Type 0
TakesInside p old name (Ok _) new = (k : ℕ) × HasClock p k name × All (λ j. j < k) old × (new ≡ old ++ k ∷ [])
TakesInside p old name (Err errors.Memory) new = Unit {0}
TakesInside p old name (Err (errors.Fault kind)) new = RefusedBy ((k : ℕ) × HasClock p k name × All (λ j. j < k) old) (Unit {0}) (Unit {0}) kind

-- an end with its first line alone
abbrev pub begun : Option ℤ → EndLists
begun None = Unlimited [] []
begun (Some value) = Limited value [] []

-- an end begins by its limit, given that Says is so of the one that is spelled; or why that is refused
abbrev pub BeginsBy : (Option ℤ → Type 0) → Result EndProof LineError → Type 0
BeginsBy Says (Ok e) = (value : Option ℤ) × Says value × IfSome value FitsUnits × (end_lists e ≡ begun value)
BeginsBy Says (Err errors.Memory) = Unit {0}
BeginsBy Says (Err (errors.Fault Syntax)) = (value : Option ℤ) → Says value → ⊥
BeginsBy Says (Err (errors.Fault Name)) = ⊥
BeginsBy Says (Err (errors.Fault Range)) = (value : Option ℤ) × Says value × (IfSome value FitsUnits → ⊥)
BeginsBy Says (Err (errors.Fault Limit)) = ⊥

-- by the word for its limit
abbrev pub HasLimit : Side → List ℕ → Result EndProof LineError → Type 0
HasLimit side word result = BeginsBy (λ value. word ≡ limit_word side value) result

-- by the line of its limit
abbrev pub BeginsEnd : Side → List ℕ → Result EndProof LineError → Type 0
BeginsEnd side body result = BeginsBy (λ value. body ≡ words (cert_words (SideLine side value))) result

module _ (p : ProblemLists) (readings : List Reading) where
  -- an end says one line more, whichever end it is
  pub record EndGrows (e t : EndLists) (line : List ℕ) : Type 0 where
    pub text : (side : Side) → side_lines p readings side t ≡ side_lines p readings side e ++ line
    pub size : end_size t ≡ end_size e + 1

  -- what is wrong with a line of an end
  abbrev pub EndFault : EndLists → List ℕ → FaultKind → Type 0
  EndFault e body Syntax = (line : CertLine) → MayStandIn p readings e line → IsSpelled line → body ≡ words (cert_words line) → ⊥
  EndFault e body kind = (line : CertLine) × MayStandIn p readings e line × IsSpelled line × (body ≡ words (cert_words line))
      × RefusedBy (NamesFitIn p readings (end_inside e) (end_values e) line) (NumbersFit line) (HasRoomIn (end_steps e) line) kind

  -- what taking the text of a line does to an end
  abbrev pub TakesInEnd : EndLists → List ℕ → Result Taken LineError → EndLists → Type 0
  TakesInEnd e body (Ok taken.Line) t = EndGrows e t (body ++ 10 ∷ [])
  TakesInEnd e body (Ok taken.End) t = (t ≡ e) × IsWhole p readings e × (body ≡ codes "end")
  TakesInEnd e body (Err errors.Memory) t = Unit {0}
  TakesInEnd e body (Err (errors.Fault kind)) t = EndFault e body kind

-- what the parts say
abbrev pub parts_said : Parts → Said
parts_said parts.Nothing = NoneSaid
parts_said (parts.Events p q) = EventsSaid p q
parts_said (parts.Upper p q upper) = UpperSaid p q (end_lists upper)
parts_said (parts.Whole c) = said c

-- what taking the text of a line behind these parts gives
abbrev pub Gives : ProblemLists → Said → List ℕ → Result Next LineError → Type 0
Gives p s body (Ok (More more)) = Takes (certificate_format p (all_readings p.events)) s body (Ok taken.Line) (parts_said more) × IsSound p (all_readings p.events) (parts_said more)
Gives p s body (Ok (Done c)) = Takes (certificate_format p (all_readings p.events)) s body (Ok taken.End) (said c)
Gives p s body (Err fault) = Takes (certificate_format p (all_readings p.events)) s body (Err fault) s
