-- The lines of a widening's text, and when one may stand behind what is said so far.
use Rattle.std.specs.Prelude.{◌≡◌, ℕ, ◌+◌, ◌<◌, ◌^◌, List, [], ◌++◌, length, Option, Some, None, IfSome, ℤ}
use Rattle.line_format.specs.Words.{line_of}
use Rattle.line_format.specs.Format.{Format}
use Rattle.problem_model.specs.Problem.{ProblemLists}
use Rattle.problem_model.specs.Nodes.{Reading, nodes_of}
use Rattle.problem_model.specs.ExecutionText.{value_lines}
use Rattle.cert.specs.declared.chain.Step.{Step}
use Rattle.cert.specs.ExecutionFormat as executions
use Rattle.cert.specs.ExecutionFormat.{ExecutionLine, AreValues}
use Rattle.cert.specs.ExecutionFormat.ExecutionLine.{EndLine}
use Rattle.cert.specs.CertificateFormat as certificates
use Rattle.cert.specs.CertificateFormat.{CertLine, Said as CertSaid, AreSteps, cert_words, certificate_format}
use Rattle.cert.specs.CertificateFormat.CertLine.{CycleLine, NodeLine}
use Rattle.cert_check.specs.declared.what.What.{What}
use Rattle.widen.specs.declared.widening.Widening.{Widening}
use Rattle.widen.specs.declared.widening.Widening.TheVariants.{Least, Never}
use Rattle.widen.specs.Named.{NamesWhat, StatesWhat, AreStated}
use Rattle.widen.specs.WideningText.{widening_head, least_words, least_line, cycle_lines}

-- ---- lines
-- the line of the widening, with a number as large as it is written and the words that name what is widened, or one that stands
-- in certificates too
pub data WideningLine : Type 0 where
  LeastLine : Option ℕ → List (List ℕ) → WideningLine
  PartLine : CertLine → WideningLine

-- the words of a line
abbrev pub line_words : WideningLine → List (List ℕ)
line_words (LeastLine extra named) = least_words extra named
line_words (PartLine line) = cert_words line

-- each name is spelled as one of its kind
abbrev pub IsSpelled : WideningLine → Type 0
IsSpelled (LeastLine extra named) = AreStated named
IsSpelled (PartLine line) = certificates.IsSpelled line

-- each number is in its range
abbrev pub NumbersFit : WideningLine → Type 0
NumbersFit (LeastLine extra named) = IfSome extra (λ e. e < 2 ^ 62)
NumbersFit (PartLine line) = certificates.NumbersFit line

-- ---- what is said so far
-- nothing; or what is widened, by how much or that none heals, so many real times, and the steps of a cycle where it has begun
pub data WideningSaid : Type 0 where
  NoneSaid : WideningSaid
  Said : What → Option ℕ → List ℤ → Option (List Step) → WideningSaid

-- what a widening of this says
abbrev pub said : What → Widening → WideningSaid
said what (Least extra execution cycle) = Said what (Some extra) execution cycle
said what (Never cycle) = Said what None [] (Some cycle)

-- what is said last, as a certificate says it: real times, or the steps of a cycle
abbrev pub part_of : WideningSaid → CertSaid
part_of NoneSaid = CertSaid.NoneSaid
part_of (Said what extra values None) = CertSaid.RunSaid values
part_of (Said what extra values (Some steps)) = CertSaid.CycleSaid steps

-- the number of lines of a cycle, and of all lines behind the head
abbrev pub cycle_size : Option (List Step) → ℕ
cycle_size None = 0
cycle_size (Some steps) = 1 + length steps

abbrev pub said_size : WideningSaid → ℕ
said_size NoneSaid = 0
said_size (Said what extra values cycle) = 1 + length values + cycle_size cycle

-- ---- the format
module _ (p : ProblemLists) (readings : List Reading) where
  -- each node has its real time
  abbrev pub IsWhole : List ℤ → Type 0
  IsWhole values = length values ≡ length (nodes_of p readings)

  -- a cycle may begin where no widening heals, or behind all nodes where the widening is above 0
  abbrev pub MayBegin : Option ℕ → List ℤ → Type 0
  MayBegin None values = Unit {0}
  MayBegin (Some extra) values = (0 < extra) × IsWhole values

  -- the line of the node whose turn it is, or the end behind all nodes where the widening is 0
  abbrev pub MayRun : Option ℕ → List ℤ → ExecutionLine → Type 0
  MayRun None values line = ⊥
  MayRun (Some extra) values EndLine = (extra ≡ 0) × IsWhole values
  MayRun (Some extra) values line = executions.MayStand p readings values line

  -- the line may follow: the widening first, then its real times, then its cycle
  abbrev pub MayStand : WideningSaid → WideningLine → Type 0
  MayStand NoneSaid (LeastLine extra named) = Unit {0}
  MayStand (Said what extra values None) (PartLine (NodeLine line)) = MayRun extra values line
  MayStand (Said what extra values None) (PartLine CycleLine) = MayBegin extra values
  MayStand (Said what extra values (Some steps)) (PartLine line) = certificates.MayStand p readings (CertSaid.CycleSaid steps) line
  MayStand state line = ⊥

  -- clocks of the problem; the node whose turn it is; a bound that the problem declares
  abbrev pub NamesFit : WideningSaid → WideningLine → Type 0
  NamesFit state (LeastLine extra named) = (what : What) × StatesWhat p named what
  NamesFit state (PartLine line) = (certificate_format p readings).NamesFit (part_of state) line

  -- there is room for one more step
  abbrev pub HasRoom : WideningSaid → WideningLine → Type 0
  HasRoom state (LeastLine extra named) = Unit {0}
  HasRoom state (PartLine line) = (certificate_format p readings).HasRoom (part_of state) line

  -- real times are at most those of all nodes, and there are none where no widening heals
  abbrev pub AreTimes : Option ℕ → List ℤ → Type 0
  AreTimes None values = values ≡ []
  AreTimes (Some extra) values = (extra < 2 ^ 62) × AreValues (length (nodes_of p readings)) values

  -- a cycle begins where it may, and has steps of the problem
  abbrev pub IsCycle : Option ℕ → List ℤ → Option (List Step) → Type 0
  IsCycle extra values None = Unit {0}
  IsCycle extra values (Some steps) = MayBegin extra values × AreSteps p steps

  -- all so far is lawful
  abbrev pub IsSound : WideningSaid → Type 0
  IsSound NoneSaid = Unit {0}
  IsSound (Said what extra values cycle) = AreTimes extra values × IsCycle extra values cycle × NamesWhat p what

  -- the lines behind the head
  abbrev pub said_lines : WideningSaid → List ℕ
  said_lines NoneSaid = []
  said_lines (Said what extra values cycle) = least_line p what extra ++ value_lines p (nodes_of p readings) values ++ cycle_lines p cycle

  -- the format of widening texts
  abbrev pub widening_format : Format WideningSaid WideningLine
  widening_format = record {
    head = widening_head;
    end = PartLine (NodeLine EndLine);
    line_words = line_words;
    IsSpelled = IsSpelled;
    MayStand = MayStand;
    NamesFit = NamesFit;
    NumbersFit = NumbersFit;
    HasRoom = HasRoom;
    IsSound = IsSound;
    text_of = λ s. line_of widening_head ++ said_lines s;
    lines_of = λ s. said_size s + 1;
  }
