-- The lines of a certificate's text, and when one may stand behind what is said so far.
use Rattle.std.specs.Prelude.{◌≡◌, ℕ, ◌+◌, ◌<◌, ◌≤◌, List, [], ◌∷◌, ◌++◌, length, codes, Option, Some, None, IfSome, ℤ, All, AllPairs}
use Rattle.std.specs.List.{flat_map}
use Rattle.atto.specs.NsText.{ns_text}
use Rattle.atto.specs.Number.{FitsUnits}
use Rattle.line_format.specs.Words.{line_of}
use Rattle.line_format.specs.Format.{Format}
use Rattle.problem_model.specs.declared.items.Bound.{Bound}
use Rattle.problem_model.specs.declared.items.Bound.TheVariants as bounds
use Rattle.problem_model.specs.declared.items.Bound.TheVariants.{SpanMost, SpanLeast, Late, Early, DelayMost, DelayLeast}
use Rattle.problem_model.specs.Name.{IsEventName, IsClockName}
use Rattle.problem_model.specs.Problem.{ProblemLists}
use Rattle.problem_model.specs.ProblemText.{event_name}
use Rattle.problem_model.specs.BoundText.{span_words, stamp_words, follow_words, delay_words}
use Rattle.problem_model.specs.Bounds.{Constraint, Declares}
use Rattle.problem_model.specs.Nodes.{Reading, nodes_of}
use Rattle.problem_model.specs.ExecutionText.{value_lines}
use Rattle.problem_model.specs.Limits.{most_steps}
use Rattle.problem.specs.Line.{HasClock, HasEvent}
use Rattle.cert.specs.declared.chain.Step.{Step}
use Rattle.cert.specs.declared.certificate.Cert.{Cert}
use Rattle.cert.specs.declared.certificate.Cert.TheVariants.{Cycle, Run, Ends}
use Rattle.cert.specs.declared.kinds.Extreme.{Extreme}
use Rattle.cert.specs.declared.kinds.Extreme.TheVariants.{Most, Least}
use Rattle.cert.specs.declared.kinds.StampBound.{StampBound}
use Rattle.cert.specs.declared.kinds.StampBound.TheVariants as stamps
use Rattle.cert.specs.declared.kinds.Side.{Side}
use Rattle.cert.specs.declared.kinds.Side.TheVariants.{Upper, Lower}
use Rattle.cert.specs.EndLists.{EndLists, Limited, Unlimited, end_lists}
use Rattle.cert.specs.Listed.{certificate_head}
use Rattle.cert.specs.ExecutionFormat as executions
use Rattle.cert.specs.ExecutionFormat.{ExecutionLine, AreValues}
use Rattle.cert.specs.ExecutionFormat.ExecutionLine.{EndLine}
use Rattle.cert.specs.CertificateText.{step_line, inside_line, IsStepOf}

-- ---- bounds by their names
-- a bound by the names of its clocks or events, with stamps as large as they are written
pub data NamedBound : Type 0 where
  Span : Extreme → List ℕ → ℕ → ℕ → NamedBound
  Stamp : StampBound → List ℕ → NamedBound
  Follow : List ℕ → ℕ → List ℕ → ℕ → NamedBound
  Delay : Extreme → List ℕ → List ℕ → NamedBound

-- the first word of a bound over a span
abbrev pub span_word : Extreme → List ℕ
span_word Most = codes "span-most"
span_word Least = codes "span-least"

-- that of a bound on a stamp
abbrev pub stamp_word : StampBound → List ℕ
stamp_word stamps.Late = codes "late"
stamp_word stamps.Early = codes "early"

-- that of a bound on a delay
abbrev pub delay_word : Extreme → List ℕ
delay_word Most = codes "delay-most"
delay_word Least = codes "delay-least"

-- the words of a bound
abbrev pub named_words : NamedBound → List (List ℕ)
named_words (Span extreme clock s t) = span_words (span_word extreme) clock s t
named_words (Stamp kind event) = stamp_words (stamp_word kind) event
named_words (Follow earlier s later t) = follow_words earlier s later t
named_words (Delay extreme send receive) = delay_words (delay_word extreme) send receive

-- each name is spelled as one of its kind
abbrev pub IsBoundSpelled : NamedBound → Type 0
IsBoundSpelled (Span extreme clock s t) = IsClockName clock
IsBoundSpelled (Stamp kind event) = IsEventName event
IsBoundSpelled (Follow earlier s later t) = IsClockName earlier × IsClockName later
IsBoundSpelled (Delay extreme send receive) = IsEventName send × IsEventName receive

-- the bound over a span of the clock at a place
abbrev pub span_bound : Extreme → ℕ → ℕ → ℕ → Bound
span_bound Most clock s t = SpanMost clock s t
span_bound Least clock s t = SpanLeast clock s t

-- the bound on the stamp of the event at a place
abbrev pub stamp_bound : StampBound → ℕ → Bound
stamp_bound stamps.Late event = Late event
stamp_bound stamps.Early event = Early event

-- the bound on the delay of the message between the events at two places
abbrev pub delay_bound : Extreme → ℕ → ℕ → Bound
delay_bound Most send receive = DelayMost send receive
delay_bound Least send receive = DelayLeast send receive

-- b is the bound of these names, by the places of its clocks or events
abbrev pub Names : ProblemLists → NamedBound → Bound → Type 0
Names p (Span extreme clock s t) b = (k : ℕ) × HasClock p k clock × (b ≡ span_bound extreme k s t)
Names p (Stamp kind event) b = (k : ℕ) × HasEvent p k event × (b ≡ stamp_bound kind k)
Names p (Follow earlier s later t) b = (j : ℕ) × (k : ℕ) × HasClock p j earlier × HasClock p k later × (b ≡ bounds.Follow j s k t)
Names p (Delay extreme send receive) b = (j : ℕ) × (k : ℕ) × HasEvent p j send × HasEvent p k receive × (b ≡ delay_bound extreme j k)

-- the problem declares it
abbrev pub IsDeclared : ProblemLists → Bound → Type 0
IsDeclared p b = (c : Constraint) × Declares p b c

-- ---- lines
-- a line of a certificate, where numbers are as large as they are written; an end without a limit has no value; the
-- lines of nodes and the end are those of an execution
pub data CertLine : Type 0 where
  CycleLine : CertLine
  RunLine : CertLine
  EndsLine : List ℕ → List ℕ → CertLine
  SideLine : Side → Option ℤ → CertLine
  StepLine : NamedBound → ℤ → CertLine
  InsideLine : List ℕ → CertLine
  NodeLine : ExecutionLine → CertLine

-- the first word of an end's part
abbrev pub side_word : Side → List ℕ
side_word Upper = codes "upper"
side_word Lower = codes "lower"

-- the word for no limit
abbrev pub unlimited_word : Side → List ℕ
unlimited_word Upper = codes "+inf"
unlimited_word Lower = codes "-inf"

-- the limit of an end, or the word for none
abbrev pub limit_word : Side → Option ℤ → List ℕ
limit_word side None = unlimited_word side
limit_word side (Some value) = ns_text value

-- the words of a line
abbrev pub cert_words : CertLine → List (List ℕ)
cert_words CycleLine = codes "cycle" ∷ []
cert_words RunLine = codes "run" ∷ []
cert_words (EndsLine p q) = codes "ends" ∷ p ∷ q ∷ []
cert_words (SideLine side value) = side_word side ∷ limit_word side value ∷ []
cert_words (StepLine bound weight) = codes "step" ∷ named_words bound ++ ns_text weight ∷ []
cert_words (InsideLine clock) = codes "inside" ∷ clock ∷ []
cert_words (NodeLine line) = executions.line_words line

-- each name is spelled as one of its kind
abbrev pub IsSpelled : CertLine → Type 0
IsSpelled (EndsLine p q) = IsEventName p × IsEventName q
IsSpelled (StepLine bound weight) = IsBoundSpelled bound
IsSpelled (InsideLine clock) = IsClockName clock
IsSpelled (NodeLine line) = executions.IsSpelled line
IsSpelled line = Unit {0}

-- each number is in its range
abbrev pub NumbersFit : CertLine → Type 0
NumbersFit (SideLine side value) = IfSome value FitsUnits
NumbersFit (StepLine bound weight) = FitsUnits weight
NumbersFit (NodeLine line) = executions.NumbersFit line
NumbersFit line = Unit {0}

-- ---- what is said so far
-- nothing; the steps of a cycle; real times; two events by their places; these and the upper end; these and both ends
pub data Said : Type 0 where
  NoneSaid : Said
  CycleSaid : List Step → Said
  RunSaid : List ℤ → Said
  EventsSaid : ℕ → ℕ → Said
  UpperSaid : ℕ → ℕ → EndLists → Said
  EndsSaid : ℕ → ℕ → EndLists → EndLists → Said

-- what a certificate says: all but where its list of clocks lies in memory
abbrev pub said : Cert → Said
said (Cycle steps) = CycleSaid steps
said (Run execution) = RunSaid execution
said (Ends p q upper lower) = EndsSaid p q (end_lists upper) (end_lists lower)

-- the steps of an end, its clocks inside, its real times
abbrev pub end_steps : EndLists → List Step
end_steps (Limited value path values) = path
end_steps (Unlimited inside values) = []

abbrev pub end_inside : EndLists → List ℕ
end_inside (Limited value path values) = []
end_inside (Unlimited inside values) = inside

abbrev pub end_values : EndLists → List ℤ
end_values (Limited value path values) = values
end_values (Unlimited inside values) = values

-- those of the part that is said last
abbrev pub steps_of : Said → List Step
steps_of NoneSaid = []
steps_of (CycleSaid steps) = steps
steps_of (RunSaid values) = []
steps_of (EventsSaid p q) = []
steps_of (UpperSaid p q upper) = end_steps upper
steps_of (EndsSaid p q upper lower) = end_steps lower

abbrev pub inside_of : Said → List ℕ
inside_of NoneSaid = []
inside_of (CycleSaid steps) = []
inside_of (RunSaid values) = []
inside_of (EventsSaid p q) = []
inside_of (UpperSaid p q upper) = end_inside upper
inside_of (EndsSaid p q upper lower) = end_inside lower

abbrev pub values_of : Said → List ℤ
values_of NoneSaid = []
values_of (CycleSaid steps) = []
values_of (RunSaid values) = values
values_of (EventsSaid p q) = []
values_of (UpperSaid p q upper) = end_values upper
values_of (EndsSaid p q upper lower) = end_values lower

-- the number of lines of an end
abbrev pub end_size : EndLists → ℕ
end_size (Limited value path values) = 1 + length path + length values
end_size (Unlimited inside values) = 1 + length inside + length values

-- the number of lines behind the head
abbrev pub said_size : Said → ℕ
said_size NoneSaid = 0
said_size (CycleSaid steps) = 1 + length steps
said_size (RunSaid values) = 1 + length values
said_size (EventsSaid p q) = 1
said_size (UpperSaid p q upper) = 1 + end_size upper
said_size (EndsSaid p q upper lower) = 1 + end_size upper + end_size lower

-- there is room for one more step
abbrev pub HasRoomIn : List Step → CertLine → Type 0
HasRoomIn steps (StepLine bound weight) = length steps < most_steps
HasRoomIn steps line = Unit {0}

-- steps of the problem, with weights in range, and not too many
pub record AreSteps (p : ProblemLists) (steps : List Step) : Type 0 where
  pub declared : All (IsStepOf p) steps
  pub weights : All (λ s. FitsUnits s.weight) steps
  pub few : length steps ≤ most_steps

-- clocks of the problem, rising
pub record AreInside (p : ProblemLists) (inside : List ℕ) : Type 0 where
  pub known : All (λ k. k < length p.clocks) inside
  pub rising : AllPairs (λ j k. j < k) inside

-- events of the problem
abbrev pub AreEvents : ProblemLists → ℕ → ℕ → Type 0
AreEvents p a b = (a < length p.events) × (b < length p.events)

-- the line that names the events
abbrev pub events_line : ProblemLists → ℕ → ℕ → List ℕ
events_line p a b = line_of (codes "ends" ∷ event_name p.events a ∷ event_name p.events b ∷ [])

-- the line of an end's limit
abbrev pub side_line : Side → Option ℤ → List ℕ
side_line side value = line_of (side_word side ∷ limit_word side value ∷ [])

-- ---- the format
module _ (p : ProblemLists) (readings : List Reading) where
  -- the line may follow in the part of an end: steps, or clocks inside, come before its real times
  abbrev pub MayStandIn : EndLists → CertLine → Type 0
  MayStandIn (Limited value path values) (StepLine bound weight) = values ≡ []
  MayStandIn (Unlimited inside values) (InsideLine clock) = values ≡ []
  MayStandIn end (NodeLine line) = executions.MayStand p readings (end_values end) line
  MayStandIn end line = ⊥

  -- each node has its real time
  abbrev pub IsWhole : EndLists → Type 0
  IsWhole end = length (end_values end) ≡ length (nodes_of p readings)

  -- the line may follow: a certificate's kind first; the upper end before the lower, and the end behind it
  abbrev pub MayStand : Said → CertLine → Type 0
  MayStand NoneSaid CycleLine = Unit {0}
  MayStand NoneSaid RunLine = Unit {0}
  MayStand NoneSaid (EndsLine a b) = Unit {0}
  MayStand (CycleSaid steps) (StepLine bound weight) = Unit {0}
  MayStand (CycleSaid steps) (NodeLine EndLine) = Unit {0}
  MayStand (RunSaid values) (NodeLine line) = executions.MayStand p readings values line
  MayStand (EventsSaid a b) (SideLine Upper value) = Unit {0}
  MayStand (UpperSaid a b upper) (SideLine Lower value) = IsWhole upper
  MayStand (UpperSaid a b upper) (NodeLine EndLine) = ⊥
  MayStand (UpperSaid a b upper) line = MayStandIn upper line
  MayStand (EndsSaid a b upper lower) line = MayStandIn lower line
  MayStand said line = ⊥

  -- the names may stand there: events of the problem; a bound that it declares; a clock behind those inside so far; the
  -- node whose turn it is
  abbrev pub NamesFitIn : List ℕ → List ℤ → CertLine → Type 0
  NamesFitIn inside values (EndsLine a b) = (j : ℕ) × (k : ℕ) × HasEvent p j a × HasEvent p k b
  NamesFitIn inside values (StepLine bound weight) = (b : Bound) × Names p bound b × IsDeclared p b
  NamesFitIn inside values (InsideLine clock) = (k : ℕ) × HasClock p k clock × All (λ j. j < k) inside
  NamesFitIn inside values (NodeLine line) = executions.NamesFit p readings values line
  NamesFitIn inside values line = Unit {0}

  -- what the end has so far is of the problem, in range and not too much
  abbrev pub IsSoundEnd : EndLists → Type 0
  IsSoundEnd (Limited value path values) = FitsUnits value × AreSteps p path × AreValues (length (nodes_of p readings)) values
  IsSoundEnd (Unlimited inside values) = AreInside p inside × AreValues (length (nodes_of p readings)) values

  -- all that is said so far is of the problem, in range and not too much
  abbrev pub IsSound : Said → Type 0
  IsSound NoneSaid = Unit {0}
  IsSound (CycleSaid steps) = AreSteps p steps
  IsSound (RunSaid values) = AreValues (length (nodes_of p readings)) values
  IsSound (EventsSaid a b) = AreEvents p a b
  IsSound (UpperSaid a b upper) = AreEvents p a b × IsSoundEnd upper
  IsSound (EndsSaid a b upper lower) = AreEvents p a b × (IsSoundEnd upper × IsWhole upper) × IsSoundEnd lower

  -- the lines of an end
  abbrev pub side_lines : Side → EndLists → List ℕ
  side_lines side (Limited value path values) = side_line side (Some value) ++ flat_map (step_line p) path ++ value_lines p (nodes_of p readings) values
  side_lines side (Unlimited inside values) = side_line side None ++ flat_map (inside_line p) inside ++ value_lines p (nodes_of p readings) values

  -- the lines behind the head
  abbrev pub said_lines : Said → List ℕ
  said_lines NoneSaid = []
  said_lines (CycleSaid steps) = line_of (codes "cycle" ∷ []) ++ flat_map (step_line p) steps
  said_lines (RunSaid values) = line_of (codes "run" ∷ []) ++ value_lines p (nodes_of p readings) values
  said_lines (EventsSaid a b) = events_line p a b
  said_lines (UpperSaid a b upper) = events_line p a b ++ side_lines Upper upper
  said_lines (EndsSaid a b upper lower) = events_line p a b ++ side_lines Upper upper ++ side_lines Lower lower

  -- all of these as a `Format`, whose state is what is said so far
  abbrev pub certificate_format : Format Said CertLine
  certificate_format = record {
    head = certificate_head;
    end = NodeLine EndLine;
    line_words = cert_words;
    IsSpelled = IsSpelled;
    MayStand = MayStand;
    NamesFit = λ s line. NamesFitIn (inside_of s) (values_of s) line;
    NumbersFit = NumbersFit;
    HasRoom = λ s line. HasRoomIn (steps_of s) line;
    IsSound = IsSound;
    text_of = λ s. line_of certificate_head ++ said_lines s;
    lines_of = λ s. said_size s + 1;
  }
