-- Texts of lines that are taken one by one, and their first faults.
use Rattle.std.specs.Prelude.{◌≡◌, ◌≢◌, ℕ, ◌+◌, ◌≤◌, ◌<◌, ◌^◌, List, [], ◌∷◌, ◌++◌, length, Result, Ok, Err}
use Rattle.line_format.specs.Words.{words, line_of}
use Rattle.line_format.specs.declared.fault.FaultKind.{FaultKind}
use Rattle.line_format.specs.declared.fault.FaultKind.TheVariants.{Syntax, Name, Range, Limit}
use Rattle.line_format.specs.declared.fault.LineError.{LineError}
use Rattle.line_format.specs.declared.fault.LineError.TheVariants as errors
use Rattle.line_format.specs.declared.fault.Taken.{Taken}
use Rattle.line_format.specs.declared.fault.Taken.TheVariants as taken

-- the most bytes of a text that is read
abbrev pub most_text_bytes : ℕ
most_text_bytes = 2 ^ 34

-- A format: a head, then lines that say what is so far said, then the end.
-- A State is what the lines so far say; a Line has its numbers as large as they are written.
pub record Format (State Line : Type 0) : Type 1 where
  -- the words of the first line
  pub head : List (List ℕ)
  -- the last line
  pub end : Line
  -- the words of a line
  pub line_words : Line → List (List ℕ)
  -- its names are spelled as names
  pub IsSpelled : Line → Type 0
  -- a line of this form may stand behind these
  pub MayStand : State → Line → Type 0
  -- its names are the ones that may stand there
  pub NamesFit : State → Line → Type 0
  -- its numbers are in their ranges
  pub NumbersFit : Line → Type 0
  -- there is room for one more
  pub HasRoom : State → Line → Type 0
  -- the lines before are lawful
  pub IsSound : State → Type 0
  -- the text of the lines so far, and how many they are, with the head
  pub text_of : State → List ℕ
  pub lines_of : State → ℕ

module _ {State Line : Type 0} (f : Format State Line) where
  -- the first line
  abbrev pub head_line : List ℕ
  head_line = line_of f.head

  -- the last line
  abbrev pub end_line : List ℕ
  end_line = line_of (f.line_words f.end)

  -- the whole text
  abbrev pub whole_text : State → List ℕ
  whole_text s = f.text_of s ++ end_line

  -- the rest begins with this line, which may stand there by its form and is spelled right
  pub record Begins (s : State) (rest : List ℕ) (line : Line) : Type 0 where
    pub may : f.MayStand s line
    pub spelled : f.IsSpelled line
    pub more : List ℕ
    pub is : rest ≡ line_of (f.line_words line) ++ more

  -- what is wrong with the line at the front of the rest: none that may stand there by its form and is spelled right
  -- (`Syntax`), or one that is so and whose names, numbers or room fail, in this order
  abbrev pub FaultBehind : State → List ℕ → FaultKind → Type 0
  FaultBehind s rest Syntax = (line : Line) → Begins s rest line → ⊥
  FaultBehind s rest Name = (line : Line) × Begins s rest line × (f.NamesFit s line → ⊥)
  FaultBehind s rest Range = (line : Line) × Begins s rest line × f.NamesFit s line × (f.NumbersFit line → ⊥)
  FaultBehind s rest Limit = (line : Line) × Begins s rest line × f.NamesFit s line × f.NumbersFit line × (f.HasRoom s line → ⊥)

-- the lines before the first faulty one: none, some without the end (`Open`), or all (`Closed`)
pub data Front (State : Type 0) : Type 0 where
  Nothing : Front State
  Open : State → Front State
  Closed : State → Front State

module _ {State Line : Type 0} (f : Format State Line) where
  -- the text of these lines
  abbrev pub front_text : Front State → List ℕ
  front_text Nothing = []
  front_text (Open s) = f.text_of s
  front_text (Closed s) = whole_text f s

  -- how many lines these are
  abbrev pub front_lines : Front State → ℕ
  front_lines Nothing = 0
  front_lines (Open s) = f.lines_of s
  front_lines (Closed s) = f.lines_of s + 1

  -- these lines are lawful, and the end may stand where it does
  abbrev pub IsFront : Front State → Type 0
  IsFront Nothing = Unit {0}
  IsFront (Open s) = f.IsSound s
  IsFront (Closed s) = f.IsSound s × f.MayStand s f.end

  -- what is wrong behind them: no head, a faulty line, or anything behind the end
  abbrev pub FaultAt : Front State → List ℕ → FaultKind → Type 0
  FaultAt Nothing rest kind = (kind ≡ Syntax) × ((more : List ℕ) → rest ≡ head_line f ++ more → ⊥)
  FaultAt (Open s) rest kind = FaultBehind f s rest kind
  FaultAt (Closed s) rest kind = (kind ≡ Syntax) × (rest ≢ [])

  -- line n of the text is the first faulty one, with this fault: the text is lawful lines, then a rest that begins with
  -- it
  pub record IsFirstFault (text : List ℕ) (kind : FaultKind) (n : ℕ) : Type 0 where
    pub front : Front State
    pub sound : IsFront front
    pub rest : List ℕ
    pub is : text ≡ front_text front ++ rest
    pub number : n ≡ front_lines front + 1
    pub fault : FaultAt front rest kind

-- what reading a text answers: what it says, its first fault with the number of the line, or that it is too long
pub data Answer (State : Type 0) : Type 0 where
  Found : State → Answer State
  Faulty : FaultKind → ℕ → Answer State
  Long : Answer State

module _ {State Line : Type 0} (f : Format State Line) where
  -- the answer is right: a text of at most 2^34 bytes is that of a lawful state or has this first fault, and a longer
  -- one is too long
  abbrev pub Answers : List ℕ → Answer State → Type 0
  Answers text (Found s) = (length text ≤ most_text_bytes) × f.IsSound s × f.MayStand s f.end × (text ≡ whole_text f s)
  Answers text (Faulty kind n) = (length text ≤ most_text_bytes) × IsFirstFault f text kind n
  Answers text Long = most_text_bytes < length text

  -- why a line of a form is refused
  abbrev pub Refuses : State → Line → FaultKind → Type 0
  Refuses s line Syntax = ⊥
  Refuses s line Name = f.NamesFit s line → ⊥
  Refuses s line Range = f.NamesFit s line × (f.NumbersFit line → ⊥)
  Refuses s line Limit = f.NamesFit s line × f.NumbersFit line × (f.HasRoom s line → ⊥)

  -- the next state says one line more
  pub record Grows (s t : State) (line : List ℕ) : Type 0 where
    pub text : f.text_of t ≡ f.text_of s ++ line
    pub lines : f.lines_of t ≡ f.lines_of s + 1

  -- what is wrong with a line, by its text without the line feed
  abbrev pub FaultIn : State → List ℕ → FaultKind → Type 0
  FaultIn s body Syntax = (line : Line) → f.MayStand s line → f.IsSpelled line → body ≡ words (f.line_words line) → ⊥
  FaultIn s body kind = (line : Line) × f.MayStand s line × f.IsSpelled line × (body ≡ words (f.line_words line)) × Refuses s line kind

  -- what taking a line of a form does
  abbrev pub TakesLine : State → Line → Result (Unit {0}) LineError → State → Type 0
  TakesLine s line (Ok _) t = Grows s t (line_of (f.line_words line))
  TakesLine s line (Err errors.Memory) t = Unit {0}
  TakesLine s line (Err (errors.Fault kind)) t = Refuses s line kind

  -- what taking the text of a line does
  abbrev pub Takes : State → List ℕ → Result Taken LineError → State → Type 0
  Takes s body (Ok taken.Line) t = Grows s t (body ++ 10 ∷ [])
  Takes s body (Ok taken.End) t = (t ≡ s) × f.MayStand s f.end × (body ≡ words (f.line_words f.end))
  Takes s body (Err errors.Memory) t = Unit {0}
  Takes s body (Err (errors.Fault kind)) t = FaultIn s body kind
