-- What a format keeps so that each of its texts has one answer.
use Rattle.std.proofs.Common.{◌≡◌, ℕ, suc}
use Rattle.line_format.specs.Words.{words, line_of}
use Rattle.line_format.specs.Cut.{Lacks}
use Rattle.line_format.specs.Format.{Format, head_line, Grows}

-- the state t says what s says, and this line
abbrev pub Adding : Type 0 → Type 0 → Type 1
Adding State Line = State → Line → State → Type 0

-- a lawful line was taken
pub record IsStep {State Line : Type 0} (f : Format State Line) (Adds : State → Line → State → Type 0) (s : State) (line : Line) (t : State) : Type 0 where
  pub sound : f.IsSound s
  pub may : f.MayStand s line
  pub spelled : f.IsSpelled line
  pub names : f.NamesFit s line
  pub numbers : f.NumbersFit line
  pub room : f.HasRoom s line
  pub adds : Adds s line t
  pub grows : Grows f s t (line_of (f.line_words line))

pub record IsReadable {State Line : Type 0} (f : Format State Line) (Adds : State → Line → State → Type 0) (start : State) (size : State → ℕ) : Type 0 where
  -- a line has no line feed inside
  pub lacks : (line : Line) → f.IsSpelled line → Lacks 10 (words (f.line_words line))
  -- its words tell the line
  pub one_line : (a b : Line) → f.IsSpelled a → f.IsSpelled b → words (f.line_words a) ≡ words (f.line_words b) → a ≡ b
  -- the line tells the next state
  pub one_next : (s : State) (line : Line) (t u : State) → f.IsSound s → Adds s line t → Adds s line u → t ≡ u
  -- the end is a line without faults that adds nothing
  pub end_spelled : f.IsSpelled f.end
  pub end_fits : (s : State) → f.NamesFit s f.end × f.NumbersFit f.end × f.HasRoom s f.end
  pub end_adds : (s t : State) → Adds s f.end t → ⊥
  -- the first state has the head alone
  pub start_text : f.text_of start ≡ head_line f
  -- each sound state is the first one, or one smaller with one line more
  pub start_size : (s : State) → f.IsSound s → size s ≡ 0 → s ≡ start
  pub last_line : (s : State) (n : ℕ) → f.IsSound s → size s ≡ suc n → (r : State) × (line : Line) × (size r ≡ n) × IsStep f Adds r line s
