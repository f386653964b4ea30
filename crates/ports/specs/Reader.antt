-- A reader of lines, and what a call of it answers.
use Rattle.std.specs.Prelude.{◌≡◌, ℕ, ◌+◌, ◌-◌, ◌<◌, ◌≤◌, ◌⊎◌, List, [], ◌∷◌, ◌++◌, length, Some, Bool, true, false, Contains, Result, Ok, Err, IfSome, IsErrOf}
use Rattle.ports.specs.Content.{SourceTold, Rose}
use Rattle.ports.specs.declared.line.Line.{Line}
use Rattle.ports.specs.declared.line.Line.TheVariants.{Text, TooLong, End}
use Rattle.ports.specs.declared.line.LineFault.{LineFault}
use Rattle.ports.specs.declared.line.LineFault.TheVariants.{Read, Limit}
use Rattle.ports.specs.Lines.{NoFeed, most_line, most_taken}

-- the bytes read ahead, how many bytes were taken from sources, whether the end of a source was found, and whether a
-- call answered the end or a fault
pub record Reader : Type 0 where
  pub held : List ℕ
  pub taken : ℕ
  pub ended : Bool
  pub over : Bool

-- a reader that has taken nothing
abbrev pub fresh : Reader
fresh = record { held = []; taken = 0; ended = false; over = false }

-- bytes came off the front of what a source has left, where it tells
abbrev pub Came : SourceTold → SourceTold → List ℕ → Type 0
Came before after bytes = IfSome before.left (λ left. (rest : List ℕ) × (left ≡ bytes ++ rest) × (after.left ≡ Some rest))

-- nothing is left of what a source had, where it tells
abbrev pub NoneLeft : SourceTold → SourceTold → Type 0
NoneLeft before after = IfSome before.left (λ left. after.left ≡ Some [])

-- the first line of some bytes and what follows it; whether it is a last line, with bytes and no line feed
abbrev pub IsFirstLine : List ℕ → List ℕ → List ℕ → Bool → Type 0
IsFirstLine all line rest false = NoFeed line × (all ≡ line ++ 10 ∷ rest)
IsFirstLine all line rest true = NoFeed line × (0 < length line) × (all ≡ line) × (rest ≡ [])

-- the first line of the bytes held and those that came is given; where it has no line feed, nothing is left
pub record GivesLine (old new : Reader) (before after : SourceTold) (came line : List ℕ) : Type 0 where
  pub going : old.ended ≡ false
  pub first : IsFirstLine (old.held ++ came) line new.held new.ended
  pub last : new.ended ≡ true → NoneLeft before after

-- no byte was held and none came; none is left, or the end was found before
pub record Ends (old : Reader) (before after : SourceTold) (came : List ℕ) : Type 0 where
  pub held : old.held ≡ []
  pub none : came ≡ []
  pub last : old.ended ≡ false → NoneLeft before after

-- a line was broken off: the bytes held and those that came have no line feed, nor have those held then
pub record BreaksOff (old new : Reader) (came : List ℕ) : Type 0 where
  pub going : old.ended ≡ false
  pub part : NoFeed (old.held ++ came)
  pub held : NoFeed new.held

-- a line was broken off when 2^30 bytes were taken in all, and another byte came
pub record GoesPast (old new : Reader) (came : List ℕ) : Type 0 where
  pub front : List ℕ
  pub another : ℕ
  pub came_is : came ≡ front ++ another ∷ []
  pub most : old.taken + length front ≡ most_taken
  pub broken : BreaksOff old new front

-- what a call answers by the bytes that came in it from a source
abbrev pub IsNextLine : Reader → Reader → SourceTold → SourceTold → List ℕ → List ℕ → Result Line LineFault → Type 0
IsNextLine old new before after came line (Ok Text) = (length line ≤ most_line) × GivesLine old new before after came line
IsNextLine old new before after came line (Ok TooLong) = (long : List ℕ) × (most_line < length long) × GivesLine old new before after came long
IsNextLine old new before after came line (Ok End) = Ends old before after came
IsNextLine old new before after came line (Err Read) = BreaksOff old new came
IsNextLine old new before after came line (Err Limit) = GoesPast old new came

-- a call answers so by the bytes that came in it, and counts them; it finds a fault only where the source's count of them rose
pub record AnswersOneLine (old new : Reader) (before after : SourceTold) (line : List ℕ) (result : Result Line LineFault) : Type 0 where
  pub bytes : List ℕ
  pub came : Came before after bytes
  pub counted : new.taken ≡ old.taken + length bytes
  pub next : IsNextLine old new before after bytes line result
  pub cause : IsErrOf result Read → Rose before.faults after.faults
  pub no_fall : before.faults ≤ after.faults

-- a line feed is held, and so a whole line, or the end of the source was found
abbrev pub NeedsNoRead : Reader → Type 0
NeedsNoRead r = Contains r.held 10 ⊎ (r.ended ≡ true)

-- an answer behind which no call may follow
abbrev pub is_final : Result Line LineFault → Bool
is_final (Ok Text) = false
is_final (Ok TooLong) = false
is_final (Ok End) = true
is_final (Err fault) = true

-- how many bytes may still be given
abbrev pub room : Reader → ℕ
room r = most_taken + length r.held - r.taken
