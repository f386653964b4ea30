-- The steps of a call: a piece is taken from the bytes held, and others are read.
use Rattle.std.specs.Prelude.{◌≡◌, ℕ, ◌+◌, ◌<◌, ◌≤◌, List, [], ◌∷◌, ◌++◌, length, Bool, true, false, Result, Ok, Err, IsErrOf}
use Rattle.ports.specs.Content.{SourceTold, Rose}
use Rattle.ports.specs.declared.line.Line.{Line}
use Rattle.ports.specs.declared.line.Line.TheVariants.{Text, TooLong, End}
use Rattle.ports.specs.declared.line.LineFault.{LineFault}
use Rattle.ports.specs.declared.line.LineFault.TheVariants.{Read, Limit}
use Rattle.ports.specs.declared.reader.Piece.{Piece}
use Rattle.ports.specs.declared.reader.Piece.TheVariants.{Whole, Part}
use Rattle.ports.specs.Lines.{NoFeed, most_line, most_taken}
use Rattle.ports.specs.Reader.{Reader, Came, NoneLeft}

-- what is kept of the front of a line: its bytes, or that they are too many
abbrev pub IsKeptFront : List ℕ → List ℕ → Bool → Type 0
IsKeptFront front line false = (line ≡ front) × (length front ≤ most_line)
IsKeptFront front line true = most_line < length front

-- what a line is told as
abbrev pub found_as : Bool → Line
found_as false = Text
found_as true = TooLong

-- a line is told as text or as too long
abbrev pub IsTold : List ℕ → List ℕ → Line → Type 0
IsTold whole line Text = (line ≡ whole) × (length whole ≤ most_line)
IsTold whole line TooLong = most_line < length whole
IsTold whole line End = ⊥

-- the bytes held up to a line feed, or all of them, go on with a line
abbrev pub TakesPiece : Reader → Reader → List ℕ → List ℕ → Piece → Type 0
TakesPiece old new front line (Whole found) = (piece : List ℕ) × NoFeed piece × (old.held ≡ piece ++ 10 ∷ new.held) × IsTold (front ++ piece) line found
TakesPiece old new front line (Part long) = NoFeed old.held × (new.held ≡ []) × IsKeptFront (front ++ old.held) line long

-- bytes are read and held, or there are none, or none may be held
abbrev pub IsRefilled : Reader → Reader → SourceTold → SourceTold → Result Bool LineFault → Type 0
IsRefilled old new before after (Ok true) = Came before after new.held × (0 < length new.held) × (old.taken + length new.held ≤ most_taken)
    × (new ≡ record old { held = new.held; taken = old.taken + length new.held })
IsRefilled old new before after (Ok false) = Came before after [] × NoneLeft before after × (new ≡ record old { ended = true })
IsRefilled old new before after (Err Read) = Came before after [] × (new ≡ record old { over = true })
IsRefilled old new before after (Err Limit) = (another : ℕ) × Came before after (another ∷ []) × (old.taken ≡ most_taken)
    × (new ≡ record old { taken = old.taken + 1; over = true })

-- so a block is filled again; reading fails only where the source's count of faults rose
pub record Refills (old new : Reader) (before after : SourceTold) (result : Result Bool LineFault) : Type 0 where
  pub read : IsRefilled old new before after result
  pub cause : IsErrOf result Read → Rose before.faults after.faults
  pub no_fall : before.faults ≤ after.faults

-- what the end of the source answers behind the front of a line
abbrev pub EndsLine : Reader → Reader → List ℕ → List ℕ → Line → Type 0
EndsLine old new front line Text = (0 < length front) × IsTold front line Text × (new ≡ old)
EndsLine old new front line TooLong = (0 < length front) × IsTold front line TooLong × (new ≡ old)
EndsLine old new front line End = (front ≡ []) × (new ≡ record old { over = true })
