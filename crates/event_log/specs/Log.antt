-- The rows of a piece of an event log, or its first record that is no row.
use Rattle.std.specs.Prelude.{◌≡◌, ℕ, ◌+◌, List, [], ◌∷◌, ◌++◌, length, take, ⊤}
use Rattle.csv.specs.Reading.{default_config, records, strip_bom}
use Rattle.event_log.specs.declared.errors.LogError.{LogError}
use Rattle.event_log.specs.declared.errors.LogError.TheVariants.{Fields, Stamp, Kind, Text, Memory}
use Rattle.event_log.specs.declared.read.FirstRows.{FirstRows}
use Rattle.event_log.specs.declared.row.Row.{Row}
use Rattle.event_log.specs.Row.{IsRowRecord, LacksFields, LacksStamp, LacksKind, LacksTexts}

-- the records of a piece, as `csv` reads it, without a byte order mark
abbrev pub records_of : List ℕ → List (List (List ℕ))
records_of piece = records default_config (strip_bom piece)

-- the records are those of these rows, one by one
abbrev pub AreRows : List (List (List ℕ)) → List Row → Type 0
AreRows [] [] = ⊤
AreRows [] (row ∷ rows) = ⊥
AreRows (fields ∷ more) [] = ⊥
AreRows (fields ∷ more) (row ∷ rows) = IsRowRecord fields row × AreRows more rows

-- the first rows of the piece, at most so many, and how many rows it has in all
pub record AreFirstRows (piece : List ℕ) (most : ℕ) (rows : FirstRows) : Type 0 where
  pub all : List Row
  pub are : AreRows (records_of piece) all
  pub kept : rows.kept.items ≡ take most all
  pub count : rows.count ≡ length all

-- record n, counted from 1, lacks something, and all before it are rows
pub record IsFirstFaulty (Lacks : List (List ℕ) → Type 0) (piece : List ℕ) (n : ℕ) : Type 0 where
  pub before : List (List (List ℕ))
  pub rows : List Row
  pub fields : List (List ℕ)
  pub after : List (List (List ℕ))
  pub are : records_of piece ≡ before ++ fields ∷ after
  pub earlier : AreRows before rows
  pub number : n ≡ length before + 1
  pub lacks : Lacks fields

-- why a piece is refused: its first record that is no row, by what that lacks
abbrev pub IsLogFault : List ℕ → LogError → Type 0
IsLogFault piece (Fields n) = IsFirstFaulty LacksFields piece n
IsLogFault piece (Stamp n) = IsFirstFaulty LacksStamp piece n
IsLogFault piece (Kind n) = IsFirstFaulty LacksKind piece n
IsLogFault piece (Text n) = IsFirstFaulty LacksTexts piece n
IsLogFault piece Memory = ⊤
