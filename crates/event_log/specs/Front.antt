-- A front of a piece, in which no record has many fields.
use Rattle.std.specs.Prelude.{◌≡◌, ◌⊎◌, ℕ, ◌<◌, ◌+◌, List, [], ◌∷◌, ◌++◌, length}
use Rattle.csv.specs.declared.parser.Action.{Action}
use Rattle.csv.specs.declared.parser.Action.TheVariants as act
use Rattle.csv.specs.declared.parser.State.{State}
use Rattle.csv.specs.declared.parser.State.TheVariants as st
use Rattle.event_log.specs.declared.front.Place.{Place}
use Rattle.event_log.specs.declared.front.Place.TheVariants.{RecordStart, AfterReturn, FieldStart, InField, InQuotes, AfterQuote}

-- the state of `csv` at a place
abbrev pub state_of : Place → State
state_of RecordStart = st.StartRecord
state_of AfterReturn = st.AfterCr
state_of FieldStart = st.StartField
state_of InField = st.InField
state_of InQuotes = st.InQuoted
state_of AfterQuote = st.AfterQuote

-- how many fields of a record have ended behind a byte, by what `csv` does at it
abbrev pub ended_after : Action → ℕ → ℕ
ended_after act.EndField n = n + 1
ended_after act.EndRecord n = 0
ended_after act.Skip n = n
ended_after act.Copy n = n

-- the last record of the front has more than four fields, and so has the one that stands there among all
pub record EndsInFifth (all : List (List (List ℕ))) (front : List (List (List ℕ))) : Type 0 where
  pub before : List (List (List ℕ))
  pub last : List (List ℕ)
  pub whole : List (List ℕ)
  pub after : List (List (List ℕ))
  pub front_is : front ≡ before ++ last ∷ []
  pub all_are : all ≡ before ++ whole ∷ after
  pub last_many : 4 < length last
  pub whole_many : 4 < length whole

-- the front has all the records, or ends in the first of more than four fields
abbrev pub IsFrontOfRecords : List (List (List ℕ)) → List (List (List ℕ)) → Type 0
IsFrontOfRecords all front = (front ≡ all) ⊎ EndsInFifth all front
