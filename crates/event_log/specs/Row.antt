-- What a record of an event log says, by its fields.
use Rattle.std.specs.Prelude.{◌≡◌, ◌≢◌, ℕ, ◌<◌, ◌≤◌, ◌^◌, List, [], ◌∷◌, length, All, Option, Some, None, codes, Result, Ok, Err, ⊤}
use Rattle.std.specs.Int.{IsInRange}
use Rattle.std.specs.Str.Parse.{digits_value}
use Rattle.event_log.specs.Texts.{IsMessageText, IsLogText}
use Rattle.event_log.specs.declared.errors.LogError.{LogError}
use Rattle.event_log.specs.declared.errors.LogError.TheVariants as faults
use Rattle.event_log.specs.declared.row.Kind.{Kind}
use Rattle.event_log.specs.declared.row.Kind.TheVariants.{Send, Receive, Local}
use Rattle.event_log.specs.declared.row.Row.{Row}

-- the fields of a record of four
pub record FourFields : Type 0 where
  pub stamp : List ℕ
  pub kind : List ℕ
  pub message : List ℕ
  pub text : List ℕ

-- the record of these fields
abbrev pub record_of : FourFields → List (List ℕ)
record_of f = f.stamp ∷ f.kind ∷ f.message ∷ f.text ∷ []

-- 1 to 19 digits, also with zeros in front, of a number below 2 ^ 62
pub record IsStampText (text : List ℕ) : Type 0 where
  pub some : 0 < length text
  pub short : length text ≤ 19
  pub digits : All (λ c. IsInRange 48 57 c) text
  pub below : digits_value 10 text < 2 ^ 62

-- the word of each kind
abbrev pub kind_word : Kind → List ℕ
kind_word Send = codes "send"
kind_word Receive = codes "receive"
kind_word Local = codes "local"

-- a local row has no message, and every other row has one
abbrev pub FitsKind : Kind → List ℕ → Type 0
FitsKind Send message = message ≢ []
FitsKind Receive message = message ≢ []
FitsKind Local message = message ≡ []

-- the word is that of the kind, and the message fits it
pub record IsKind (word : List ℕ) (message : List ℕ) (kind : Kind) : Type 0 where
  pub named : word ≡ kind_word kind
  pub fits : FitsKind kind message

-- both texts are short and have no other bytes than they may
pub record AreTexts (message : List ℕ) (text : List ℕ) : Type 0 where
  pub of_message : IsMessageText message
  pub of_text : IsLogText text

-- the key of a row: its message, but none of a local row
abbrev pub row_key : Kind → List ℕ → Option (List ℕ)
row_key Send message = Some message
row_key Receive message = Some message
row_key Local message = None

-- the row of these fields, by its kind
abbrev pub row_by_kind : FourFields → Kind → Row
row_by_kind f kind = record { stamp = digits_value 10 f.stamp; kind = kind; key = row_key kind f.message; text = f.text }

-- the record is that of a row
pub record IsRowRecord (fields : List (List ℕ)) (row : Row) : Type 0 where
  pub four : FourFields
  pub are : fields ≡ record_of four
  pub stamp : IsStampText four.stamp
  pub kind : IsKind four.kind four.message row.kind
  pub texts : AreTexts four.message four.text
  pub is : row ≡ row_by_kind four row.kind

-- it has not four fields
abbrev pub LacksFields : List (List ℕ) → Type 0
LacksFields fields = length fields ≢ 4

-- its stamp is none
abbrev pub LacksStamp : List (List ℕ) → Type 0
LacksStamp fields = (f : FourFields) × (fields ≡ record_of f) × (IsStampText f.stamp → ⊥)

-- its stamp is one, and no kind has its word and its message
abbrev pub LacksKind : List (List ℕ) → Type 0
LacksKind fields = (f : FourFields) × (fields ≡ record_of f) × IsStampText f.stamp × ((kind : Kind) → IsKind f.kind f.message kind → ⊥)

-- its stamp and kind are good, and a text is not
abbrev pub LacksTexts : List (List ℕ) → Type 0
LacksTexts fields = (f : FourFields) × (kind : Kind) × (fields ≡ record_of f) × IsStampText f.stamp × IsKind f.kind f.message kind
    × (AreTexts f.message f.text → ⊥)

-- why record n is no row: the first of the four that it lacks
abbrev pub IsFault : List (List ℕ) → ℕ → LogError → Type 0
IsFault fields n (faults.Fields m) = (m ≡ n) × LacksFields fields
IsFault fields n (faults.Stamp m) = (m ≡ n) × LacksStamp fields
IsFault fields n (faults.Kind m) = (m ≡ n) × LacksKind fields
IsFault fields n (faults.Text m) = (m ≡ n) × LacksTexts fields
IsFault fields n faults.Memory = ⊤

-- what reading record n answers
abbrev pub ReadsRow : List (List ℕ) → ℕ → Result Row LogError → Type 0
ReadsRow fields n (Ok row) = IsRowRecord fields row
ReadsRow fields n (Err e) = IsFault fields n e
