-- What the code holds of a line: a number that is too large is held as None.
use Rattle.std.specs.Prelude.{◌≡◌, ℕ, ◌^◌, List, [], ◌∷◌, Option, SomeIff, ℤ, codes}
use Rattle.atto.specs.Decimal.{decimal_of}
use Rattle.atto.specs.NsText.{ns_text}
use Rattle.atto.specs.Number.{Counts, FitsUnits}
use Rattle.line_format.specs.Words.{words}
use Rattle.problem_model.specs.Name.{IsEventName, IsClockName}
use Rattle.cert.specs.declared.words.EventWords.{EventWords}
use Rattle.cert.specs.declared.words.ReadingWords.{ReadingWords}

-- the text spells z units, which are held as v: as `None` where they are out of range
pub record SpellsValue (text : List ℕ) (v : Option ℤ) : Type 0 where
  pub z : ℤ
  pub is : text ≡ ns_text z
  pub held : SomeIff v (FitsUnits z) z

-- the text spells m, which is held as n: as `None` where it is too large
pub record SpellsNumber (text : List ℕ) (n : Option ℕ) : Type 0 where
  pub m : ℕ
  pub is : text ≡ decimal_of m
  pub held : Counts (2 ^ 64) m n

-- what the words of an event's line say
pub record EventValueParts (word name value : List ℕ) (w : EventWords) : Type 0 where
  pub word_is : word ≡ codes "event"
  pub name_is : name ≡ w.name
  pub named : IsEventName w.name
  pub value_is : SpellsValue value w.value

-- the text of an event's line
abbrev pub event_value_body : List ℕ → ℤ → List ℕ
event_value_body name z = words (codes "event" ∷ name ∷ ns_text z ∷ [])

-- the body is an event's line
pub record SaysEvent (body : List ℕ) (w : EventWords) : Type 0 where
  pub z : ℤ
  pub named : IsEventName w.name
  pub is : body ≡ event_value_body w.name z
  pub held : SomeIff w.value (FitsUnits z) z

-- the text is that of no event's line
abbrev pub NoEventValue : List ℕ → Type 0
NoEventValue body = (name : List ℕ) (z : ℤ) → IsEventName name → body ≡ event_value_body name z → ⊥

-- what the words of a reading's line say
pub record ReadingParts (word clock stamp value : List ℕ) (w : ReadingWords) : Type 0 where
  pub word_is : word ≡ codes "reading"
  pub clock_is : clock ≡ w.clock
  pub named : IsClockName w.clock
  pub stamp_is : SpellsNumber stamp w.stamp
  pub value_is : SpellsValue value w.value

-- the text of a reading's line
abbrev pub reading_body : List ℕ → ℕ → ℤ → List ℕ
reading_body clock m z = words (codes "reading" ∷ clock ∷ decimal_of m ∷ ns_text z ∷ [])

-- the body is a reading's line
pub record SaysReading (body : List ℕ) (w : ReadingWords) : Type 0 where
  pub m : ℕ
  pub z : ℤ
  pub named : IsClockName w.clock
  pub is : body ≡ reading_body w.clock m z
  pub stamp_held : Counts (2 ^ 64) m w.stamp
  pub held : SomeIff w.value (FitsUnits z) z

-- the text is that of no reading's line
abbrev pub NoReading : List ℕ → Type 0
NoReading body = (clock : List ℕ) (m : ℕ) (z : ℤ) → IsClockName clock → body ≡ reading_body clock m z → ⊥
