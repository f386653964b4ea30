-- The words of each form.
use Rattle.std.proofs.Common.{◌≡◌, ℕ, List, [], ◌∷◌, get_or, Option, Some, None, codes, refl, sym, ◌∙◌, ap, arith, ℤ}
use Rattle.std.specs.Prelude.{IfSome, IfNone}
use Rattle.atto.specs.Decimal.{decimal_of}
use Rattle.atto.specs.NsText.{ns_text}
use Rattle.atto.proofs.OneSpelling.{decimal_of_injective}
use Rattle.line_format.specs.Words.{words}
use Rattle.line_format.specs.Cut.{Lacks, fields}
use Rattle.line_format.proofs.Fields.{fields_again, fields_take}
use Rattle.line_format.proofs.Lacking.{lacks_test, words_lack}
use Rattle.problem_model.specs.Name.{IsEventName, IsClockName}
use Rattle.cert.specs.ExecutionFormat.{ExecutionLine, line_words, IsSpelled}
use Rattle.cert.specs.ExecutionFormat.ExecutionLine.{EventLine, ReadingLine, EndLine}
use Rattle.cert.specs.Said.{EventValueParts, SaysEvent, NoEventValue, event_value_body, ReadingParts, SaysReading, NoReading, reading_body}
use Rattle.cert.specs.declared.words.EventWords.{EventWords}
use Rattle.cert.specs.declared.words.ReadingWords.{ReadingWords}
use Rattle.cert.proofs.Lacking.{clock_name_lacks, event_name_lacks, decimal_lacks, ns_lacks}
use Rattle.atto.proofs.Signs.{ns_text_injective}

pub some_through : {A : Type 0} (o : Option A) {P Q : A → Type 0} → ((x : A) → P x → Q x) → IfSome o P → IfSome o Q
some_through None f h = tt
some_through (Some x) f h = f x h

pub none_through : {A : Type 0} (o : Option A) {P Q : Type 0} → (P → Q) → IfNone o P → IfNone o Q
none_through None f h = f h
none_through (Some x) f h = tt

-- what holds anyway is said of none
pub none_anyway : {A : Type 0} (o : Option A) {P : Type 0} → P → IfNone o P
none_anyway None h = h
none_anyway (Some x) h = tt

-- ---- events
pub event_fields : (body name : List ℕ) (z : ℤ) → IsEventName name → body ≡ event_value_body name z → fields 2 body ≡ Some (codes "event" ∷ name ∷ ns_text z ∷ [])
event_fields body name z named is =
    rw is (fields_again 2 (codes "event" ∷ name ∷ ns_text z ∷ []) refl (lacks_test 32 (codes "event") refl, (event_name_lacks 32 name (omega arith) named, tt)))

pub event_not_three : (body : List ℕ) → fields 2 body ≡ None → NoEventValue body
event_not_three body none name z named is = let f = event_fields body name z named is in cc

pub event_not_parts : (body a b c : List ℕ) → fields 2 body ≡ Some (a ∷ b ∷ c ∷ []) → ((z : ℤ) → a ≡ codes "event" → IsEventName b → c ≡ ns_text z → ⊥) → NoEventValue body
event_not_parts body a b c three none name z named is =
    let f = event_fields body name z named is in
    let b-is : name ≡ b = cc in
    none z (cc) (rw b-is at named) (cc)

pub event_says : (body a b c : List ℕ) (w : EventWords) → fields 2 body ≡ Some (a ∷ b ∷ c ∷ []) → EventValueParts a b c w → SaysEvent body w
event_says body a b c w three parts = record {
  z = parts.value_is.z;
  named = parts.named;
  is = (fields_take 2 body (a ∷ b ∷ c ∷ []) three).0 ∙ rw (parts.word_is, parts.name_is, parts.value_is.is) refl;
  held = parts.value_is.held;
}

-- ---- readings
pub reading_fields : (body clock : List ℕ) (m : ℕ) (z : ℤ) → IsClockName clock → body ≡ reading_body clock m z → fields 3 body ≡ Some (codes "reading" ∷ clock ∷ decimal_of m ∷ ns_text z ∷ [])
reading_fields body clock m z named is =
    rw is (fields_again 3 (codes "reading" ∷ clock ∷ decimal_of m ∷ ns_text z ∷ []) refl
    (lacks_test 32 (codes "reading") refl, (clock_name_lacks 32 clock (omega arith) named, (decimal_lacks 32 m (omega arith), tt))))

pub reading_not_four : (body : List ℕ) → fields 3 body ≡ None → NoReading body
reading_not_four body none clock m z named is = let f = reading_fields body clock m z named is in cc

pub reading_not_parts : (body a b c d : List ℕ) → fields 3 body ≡ Some (a ∷ b ∷ c ∷ d ∷ []) →
    ((m : ℕ) (z : ℤ) → a ≡ codes "reading" → IsClockName b → c ≡ decimal_of m → d ≡ ns_text z → ⊥) → NoReading body
reading_not_parts body a b c d four none clock m z named is =
    let f = reading_fields body clock m z named is in
    let b-is : clock ≡ b = cc in
    none m z (cc) (rw b-is at named) (cc) (cc)

pub reading_says : (body a b c d : List ℕ) (w : ReadingWords) → fields 3 body ≡ Some (a ∷ b ∷ c ∷ d ∷ []) → ReadingParts a b c d w → SaysReading body w
reading_says body a b c d w four parts = record {
  m = parts.stamp_is.m;
  z = parts.value_is.z;
  named = parts.named;
  is = (fields_take 3 body (a ∷ b ∷ c ∷ d ∷ []) four).0 ∙ rw (parts.word_is, parts.clock_is, parts.stamp_is.is, parts.value_is.is) refl;
  stamp_held = parts.stamp_is.held;
  held = parts.value_is.held;
}

-- ---- all lines
pub line_lacks : (line : ExecutionLine) → IsSpelled line → Lacks 10 (words (line_words line))
line_lacks (EventLine name z) named = words_lack (codes "event" ∷ name ∷ ns_text z ∷ [])
    (lacks_test 10 (codes "event") refl, (event_name_lacks 10 name (omega arith) named, (ns_lacks 10 z (omega arith), tt)))
line_lacks (ReadingLine clock m z) named = words_lack (codes "reading" ∷ clock ∷ decimal_of m ∷ ns_text z ∷ [])
    (lacks_test 10 (codes "reading") refl, (clock_name_lacks 10 clock (omega arith) named, (decimal_lacks 10 m (omega arith), (ns_lacks 10 z (omega arith), tt))))
line_lacks EndLine named = lacks_test 10 (codes "end") refl

some_list : (xs ys : List (List ℕ)) → Some xs ≡ Some ys → xs ≡ ys
some_list xs ys e = cc

word_at : ℕ → List (List ℕ) → List ℕ
word_at n ws = get_or ws n []

pub one_line : (a b : ExecutionLine) → IsSpelled a → IsSpelled b → words (line_words a) ≡ words (line_words b) → a ≡ b
unfolding word_at
one_line (EventLine a y) (EventLine b z) named named' is =
    let f = some_list _ _ (sym (event_fields (event_value_body a y) a y named refl) ∙ event_fields (event_value_body a y) b z named' is) in
    rw (ap (word_at 1) f, ns_text_injective y z (ap (word_at 2) f)) refl
one_line (ReadingLine a m y) (ReadingLine b n z) named named' is =
    let f = some_list _ _ (sym (reading_fields (reading_body a m y) a m y named refl) ∙ reading_fields (reading_body a m y) b n z named' is) in
    rw (ap (word_at 1) f, decimal_of_injective m n (ap (word_at 2) f), ns_text_injective y z (ap (word_at 3) f)) refl
one_line EndLine EndLine named named' is = refl
one_line (EventLine a y) (ReadingLine b n z) named named' is = absurd (let h = ap (λ xs. get_or xs 0 0) is in omega (arith, h))
one_line (EventLine a y) EndLine named named' is = absurd (let h = ap (λ xs. get_or xs 1 0) is in omega (arith, h))
one_line (ReadingLine a m y) (EventLine b z) named named' is = absurd (let h = ap (λ xs. get_or xs 0 0) is in omega (arith, h))
one_line (ReadingLine a m y) EndLine named named' is = absurd (let h = ap (λ xs. get_or xs 0 0) is in omega (arith, h))
one_line EndLine (EventLine b z) named named' is = absurd (let h = ap (λ xs. get_or xs 1 0) is in omega (arith, h))
one_line EndLine (ReadingLine b n z) named named' is = absurd (let h = ap (λ xs. get_or xs 0 0) is in omega (arith, h))
