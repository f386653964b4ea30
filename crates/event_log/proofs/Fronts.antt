-- What the rows of a front say of a piece.
use Rattle.std.proofs.Common.{◌≡◌, ◌≢◌, ◌<◌, ◌≤◌, ◌+◌, ℕ, List, [], ◌∷◌, ◌++◌, length, suc, Result, Ok, Err, refl, sym, ap, subst, ◌∙◌, arith, inl, inr, append_assoc}
use Rattle.std.specs.Prelude.{◌⊎◌, IfOk, IfErr}
use Rattle.event_log.specs.Front.{EndsInFifth, IsFrontOfRecords}
use Rattle.event_log.specs.Log.{records_of, AreRows, AreFirstRows, IsFirstFaulty, IsLogFault}
use Rattle.event_log.specs.Row.{FourFields, record_of, IsRowRecord, LacksFields, LacksStamp, LacksKind, LacksTexts}
use Rattle.event_log.specs.declared.errors.LogError.{LogError}
use Rattle.event_log.specs.declared.errors.LogError.TheVariants.{Fields, Stamp, Kind, Text, Memory}
use Rattle.event_log.specs.declared.read.FirstRows.{FirstRows}
use Rattle.event_log.specs.declared.row.Row.{Row}

-- a record of four fields has not more
four_only : (fields : List (List ℕ)) (f : FourFields) → fields ≡ record_of f → 4 < length fields → ⊥
four_only fields f is many = let e : length fields ≡ 4 = ap length is in absurd (omega (arith, e, many))

-- nothing but rows holds no record of more than four fields
no_many : (before after : List (List (List ℕ))) (fields : List (List ℕ)) (rows : List Row) → 4 < length fields → AreRows (before ++ fields ∷ after) rows → ⊥
no_many [] after fields [] many are = absurd are
no_many [] after fields (row ∷ rows) many are = four_only fields are.0.four are.0.are many
no_many (f ∷ before) after fields [] many are = absurd are
no_many (f ∷ before) after fields (row ∷ rows) many are = no_many before after fields rows many are.1

-- a record behind rows is the last of the front, or one before it
module _ (last whole : List (List ℕ)) (after : List (List (List ℕ))) (many : 4 < length last) where
  placed : (before earlier later : List (List (List ℕ))) (fields : List (List ℕ)) (rows : List Row) → before ++ last ∷ [] ≡ earlier ++ fields ∷ later → AreRows earlier rows
      → ((fields ≡ last) × (before ≡ earlier)) ⊎ ((mid : List (List (List ℕ))) × (before ≡ earlier ++ fields ∷ mid))
  placed [] [] later fields rows e are = let same : fields ≡ last = cc in inl (same, refl)
  placed [] (f ∷ []) later fields rows e are = cc e
  placed [] (f ∷ g ∷ earlier) later fields rows e are = cc e
  placed (b ∷ before) [] later fields rows e are = let same : b ≡ fields = cc in inr (before, ap (λ (x : List (List ℕ)). x ∷ before) same)
  placed (b ∷ before) (f ∷ earlier) later fields [] e are = absurd are
  placed (b ∷ before) (f ∷ earlier) later fields (row ∷ rows) e are =
      let heads : b ≡ f = cc in
      let tails : before ++ last ∷ [] ≡ earlier ++ fields ∷ later = cc in
      elim (placed before earlier later fields rows tails are.1) [
        | inl at ↦ inl (at.0, rw (heads, at.1) refl)
        | inr at ↦ inr (at.0, rw (heads, at.1) refl)
      ]

-- the first record of a front that lacks something is that of the piece
first_of : (Lacks : List (List ℕ) → Type 0) → ((a b : List (List ℕ)) → 4 < length a → 4 < length b → Lacks a → Lacks b) → (piece front : List ℕ) (n : ℕ)
    → EndsInFifth (records_of piece) (records_of front) → IsFirstFaulty Lacks front n → IsFirstFaulty Lacks piece n
first_of Lacks goes piece front n ends first =
    elim (placed ends.last ends.whole ends.after ends.last_many ends.before first.before first.after first.fields first.rows (sym ends.front_is ∙ first.are) first.earlier) [
      | inl at ↦
          record {
            before = first.before;
            rows = first.rows;
            fields = ends.whole;
            after = ends.after;
            are = ends.all_are ∙ ap (λ (b : List (List (List ℕ))). b ++ ends.whole ∷ ends.after) at.1;
            earlier = first.earlier;
            number = first.number;
            lacks = goes ends.last ends.whole ends.last_many ends.whole_many (subst Lacks at.0 first.lacks);
          }
      | inr at ↦
          record {
            before = first.before;
            rows = first.rows;
            fields = first.fields;
            after = at.0 ++ ends.whole ∷ ends.after;
            are = ends.all_are ∙ ap (λ (b : List (List (List ℕ))). b ++ ends.whole ∷ ends.after) at.1 ∙ append_assoc first.before (first.fields ∷ at.0) (ends.whole ∷ ends.after);
            earlier = first.earlier;
            number = first.number;
            lacks = first.lacks;
          }
    ]

fields_go : (a b : List (List ℕ)) → 4 < length a → 4 < length b → LacksFields a → LacksFields b
fields_go a b many many' lacks = λ e. absurd (omega (arith, e, many'))

stamp_goes : (a b : List (List ℕ)) → 4 < length a → 4 < length b → LacksStamp a → LacksStamp b
stamp_goes a b many many' lacks = absurd (four_only a lacks.0 lacks.1 many)

kind_goes : (a b : List (List ℕ)) → 4 < length a → 4 < length b → LacksKind a → LacksKind b
kind_goes a b many many' lacks = absurd (four_only a lacks.0 lacks.1 many)

texts_go : (a b : List (List ℕ)) → 4 < length a → 4 < length b → LacksTexts a → LacksTexts b
texts_go a b many many' lacks = absurd (four_only a lacks.0 lacks.2 many)

ends_fault : (piece front : List ℕ) (e : LogError) → EndsInFifth (records_of piece) (records_of front) → IsLogFault front e → IsLogFault piece e
ends_fault piece front (Fields n) ends fault = first_of LacksFields fields_go piece front n ends fault
ends_fault piece front (Stamp n) ends fault = first_of LacksStamp stamp_goes piece front n ends fault
ends_fault piece front (Kind n) ends fault = first_of LacksKind kind_goes piece front n ends fault
ends_fault piece front (Text n) ends fault = first_of LacksTexts texts_go piece front n ends fault
ends_fault piece front Memory ends fault = tt

first_same : (Lacks : List (List ℕ) → Type 0) (piece front : List ℕ) (n : ℕ) → records_of front ≡ records_of piece → IsFirstFaulty Lacks front n → IsFirstFaulty Lacks piece n
first_same Lacks piece front n same first =
    record { before = first.before; rows = first.rows; fields = first.fields; after = first.after; are = sym same ∙ first.are; earlier = first.earlier; number = first.number; lacks = first.lacks }

same_fault : (piece front : List ℕ) (e : LogError) → records_of front ≡ records_of piece → IsLogFault front e → IsLogFault piece e
same_fault piece front (Fields n) same fault = first_same LacksFields piece front n same fault
same_fault piece front (Stamp n) same fault = first_same LacksStamp piece front n same fault
same_fault piece front (Kind n) same fault = first_same LacksKind piece front n same fault
same_fault piece front (Text n) same fault = first_same LacksTexts piece front n same fault
same_fault piece front Memory same fault = tt

front_fault : (piece front : List ℕ) (e : LogError) → IsFrontOfRecords (records_of piece) (records_of front) → IsLogFault front e → IsLogFault piece e
front_fault piece front e (inl same) fault = same_fault piece front e same fault
front_fault piece front e (inr ends) fault = ends_fault piece front e ends fault

front_rows : (piece front : List ℕ) (most : ℕ) (rows : FirstRows) → IsFrontOfRecords (records_of piece) (records_of front) → AreFirstRows front most rows → AreFirstRows piece most rows
front_rows piece front most rows (inl same) first = record { all = first.all; are = subst (λ (given : List (List (List ℕ))). AreRows given first.all) same first.are; kept = first.kept; count = first.count }
front_rows piece front most rows (inr ends) first =
    absurd (no_many ends.before [] ends.last first.all ends.last_many (subst (λ (given : List (List (List ℕ))). AreRows given first.all) ends.front_is first.are))

-- what reading a front answers, the piece is answered
pub answers_rows : (piece front : List ℕ) (most : ℕ) (r : Result FirstRows LogError) → IsFrontOfRecords (records_of piece) (records_of front) → IfOk r (λ read. AreFirstRows front most read) → IfOk r (λ read. AreFirstRows piece most read)
answers_rows piece front most (Ok rows) is first = front_rows piece front most rows is first
answers_rows piece front most (Err e) is first = tt

pub answers_fault : (piece front : List ℕ) (r : Result FirstRows LogError) → IsFrontOfRecords (records_of piece) (records_of front) → IfErr r (λ e. IsLogFault front e) → IfErr r (λ e. IsLogFault piece e)
answers_fault piece front (Ok rows) is fault = tt
answers_fault piece front (Err e) is fault = front_fault piece front e is fault
