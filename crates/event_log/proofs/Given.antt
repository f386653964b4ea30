-- What the records that a reader has given are of the piece.
use Rattle.std.proofs.Common.{◌≡◌, ◌<◌, ◌≤◌, ◌+◌, ◌-◌, ℕ, suc, List, [], ◌∷◌, ◌++◌, length, Some, None, true, false, refl, sym, ap, ◌∙◌, arith, inl, inr}
use Rattle.std.specs.Prelude.{◌==◌}
use Rattle.std.proofs.lemmas.Bool.{cases_Bool, false≢true}
use Rattle.csv.specs.Machine.{Read, ends_at_end, fields_after, in_field, is_end, next_record, start_record, step}
use Rattle.csv.specs.Reading.{Reached, default_config, is_bom, records, records_from, strip_bom}
use Rattle.csv.specs.declared.parser.State.{State}
use Rattle.csv.specs.declared.parser.State.TheVariants as st
use Rattle.csv.specs.Reading.{ReadRecord, is_flexible, reader_state, took_first}
use Rattle.csv.specs.declared.reader.Reader.{Reader}
use Rattle.csv.proofs.ReadFacts.{rows-end, rows-more}
use Rattle.std.proofs.Common.{Bor}
use Rattle.event_log.specs.Given.{HasGiven}
use Rattle.event_log.specs.Log.{records_of}

-- without a byte order mark a text is no longer
strip_shorter : (xs : List ℕ) → length (strip_bom xs) ≤ length xs
unfolding strip_bom
strip_shorter [] = omega arith
strip_shorter (a ∷ []) = omega arith
strip_shorter (a ∷ b ∷ []) = omega arith
strip_shorter (a ∷ b ∷ c ∷ rest) = elim (cases_Bool (is_bom a b c)) [ inl e ↦ rw e (omega arith) | inr e ↦ rw e (omega arith) ]

-- a byte that ends a record leaves the machine between records
field_ends : (c : ℕ) → is_end (in_field default_config c).1 ≡ true → ends_at_end (in_field default_config c).0 ≡ false
field_ends c e =
    elim (cases_Bool (c == 44)) [
      | inl comma ↦ cc (rw comma at e)
      | inr other ↦ elim (cases_Bool (c == 13)) [
        | inl cr ↦ rw (other, cr) refl
        | inr plain ↦ elim (cases_Bool (c == 10)) [
          | inl lf ↦ rw (other, plain, lf) refl
          | inr byte ↦ cc (rw (other, plain, byte) at e)
        ]
      ]
    ]

field_starts : (c : ℕ) → is_end (step default_config st.StartField c).1 ≡ true → ends_at_end (step default_config st.StartField c).0 ≡ false
field_starts c e = elim (cases_Bool (c == 34)) [ inl q ↦ cc (rw q at e) | inr q ↦ rw q (field_ends c (rw q at e)) ]

-- no byte ends a record that has not begun
record_begins : (c : ℕ) → is_end (start_record default_config c).1 ≡ false
record_begins c =
    elim (cases_Bool (c == 13)) [
      | inl cr ↦ rw cr refl
      | inr plain ↦ elim (cases_Bool (c == 10)) [
        | inl lf ↦ rw (plain, lf) refl
        | inr byte ↦ elim (cases_Bool (c == 34)) [
          | inl quote ↦ rw (plain, byte, quote) refl
          | inr bare ↦ elim (cases_Bool (c == 44)) [ inl comma ↦ rw (plain, byte, bare, comma) refl | inr other ↦ rw (plain, byte, bare, other) refl ]
        ]
      ]
    ]

step_ends : (s : State) (c : ℕ) → is_end (step default_config s c).1 ≡ true → ends_at_end (step default_config s c).0 ≡ false
step_ends st.StartRecord c e = absurd (false≢true (sym (record_begins c) ∙ e))
step_ends st.StartField c e = field_starts c e
step_ends st.InField c e = field_ends c e
step_ends st.InQuoted c e = elim (cases_Bool (c == 34)) [ inl q ↦ cc (rw q at e) | inr q ↦ cc (rw q at e) ]
step_ends st.InEscape c e = cc e
step_ends st.AfterQuote c e = elim (cases_Bool (c == 34)) [ inl q ↦ cc (rw q at e) | inr q ↦ rw q (field_ends c (rw q at e)) ]
step_ends st.InComment c e = elim (cases_Bool (c == 10)) [ inl q ↦ cc (rw q at e) | inr q ↦ cc (rw q at e) ]
step_ends st.AfterCr c e = elim (cases_Bool (c == 10)) [ inl q ↦ cc (rw q at e) | inr q ↦ absurd (false≢true (sym (rw q at (record_begins c)) ∙ rw q at e)) ]

some_is : (a b : Read) → Some a ≡ Some b → a ≡ b
some_is a b e = cc

-- behind a record the machine stands between records, and no more is left than before
next_leaves : (s : State) (fields : List (List ℕ)) (field xs : List ℕ) (p : Read) → next_record default_config s fields field xs ≡ Some p
    → (ends_at_end p.1 ≡ false) × (length p.2 ≤ length xs)
unfolding next_record
next_leaves s fields field [] p e =
    elim (cases_Bool (ends_at_end s)) [
      | inl ends ↦
          let is : (fields ++ (field ∷ []), st.StartRecord, []) ≡ p = some_is _ p (rw ends at e) in
          rw (← is) (refl, omega arith)
      | inr none ↦ cc (rw none at e)
    ]
next_leaves s fields field (c ∷ rest) p e =
    elim (cases_Bool (is_end (step default_config s c).1)) [
      | inl ends ↦
          let is : (fields_after (step default_config s c).1 fields field, (step default_config s c).0, rest) ≡ p = some_is _ p (rw ends at e) in
          rw (← is) (step_ends s c ends, omega arith)
      | inr on ↦
          let more = next_leaves (step default_config s c).0 _ _ rest p (rw on at e) in
          (more.0, omega (arith, more.1))
    ]

-- and between records it takes a byte at least
next_shorter : (s : State) (xs : List ℕ) (p : Read) → ends_at_end s ≡ false → next_record default_config s [] [] xs ≡ Some p → length p.2 < length xs
unfolding next_record
next_shorter s [] p between e = cc (rw between at e)
next_shorter s (c ∷ rest) p between e =
    elim (cases_Bool (is_end (step default_config s c).1)) [
      | inl ends ↦
          let is : (fields_after (step default_config s c).1 [] [], (step default_config s c).0, rest) ≡ p = some_is _ p (rw ends at e) in
          rw (← is) (omega arith)
      | inr on ↦ omega (arith, (next_leaves (step default_config s c).0 _ _ rest p (rw on at e)).1)
    ]

-- each record takes a byte at least
reached_counts : (s s2 : State) (xs ys : List ℕ) (given : List (List (List ℕ))) → ends_at_end s ≡ false → Reached default_config s xs given s2 ys → length given + length ys ≤ length xs
unfolding Reached
reached_counts s s2 xs ys [] between h = omega (arith, ap length h.1)
reached_counts s s2 xs ys (r ∷ rs) between h =
    let after = next_leaves s [] [] xs h.0 h.1 in
    let less = next_shorter s xs h.0 between h.1 in
    let more = reached_counts h.0.1 s2 h.0.2 ys rs after.0 h.3 in
    omega (arith, less, more)

zero_plus : (n : ℕ) → 0 + n ≡ n
zero_plus n = omega arith

suc_plus : (a n : ℕ) → suc a + n ≡ suc (a + n)
suc_plus a n = omega arith

-- those reached are the first records
reached_records : (n : ℕ) (s s2 : State) (xs ys : List ℕ) (given : List (List (List ℕ))) → Reached default_config s xs given s2 ys
    → records_from default_config (length given + n) s xs ≡ given ++ records_from default_config n s2 ys
unfolding Reached records_from
reached_records n s s2 xs ys [] h = ap (λ (k : ℕ). records_from default_config k s xs) (zero_plus n) ∙ rw (h.0, h.1) refl
reached_records n s s2 xs ys (r ∷ rs) h = first ∙ ap (λ (more : List (List (List ℕ))). r ∷ more) (reached_records n h.0.1 s2 h.0.2 ys rs h.3)
  where
    first : records_from default_config (length (r ∷ rs) + n) s xs ≡ r ∷ records_from default_config (length rs + n) h.0.1 h.0.2
    first = rw (suc_plus (length rs) n, h.1, h.2) refl

-- a piece has no more records than bytes
pub given_few : (piece ys : List ℕ) (s : State) (given : List (List (List ℕ))) → Reached default_config st.StartRecord (strip_bom piece) given s ys → length given ≤ length piece
given_few piece ys s given h = omega (arith, reached_counts st.StartRecord s (strip_bom piece) ys given refl h, strip_shorter piece)

-- a text's records are those reached and then others
pub text_front : (xs ys : List ℕ) (s : State) (given : List (List (List ℕ))) → Reached default_config st.StartRecord xs given s ys
    → (n : ℕ) × (records default_config xs ≡ given ++ records_from default_config (suc n) s ys)
text_front xs ys s given h =
    let few : length given + length ys ≤ length xs = reached_counts st.StartRecord s xs ys given refl h in
    let n : ℕ = length xs - length given in
    let count : length xs + 1 ≡ length given + suc n = omega (arith, few) in
    (n, ap (λ (k : ℕ). records_from default_config k st.StartRecord xs) count ∙ reached_records (suc n) st.StartRecord s xs ys given h)

-- at its end they are all
pub text_all : (xs ys : List ℕ) (s : State) (given : List (List (List ℕ))) → Reached default_config st.StartRecord xs given s ys → next_record default_config s [] [] ys ≡ None
    → records default_config xs ≡ given
unfolding records_from
text_all xs ys s given h none =
    let front = text_front xs ys s given h in
    front.1 ∙ ap (λ (more : List (List (List ℕ))). given ++ more) (nothing front.0) ∙ append_nil_of given
  where
    nothing : (n : ℕ) → records_from default_config (suc n) s ys ≡ []
    nothing n = rw none refl

    append_nil_of : (rs : List (List (List ℕ))) → rs ++ [] ≡ rs
    append_nil_of [] = refl
    append_nil_of (r ∷ rs) = ap (λ (more : List (List (List ℕ))). r ∷ more) (append_nil_of rs)

-- the same of a piece
pub given_front : (piece ys : List ℕ) (s : State) (given : List (List (List ℕ))) → Reached default_config st.StartRecord (strip_bom piece) given s ys
    → (n : ℕ) × (records_of piece ≡ given ++ records_from default_config (suc n) s ys)
given_front piece ys s given h = text_front (strip_bom piece) ys s given h

pub given_all : (piece ys : List ℕ) (s : State) (given : List (List (List ℕ))) → Reached default_config st.StartRecord (strip_bom piece) given s ys → next_record default_config s [] [] ys ≡ None
    → records_of piece ≡ given
given_all piece ys s given h none = text_all (strip_bom piece) ys s given h none

-- a read that finds a record gives it
pub read_more : (piece : List ℕ) (given : List (List (List ℕ))) (a b : Reader (Bor (List ℕ))) (fields : List (List ℕ)) → HasGiven piece given a → ReadRecord (λ (s : Bor (List ℕ)). Some s.now) a b true fields
    → took_first b ≡ true → is_flexible b ≡ is_flexible a → HasGiven piece (given ++ fields ∷ []) b
read_more piece given a b fields has read first flexible =
    let more = rows-more (λ (s : Bor (List ℕ)). Some s.now) a b fields default_config st.StartRecord (strip_bom piece) has.rest given has.config has.left has.reached read in
    record {
      rest = more.0;
      reached = more.2;
      left = more.1;
      config = read.2 ∙ has.config;
      plain = read.3 ∙ has.plain;
      ready = inl first;
      flexible = flexible ∙ has.flexible;
    }

-- a read that finds none is at the end
pub read_end : (piece : List ℕ) (given : List (List (List ℕ))) (a b : Reader (Bor (List ℕ))) (fields : List (List ℕ)) → HasGiven piece given a → ReadRecord (λ (s : Bor (List ℕ)). Some s.now) a b false fields
    → records_of piece ≡ given
read_end piece given a b fields has read =
    given_all piece has.rest (reader_state a) given has.reached (rows-end (λ (s : Bor (List ℕ)). Some s.now) a b fields default_config has.rest has.config has.left read)
