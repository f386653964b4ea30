-- What a text's records are, by the bytes that were walked over.
use Rattle.std.proofs.Common.{◌≡◌, ◌≢◌, ◌<◌, ◌≤◌, ◌+◌, ℕ, suc, List, [], ◌∷◌, ◌++◌, length, length-append, take, drop, Some, None, true, false, refl, sym, ap, subst, ◌∙◌, arith, inl, inr, append_assoc, append-nil, get_or}
use Rattle.std.specs.Prelude.{◌==◌, ◌⊎◌, ⊤, All}
use Rattle.std.proofs.lemmas.Bool.{cases_Bool, false≢true}
use Rattle.std.proofs.lemmas.List.{take_all, take_more, take-append-drop}
use Rattle.std.proofs.lemmas.List.Elements.{All-nil, All-push}
use Rattle.csv.specs.Machine.{Read, ends_at_end, field_after, fields_after, in_field, is_end, next_record, step}
use Rattle.csv.specs.Reading.{Reached, default_config, records}
use Rattle.csv.specs.declared.parser.Action.{Action}
use Rattle.csv.specs.declared.parser.Action.TheVariants as act
use Rattle.csv.specs.declared.parser.State.{State}
use Rattle.csv.specs.declared.parser.State.TheVariants as st
use Rattle.csv.proofs.ReadFacts.{reached-more}
use Rattle.event_log.specs.Front.{EndsInFifth, IsFrontOfRecords, ended_after, state_of}
use Rattle.event_log.specs.declared.front.Place.{Place}
use Rattle.event_log.specs.declared.front.Place.TheVariants as at
use Rattle.event_log.proofs.Given.{text_all, text_front}

-- csv's machine has gone over x, from a record's start, and so many fields of the record at hand have ended
pub record Walked (x : List ℕ) (s : State) (n : ℕ) : Type 0 where
  pub given : List (List (List ℕ))
  pub start : State
  pub held : List ℕ
  pub fields : List (List ℕ)
  pub field : List ℕ
  pub reached : (zs : List ℕ) → Reached default_config st.StartRecord (x ++ zs) given start (held ++ zs)
  pub goes_on : (zs : List ℕ) → next_record default_config start [] [] (held ++ zs) ≡ next_record default_config s fields field zs
  pub ended : n ≡ length fields
  pub few : All (λ r. length r ≤ 5) given

pub walked_none : Walked [] st.StartRecord 0
unfolding Reached
walked_none =
    record {
      given = [];
      start = st.StartRecord;
      held = [];
      fields = [];
      field = [];
      reached = λ zs. (refl, refl);
      goes_on = λ zs. refl;
      ended = refl;
      few = All-nil (λ r. length r ≤ 5);
    }

-- a byte in a record
next_on : (s : State) (fields : List (List ℕ)) (field : List ℕ) (c : ℕ) (zs : List ℕ) → is_end (step default_config s c).1 ≡ false
    → next_record default_config s fields field (c ∷ zs) ≡ next_record default_config (step default_config s c).0 (fields_after (step default_config s c).1 fields field) (field_after (step default_config s c).1 c field) zs
unfolding next_record
next_on s fields field c zs on = rw on refl

-- a byte that ends it
next_ends : (s : State) (fields : List (List ℕ)) (field : List ℕ) (c : ℕ) (zs : List ℕ) → is_end (step default_config s c).1 ≡ true
    → next_record default_config s fields field (c ∷ zs) ≡ Some (fields_after (step default_config s c).1 fields field, (step default_config s c).0, zs)
unfolding next_record
next_ends s fields field c zs ends = rw ends refl

-- the end of the text that ends it
next_last : (s : State) (fields : List (List ℕ)) (field : List ℕ) → ends_at_end s ≡ true → next_record default_config s fields field [] ≡ Some (fields ++ field ∷ [], st.StartRecord, [])
unfolding next_record
next_last s fields field ends = rw ends refl

next_none : (s : State) (fields : List (List ℕ)) (field : List ℕ) → ends_at_end s ≡ false → next_record default_config s fields field [] ≡ None
unfolding next_record
next_none s fields field none = rw none refl

-- how many fields have ended
count_on : (a : Action) (fields : List (List ℕ)) (field : List ℕ) → is_end a ≡ false → length (fields_after a fields field) ≡ ended_after a (length fields)
count_on act.EndField fields field on = length-append fields (field ∷ [])
count_on act.Skip fields field on = refl
count_on act.Copy fields field on = refl
count_on act.EndRecord fields field on = absurd (false≢true (sym on))

count_ends : (a : Action) (fields : List (List ℕ)) (field : List ℕ) → is_end a ≡ true → (length (fields_after a fields field) ≡ length fields + 1) × (ended_after a (length fields) ≡ 0)
count_ends act.EndRecord fields field ends = (length-append fields (field ∷ []), refl)
count_ends act.EndField fields field ends = absurd (false≢true ends)
count_ends act.Skip fields field ends = absurd (false≢true ends)
count_ends act.Copy fields field ends = absurd (false≢true ends)

-- one byte more
walked_step : (x : List ℕ) (s : State) (n c : ℕ) → n < 4 → Walked x s n → Walked (x ++ c ∷ []) (step default_config s c).0 (ended_after (step default_config s c).1 n)
walked_step x s n c low w = by (cases_Bool (is_end (step default_config s c).1))
  where
    further : (zs : List ℕ) → Reached default_config st.StartRecord ((x ++ c ∷ []) ++ zs) w.given w.start (w.held ++ c ∷ zs)
    further zs = subst (λ (t : List ℕ). Reached default_config st.StartRecord t w.given w.start (w.held ++ c ∷ zs)) (sym (append_assoc x (c ∷ []) zs)) (w.reached (c ∷ zs))

    by : (is_end (step default_config s c).1 ≡ true) ⊎ (is_end (step default_config s c).1 ≡ false) → Walked (x ++ c ∷ []) (step default_config s c).0 (ended_after (step default_config s c).1 n)
    by (inl ends) =
        let counts = count_ends (step default_config s c).1 w.fields w.field ends in
        let few : length (fields_after (step default_config s c).1 w.fields w.field) ≤ 5 = omega (arith, counts.0, w.ended, low) in
        record {
          given = w.given ++ fields_after (step default_config s c).1 w.fields w.field ∷ [];
          start = (step default_config s c).0;
          held = [];
          fields = [];
          field = [];
          reached = λ zs. reached-more default_config st.StartRecord w.start ((x ++ c ∷ []) ++ zs) (w.held ++ c ∷ zs) w.given (fields_after (step default_config s c).1 w.fields w.field, (step default_config s c).0, zs) (further zs) (w.goes_on (c ∷ zs) ∙ next_ends s w.fields w.field c zs ends);
          goes_on = λ zs. refl;
          ended = ap (λ (k : ℕ). ended_after (step default_config s c).1 k) w.ended ∙ counts.1;
          few = All-push (λ r. length r ≤ 5) w.given _ w.few few;
        }
    by (inr on) =
        record {
          given = w.given;
          start = w.start;
          held = w.held ++ c ∷ [];
          fields = fields_after (step default_config s c).1 w.fields w.field;
          field = field_after (step default_config s c).1 c w.field;
          reached = λ zs. subst (λ (t : List ℕ). Reached default_config st.StartRecord ((x ++ c ∷ []) ++ zs) w.given w.start t) (sym (append_assoc w.held (c ∷ []) zs)) (further zs);
          goes_on = λ zs. ap (λ (t : List ℕ). next_record default_config w.start [] [] t) (append_assoc w.held (c ∷ []) zs) ∙ w.goes_on (c ∷ zs) ∙ next_on s w.fields w.field c zs on;
          ended = ap (λ (k : ℕ). ended_after (step default_config s c).1 k) w.ended ∙ sym (count_on (step default_config s c).1 w.fields w.field on);
          few = w.few;
        }

-- the next byte of a text
walked_more : (text : List ℕ) (i : ℕ) (p q : Place) (n m : ℕ) → i < length text → n < 4 → Walked (take i text) (state_of p) n
    → state_of q ≡ (step default_config (state_of p) (get_or text i 0)).0 → m ≡ ended_after (step default_config (state_of p) (get_or text i 0)).1 n
    → Walked (take (i + 1) text) (state_of q) m
walked_more text i p q n m within low w state count = rw (take_more text i 0 within, state, count) (walked_step (take i text) (state_of p) n (get_or text i 0) low w)

-- the states in a record
abbrev pub IsInside : State → Type 0
IsInside st.StartRecord = ⊥
IsInside st.AfterCr = ⊥
IsInside st.InComment = ⊥
IsInside st.InEscape = ⊥
IsInside st.StartField = ⊤
IsInside st.InField = ⊤
IsInside st.InQuoted = ⊤
IsInside st.AfterQuote = ⊤

inside_ends : (s : State) → IsInside s → ends_at_end s ≡ true
inside_ends st.StartRecord i = absurd i
inside_ends st.AfterCr i = absurd i
inside_ends st.InComment i = absurd i
inside_ends st.InEscape i = absurd i
inside_ends st.StartField i = refl
inside_ends st.InField i = refl
inside_ends st.InQuoted i = refl
inside_ends st.AfterQuote i = refl

-- a byte that does not end the record stays in it
field_stays : (c : ℕ) → is_end (in_field default_config c).1 ≡ false → IsInside (in_field default_config c).0
field_stays c on =
    elim (cases_Bool (c == 44)) [
      | inl comma ↦ rw comma tt
      | inr other ↦ elim (cases_Bool (c == 13)) [
        | inl cr ↦ cc (rw (other, cr) at on)
        | inr plain ↦ elim (cases_Bool (c == 10)) [
          | inl lf ↦ cc (rw (other, plain, lf) at on)
          | inr byte ↦ rw (other, plain, byte) tt
        ]
      ]
    ]

stays : (s : State) (c : ℕ) → IsInside s → is_end (step default_config s c).1 ≡ false → IsInside (step default_config s c).0
stays st.StartRecord c i on = absurd i
stays st.AfterCr c i on = absurd i
stays st.InComment c i on = absurd i
stays st.InEscape c i on = absurd i
stays st.StartField c i on = elim (cases_Bool (c == 34)) [ inl q ↦ rw q tt | inr q ↦ rw q (field_stays c (rw q at on)) ]
stays st.InField c i on = field_stays c on
stays st.InQuoted c i on = elim (cases_Bool (c == 34)) [ inl q ↦ rw q tt | inr q ↦ rw q tt ]
stays st.AfterQuote c i on = elim (cases_Bool (c == 34)) [ inl q ↦ rw q tt | inr q ↦ rw q (field_stays c (rw q at on)) ]

-- a comma that ends a field is in a record
field_comma : (c : ℕ) → (in_field default_config c).1 ≡ act.EndField → IsInside (in_field default_config c).0
field_comma c e =
    elim (cases_Bool (c == 44)) [
      | inl comma ↦ rw comma tt
      | inr other ↦ elim (cases_Bool (c == 13)) [
        | inl cr ↦ cc (rw (other, cr) at e)
        | inr plain ↦ elim (cases_Bool (c == 10)) [
          | inl lf ↦ cc (rw (other, plain, lf) at e)
          | inr byte ↦ rw (other, plain, byte) tt
        ]
      ]
    ]

start_comma : (c : ℕ) → (step default_config st.StartField c).1 ≡ act.EndField → IsInside (step default_config st.StartField c).0
start_comma c e = elim (cases_Bool (c == 34)) [ inl q ↦ rw q tt | inr q ↦ rw q (field_comma c (rw q at e)) ]

record_comma : (c : ℕ) → (step default_config st.StartRecord c).1 ≡ act.EndField → IsInside (step default_config st.StartRecord c).0
record_comma c e =
    elim (cases_Bool (c == 13)) [
      | inl cr ↦ cc (rw cr at e)
      | inr plain ↦ elim (cases_Bool (c == 10)) [
        | inl lf ↦ cc (rw (plain, lf) at e)
        | inr byte ↦ elim (cases_Bool (c == 34)) [
          | inl quote ↦ rw (plain, byte, quote) tt
          | inr bare ↦ elim (cases_Bool (c == 44)) [ inl comma ↦ rw (plain, byte, bare, comma) tt | inr other ↦ rw (plain, byte, bare, other) tt ]
        ]
      ]
    ]

return_comma : (c : ℕ) → (step default_config st.AfterCr c).1 ≡ act.EndField → IsInside (step default_config st.AfterCr c).0
return_comma c e =
    elim (cases_Bool (c == 10)) [
      | inl lf ↦ cc (rw lf at e)
      | inr byte ↦ elim (cases_Bool (c == 13)) [
        | inl cr ↦ cc (rw (byte, cr) at e)
        | inr plain ↦ elim (cases_Bool (c == 34)) [
          | inl quote ↦ rw (byte, plain, quote) tt
          | inr bare ↦ elim (cases_Bool (c == 44)) [ inl comma ↦ rw (byte, plain, bare, comma) tt | inr other ↦ rw (byte, plain, bare, other) tt ]
        ]
      ]
    ]

comma_inside : (s : State) (c : ℕ) → (step default_config s c).1 ≡ act.EndField → IsInside (step default_config s c).0
comma_inside st.StartRecord c e = record_comma c e
comma_inside st.AfterCr c e = return_comma c e
comma_inside st.InComment c e = elim (cases_Bool (c == 10)) [ inl q ↦ cc (rw q at e) | inr q ↦ cc (rw q at e) ]
comma_inside st.InEscape c e = cc e
comma_inside st.StartField c e = start_comma c e
comma_inside st.InField c e = field_comma c e
comma_inside st.InQuoted c e = elim (cases_Bool (c == 34)) [ inl q ↦ cc (rw q at e) | inr q ↦ cc (rw q at e) ]
comma_inside st.AfterQuote c e = elim (cases_Bool (c == 34)) [ inl q ↦ rw q tt | inr q ↦ rw q (field_comma c (rw q at e)) ]

-- only the end of a field makes them four
fourth_ends : (a : Action) (n : ℕ) → n < 4 → ended_after a n ≡ 4 → a ≡ act.EndField
fourth_ends act.EndField n low e = refl
fourth_ends act.EndRecord n low e = absurd (omega (arith, e))
fourth_ends act.Skip n low e = absurd (omega (arith, e, low))
fourth_ends act.Copy n low e = absurd (omega (arith, e, low))

fourth_inside : (p q : Place) (n c : ℕ) → n < 4 → state_of q ≡ (step default_config (state_of p) c).0 → 4 ≡ ended_after (step default_config (state_of p) c).1 n → IsInside (state_of q)
fourth_inside p q n c low state count = rw state (comma_inside (state_of p) c (fourth_ends _ n low (sym count)))

-- a record that is read on has one field more than have ended, or more than that
grows : (a : Action) (fields : List (List ℕ)) (field : List ℕ) → length fields ≤ length (fields_after a fields field)
grows act.EndField fields field = omega (arith, length-append fields (field ∷ []))
grows act.EndRecord fields field = omega (arith, length-append fields (field ∷ []))
grows act.Skip fields field = omega arith
grows act.Copy fields field = omega arith

has_more : (s : State) (fields : List (List ℕ)) (field xs : List ℕ) → IsInside s → (p : Read) × (next_record default_config s fields field xs ≡ Some p) × (length fields < length p.0)
has_more s fields field [] i = ((fields ++ field ∷ [], st.StartRecord, []), next_last s fields field (inside_ends s i), omega (arith, length-append fields (field ∷ [])))
has_more s fields field (c ∷ rest) i =
    elim (cases_Bool (is_end (step default_config s c).1)) [
      | inl ends ↦
          let count = (count_ends (step default_config s c).1 fields field ends).0 in
          ((fields_after (step default_config s c).1 fields field, (step default_config s c).0, rest), next_ends s fields field c rest ends, omega (arith, count))
      | inr on ↦
          let more = has_more (step default_config s c).0 (fields_after (step default_config s c).1 fields field) (field_after (step default_config s c).1 c field) rest (stays s c i on) in
          (more.0, next_on s fields field c rest on ∙ more.1, omega (arith, more.2, grows (step default_config s c).1 fields field))
    ]

-- the records of a text that ends in a record
front_ends : (x : List ℕ) (s : State) (n : ℕ) → ends_at_end s ≡ true → (w : Walked x s n) → records default_config x ≡ w.given ++ (w.fields ++ w.field ∷ []) ∷ []
front_ends x s n ends w =
    let all : Reached default_config st.StartRecord (x ++ []) (w.given ++ (w.fields ++ w.field ∷ []) ∷ []) st.StartRecord [] =
    reached-more default_config st.StartRecord w.start (x ++ []) (w.held ++ []) w.given (w.fields ++ w.field ∷ [], st.StartRecord, []) (w.reached []) (w.goes_on [] ∙ next_last s w.fields w.field ends) in
    text_all x [] st.StartRecord (w.given ++ (w.fields ++ w.field ∷ []) ∷ [])
    (subst (λ (t : List ℕ). Reached default_config st.StartRecord t (w.given ++ (w.fields ++ w.field ∷ []) ∷ []) st.StartRecord []) (append-nil x) all)
    (next_none st.StartRecord [] [] refl)

-- and of one that ends between records
front_between : (x : List ℕ) (s : State) (n : ℕ) → ends_at_end s ≡ false → (w : Walked x s n) → records default_config x ≡ w.given
front_between x s n none w =
    text_all x (w.held ++ []) w.start w.given (subst (λ (t : List ℕ). Reached default_config st.StartRecord t w.given w.start (w.held ++ [])) (append-nil x) (w.reached [])) (w.goes_on [] ∙ next_none s w.fields w.field none)

-- a text that was walked over has no record of more than five fields
all_few : (x : List ℕ) (s : State) (n : ℕ) → n ≤ 4 → Walked x s n → All (λ r. length r ≤ 5) (records default_config x)
all_few x s n low w =
    elim (cases_Bool (ends_at_end s)) [
      | inl ends ↦
          let last : length (w.fields ++ w.field ∷ []) ≤ 5 = omega (arith, length-append w.fields (w.field ∷ []), w.ended, low) in
          rw (front_ends x s n ends w) (All-push (λ r. length r ≤ 5) w.given _ w.few last)
      | inr none ↦ rw (front_between x s n none w) w.few
    ]

-- one of which four fields have ended is a front of every text that goes on
fifth_front : (x zs : List ℕ) (s : State) → IsInside s → Walked x s 4 → EndsInFifth (records default_config (x ++ zs)) (records default_config x)
fifth_front x zs s i w =
    let more = has_more s w.fields w.field zs i in
    let whole : Reached default_config st.StartRecord (x ++ zs) (w.given ++ more.0.0 ∷ []) more.0.1 more.0.2 =
    reached-more default_config st.StartRecord w.start (x ++ zs) (w.held ++ zs) w.given more.0 (w.reached zs) (w.goes_on zs ∙ more.1) in
    let front = text_front (x ++ zs) more.0.2 more.0.1 _ whole in
    record {
      before = w.given;
      last = w.fields ++ w.field ∷ [];
      whole = more.0.0;
      after = _;
      front_is = front_ends x s 4 (inside_ends s i) w;
      all_are = front.1 ∙ append_assoc w.given (more.0.0 ∷ []) _;
      last_many = omega (arith, length-append w.fields (w.field ∷ []), w.ended);
      whole_many = omega (arith, more.2, w.ended);
    }

-- a byte behind which fewer fields have ended
fewer : (a : Action) (n m : ℕ) → n < 4 → m ≡ ended_after a n → m ≢ 4 → m < 4
fewer act.EndField n m low e none = omega (arith, low, e, none)
fewer act.EndRecord n m low e none = omega (arith, e)
fewer act.Skip n m low e none = omega (arith, low, e)
fewer act.Copy n m low e none = omega (arith, low, e)

-- what one byte more does: it goes on, or the fourth field ends
module _ (text : List ℕ) (i : ℕ) (p q : Place) (n m : ℕ) (within : i < length text) (low : n < 4) (w : Walked (take i text) (state_of p) n)
    (state : state_of q ≡ (step default_config (state_of p) (get_or text i 0)).0) (count : m ≡ ended_after (step default_config (state_of p) (get_or text i 0)).1 n) where
  pub goes_further : m ≢ 4 → Walked (take (i + 1) text) (state_of q) m × (m < 4)
  goes_further none = (walked_more text i p q n m within low w state count, fewer (step default_config (state_of p) (get_or text i 0)).1 n m low count none)

  pub fifth_begins : m ≡ 4 → IsFrontOfRecords (records default_config text) (records default_config (take (i + 1) text))
  fifth_begins four =
      let more : Walked (take (i + 1) text) (state_of q) 4 = subst (λ (k : ℕ). Walked (take (i + 1) text) (state_of q) k) four (walked_more text i p q n m within low w state count) in
      let inside : IsInside (state_of q) = fourth_inside p q n (get_or text i 0) low state (sym four ∙ count) in
      let found = fifth_front (take (i + 1) text) (drop (i + 1) text) (state_of q) inside more in
      inr (subst (λ (t : List ℕ). EndsInFifth (records default_config t) (records default_config (take (i + 1) text))) (take-append-drop (i + 1) text) found)

  pub fifth_few : m ≡ 4 → All (λ r. length r ≤ 5) (records default_config (take (i + 1) text))
  fifth_few four = all_few (take (i + 1) text) (state_of q) m (omega (arith, four)) (walked_more text i p q n m within low w state count)

-- a text that was walked over to its end
pub whole_few : (text : List ℕ) (i : ℕ) (s : State) (n : ℕ) → length text ≤ i → n < 4 → Walked (take i text) s n → All (λ r. length r ≤ 5) (records default_config (take (length text) text))
whole_few text i s n past low w =
    subst (λ (t : List ℕ). All (λ r. length r ≤ 5) (records default_config t)) (sym (take_all (length text) text (omega arith)))
    (all_few text s n (omega (arith, low)) (subst (λ (t : List ℕ). Walked t s n) (take_all i text past) w))
