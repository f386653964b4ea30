-- A piece has one answer.
use Rattle.std.proofs.Common.{◌≡◌, ◌≢◌, ℕ, ◌+◌, List, [], ◌∷◌, ◌++◌, length, suc, refl, sym, ap, subst, ◌∙◌}
use Rattle.event_log.specs.Log.{records_of, AreRows, IsFirstFaulty, IsLogFault}
use Rattle.event_log.specs.Row.{FourFields, record_of, kind_word, row_by_kind, IsStampText, IsKind, AreTexts, IsRowRecord, LacksFields, LacksStamp, LacksKind, LacksTexts}
use Rattle.event_log.specs.declared.errors.LogError.{LogError}
use Rattle.event_log.specs.declared.errors.LogError.TheVariants.{Fields, Stamp, Kind, Text, Memory}
use Rattle.event_log.specs.declared.row.Kind.{Kind as KindOf}
use Rattle.event_log.specs.declared.row.Kind.TheVariants as kinds
use Rattle.event_log.specs.declared.row.Row.{Row}

same_four : (a b c d a' b' c' d' : List ℕ) → a ≡ a' → b ≡ b' → c ≡ c' → d ≡ d'
    → (let f : FourFields = record { stamp = a; kind = b; message = c; text = d } in f) ≡ (let g : FourFields = record { stamp = a'; kind = b'; message = c'; text = d' } in g)
same_four a b c d a' b' c' d' p q r s = rw (p, q, r, s) refl

-- a record has its four fields once
four_one : (fields : List (List ℕ)) (f g : FourFields) → fields ≡ record_of f → fields ≡ record_of g → f ≡ g
four_one fields f g is is' =
    let e : record_of f ≡ record_of g = sym is ∙ is' in
    let p : f.stamp ≡ g.stamp = cc in
    let q : f.kind ≡ g.kind = cc in
    let r : f.message ≡ g.message = cc in
    let s : f.text ≡ g.text = cc in
    same_four _ _ _ _ _ _ _ _ p q r s

-- a word is that of one kind
word_one : (j k : KindOf) → kind_word j ≡ kind_word k → j ≡ k
word_one kinds.Send kinds.Send e = refl
word_one kinds.Send kinds.Receive e = cc
word_one kinds.Send kinds.Local e = cc
word_one kinds.Receive kinds.Send e = cc
word_one kinds.Receive kinds.Receive e = refl
word_one kinds.Receive kinds.Local e = cc
word_one kinds.Local kinds.Send e = cc
word_one kinds.Local kinds.Receive e = cc
word_one kinds.Local kinds.Local e = refl

-- a record is that of one row
row_one : (fields : List (List ℕ)) (a b : Row) → IsRowRecord fields a → IsRowRecord fields b → a ≡ b
row_one fields a b x y =
    let four : x.four ≡ y.four = four_one fields x.four y.four x.are y.are in
    let kind : a.kind ≡ b.kind = word_one a.kind b.kind (sym x.kind.named ∙ ap (λ (f : FourFields). f.kind) four ∙ y.kind.named) in
    x.is ∙ ap (λ (f : FourFields). row_by_kind f a.kind) four ∙ ap (λ (k : KindOf). row_by_kind y.four k) kind ∙ sym y.is

pub rows_one : (given : List (List (List ℕ))) (a b : List Row) → AreRows given a → AreRows given b → a ≡ b
rows_one [] [] [] x y = refl
rows_one [] [] (r ∷ b) x y = absurd y
rows_one [] (r ∷ a) b x y = absurd x
rows_one (f ∷ given) [] b x y = absurd x
rows_one (f ∷ given) (r ∷ a) [] x y = absurd y
rows_one (f ∷ given) (r ∷ a) (s ∷ b) x y = rw (row_one f r s x.0 y.0, rows_one given a b x.1 y.1) refl

-- what lacks something is no row
abbrev NoRow : (List (List ℕ) → Type 0) → Type 0
NoRow Lacks = (fields : List (List ℕ)) (row : Row) → Lacks fields → IsRowRecord fields row → ⊥

fields_no_row : NoRow LacksFields
fields_no_row fields row lacks is = lacks (ap length is.are)

stamp_no_row : NoRow LacksStamp
stamp_no_row fields row (f, are, none) is = none (subst (λ (g : FourFields). IsStampText g.stamp) (four_one fields is.four f is.are are) is.stamp)

kind_no_row : NoRow LacksKind
kind_no_row fields row (f, are, stamp, none) is = none row.kind (subst (λ (g : FourFields). IsKind g.kind g.message row.kind) (four_one fields is.four f is.are are) is.kind)

texts_no_row : NoRow LacksTexts
texts_no_row fields row (f, k, are, stamp, kind, none) is = none (subst (λ (g : FourFields). AreTexts g.message g.text) (four_one fields is.four f is.are are) is.texts)

-- no record lacks two things
abbrev Apart : (List (List ℕ) → Type 0) → (List (List ℕ) → Type 0) → Type 0
Apart Lacks Other = (fields : List (List ℕ)) → Lacks fields → Other fields → ⊥

fields_stamp : Apart LacksFields LacksStamp
fields_stamp fields none other = none (ap length other.1)

fields_kind : Apart LacksFields LacksKind
fields_kind fields none other = none (ap length other.1)

fields_texts : Apart LacksFields LacksTexts
fields_texts fields none other = none (ap length other.2)

stamp_kind : Apart LacksStamp LacksKind
stamp_kind fields (f, are, none) (g, are', stamp, no_kind) = none (subst (λ (h : FourFields). IsStampText h.stamp) (four_one fields g f are' are) stamp)

stamp_texts : Apart LacksStamp LacksTexts
stamp_texts fields (f, are, none) (g, k, are', stamp, kind, no_texts) = none (subst (λ (h : FourFields). IsStampText h.stamp) (four_one fields g f are' are) stamp)

kind_texts : Apart LacksKind LacksTexts
kind_texts fields (f, are, stamp, none) (g, k, are', stamp', kind, no_texts) =
    none k (subst (λ (h : FourFields). IsKind h.kind h.message k) (four_one fields g f are' are) kind)

-- a record among those of rows is that of a row
row_among : (before after : List (List (List ℕ))) (fields : List (List ℕ)) (rows : List Row) → AreRows (before ++ fields ∷ after) rows → (row : Row) × IsRowRecord fields row
row_among [] after fields [] are = absurd are
row_among [] after fields (row ∷ rows) are = (row, are.0)
row_among (f ∷ before) after fields [] are = absurd are
row_among (f ∷ before) after fields (row ∷ rows) are = row_among before after fields rows are.1

module _ (Lacks : List (List ℕ) → Type 0) (Other : List (List ℕ) → Type 0) (no_row : NoRow Lacks) (no_other : NoRow Other) where
  -- two first records that lack something are one
  meet : (before before' after after' : List (List (List ℕ))) (fields fields' : List (List ℕ)) (rows rows' : List Row) → before ++ fields ∷ after ≡ before' ++ fields' ∷ after'
      → AreRows before rows → AreRows before' rows' → Lacks fields → Other fields' → (length before ≡ length before') × (fields ≡ fields')
  meet [] [] after after' fields fields' rows rows' e x y lacks other = let same : fields ≡ fields' = cc in (refl, same)
  meet [] (f ∷ before') after after' fields fields' rows [] e x y lacks other = absurd y
  meet [] (f ∷ before') after after' fields fields' rows (r ∷ rows') e x y lacks other =
      let same : fields ≡ f = cc in
      absurd (no_row f r (subst Lacks same lacks) y.0)
  meet (f ∷ before) [] after after' fields fields' [] rows' e x y lacks other = absurd x
  meet (f ∷ before) [] after after' fields fields' (r ∷ rows) rows' e x y lacks other =
      let same : fields' ≡ f = cc in
      absurd (no_other f r (subst Other same other) x.0)
  meet (f ∷ before) (g ∷ before') after after' fields fields' [] rows' e x y lacks other = absurd x
  meet (f ∷ before) (g ∷ before') after after' fields fields' (r ∷ rows) [] e x y lacks other = absurd y
  meet (f ∷ before) (g ∷ before') after after' fields fields' (r ∷ rows) (s ∷ rows') e x y lacks other =
      let tails : before ++ fields ∷ after ≡ before' ++ fields' ∷ after' = cc in
      let more = meet before before' after after' fields fields' rows rows' tails x.1 y.1 lacks other in
      (ap suc more.0, more.1)

  pub firsts_meet : (piece : List ℕ) (n m : ℕ) → IsFirstFaulty Lacks piece n → IsFirstFaulty Other piece m → (n ≡ m) × ((fields : List (List ℕ)) × Lacks fields × Other fields)
  firsts_meet piece n m a b =
      let met = meet a.before b.before a.after b.after a.fields b.fields a.rows b.rows (sym a.are ∙ b.are) a.earlier b.earlier a.lacks b.lacks in
      (a.number ∙ ap (λ (k : ℕ). k + 1) met.0 ∙ sym b.number, (b.fields, subst Lacks met.1 a.lacks, b.lacks))

  pub never_both : Apart Lacks Other → (piece : List ℕ) (n m : ℕ) → IsFirstFaulty Lacks piece n → IsFirstFaulty Other piece m → ⊥
  never_both apart piece n m a b = let met = firsts_meet piece n m a b in apart met.1.0 met.1.1 met.1.2

pub fault_one : (piece : List ℕ) (e f : LogError) → IsLogFault piece e → IsLogFault piece f → e ≢ Memory → f ≢ Memory → e ≡ f
fault_one piece Memory f x y some some' = absurd (some refl)
fault_one piece (Fields n) Memory x y some some' = absurd (some' refl)
fault_one piece (Stamp n) Memory x y some some' = absurd (some' refl)
fault_one piece (Kind n) Memory x y some some' = absurd (some' refl)
fault_one piece (Text n) Memory x y some some' = absurd (some' refl)
fault_one piece (Fields n) (Fields m) x y some some' = ap Fields (firsts_meet LacksFields LacksFields fields_no_row fields_no_row piece n m x y).0
fault_one piece (Stamp n) (Stamp m) x y some some' = ap Stamp (firsts_meet LacksStamp LacksStamp stamp_no_row stamp_no_row piece n m x y).0
fault_one piece (Kind n) (Kind m) x y some some' = ap Kind (firsts_meet LacksKind LacksKind kind_no_row kind_no_row piece n m x y).0
fault_one piece (Text n) (Text m) x y some some' = ap Text (firsts_meet LacksTexts LacksTexts texts_no_row texts_no_row piece n m x y).0
fault_one piece (Fields n) (Stamp m) x y some some' = absurd (never_both LacksFields LacksStamp fields_no_row stamp_no_row fields_stamp piece n m x y)
fault_one piece (Fields n) (Kind m) x y some some' = absurd (never_both LacksFields LacksKind fields_no_row kind_no_row fields_kind piece n m x y)
fault_one piece (Fields n) (Text m) x y some some' = absurd (never_both LacksFields LacksTexts fields_no_row texts_no_row fields_texts piece n m x y)
fault_one piece (Stamp n) (Kind m) x y some some' = absurd (never_both LacksStamp LacksKind stamp_no_row kind_no_row stamp_kind piece n m x y)
fault_one piece (Stamp n) (Text m) x y some some' = absurd (never_both LacksStamp LacksTexts stamp_no_row texts_no_row stamp_texts piece n m x y)
fault_one piece (Kind n) (Text m) x y some some' = absurd (never_both LacksKind LacksTexts kind_no_row texts_no_row kind_texts piece n m x y)
fault_one piece (Stamp n) (Fields m) x y some some' = absurd (never_both LacksFields LacksStamp fields_no_row stamp_no_row fields_stamp piece m n y x)
fault_one piece (Kind n) (Fields m) x y some some' = absurd (never_both LacksFields LacksKind fields_no_row kind_no_row fields_kind piece m n y x)
fault_one piece (Text n) (Fields m) x y some some' = absurd (never_both LacksFields LacksTexts fields_no_row texts_no_row fields_texts piece m n y x)
fault_one piece (Kind n) (Stamp m) x y some some' = absurd (never_both LacksStamp LacksKind stamp_no_row kind_no_row stamp_kind piece m n y x)
fault_one piece (Text n) (Stamp m) x y some some' = absurd (never_both LacksStamp LacksTexts stamp_no_row texts_no_row stamp_texts piece m n y x)
fault_one piece (Text n) (Kind m) x y some some' = absurd (never_both LacksKind LacksTexts kind_no_row texts_no_row kind_texts piece m n y x)

-- rows leave no record that lacks something
rows_no_first : (Lacks : List (List ℕ) → Type 0) → NoRow Lacks → (piece : List ℕ) (rows : List Row) (n : ℕ) → AreRows (records_of piece) rows → IsFirstFaulty Lacks piece n → ⊥
rows_no_first Lacks no_row piece rows n are first =
    let row = row_among first.before first.after first.fields rows (subst (λ (given : List (List (List ℕ))). AreRows given rows) first.are are) in
    no_row first.fields row.0 first.lacks row.1

pub rows_or_fault : (piece : List ℕ) (rows : List Row) (e : LogError) → AreRows (records_of piece) rows → IsLogFault piece e → e ≡ Memory
rows_or_fault piece rows (Fields n) are first = absurd (rows_no_first LacksFields fields_no_row piece rows n are first)
rows_or_fault piece rows (Stamp n) are first = absurd (rows_no_first LacksStamp stamp_no_row piece rows n are first)
rows_or_fault piece rows (Kind n) are first = absurd (rows_no_first LacksKind kind_no_row piece rows n are first)
rows_or_fault piece rows (Text n) are first = absurd (rows_no_first LacksTexts texts_no_row piece rows n are first)
rows_or_fault piece rows Memory are first = refl
