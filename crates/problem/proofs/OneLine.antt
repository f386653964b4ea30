-- A line is told by its words.
use Rattle.std.proofs.Common.{◌≡◌, ℕ, List, [], ◌∷◌, ◌++◌, get_or, drop, Option, Some, None, codes, refl, sym, ◌∙◌, ap, subst, arith}
use Rattle.atto.specs.Decimal.{decimal_of}
use Rattle.atto.proofs.OneSpelling.{decimal_of_injective}
use Rattle.atto.proofs.Reading.{decimal_of-digits, decimal_of-nonempty}
use Rattle.line_format.specs.Words.{words}
use Rattle.line_format.specs.Cut.{Lacks, fields}
use Rattle.line_format.proofs.Lacking.{lacks_test, words_lack}
use Rattle.line_format.proofs.Fields.{fields_again}
use Rattle.problem_model.specs.Name.{IsEventName, IsClockName}
use Rattle.problem_model.specs.ProblemText.{most_word}
use Rattle.problem.specs.Line.{Line, line_words, IsSpelled}
use Rattle.problem.specs.Line.Line.{ClockLine, FollowLine, EventLine, OwnLine, MessageLine, EndLine}
use Rattle.problem.specs.Written.{clock_rest, follow_rest, event_rest, own_rest, message_rest}
use Rattle.problem.proofs.Forms.{clock_fields, follow_fields, event_fields, own_fields, message_fields, decimal_lacks, clock_name_lacks, event_name_lacks}

-- ---- a line lacks line feeds
most_lacks : (m : Option ℕ) → Lacks 10 (most_word m)
most_lacks None = lacks_test 10 (codes "none") refl
most_lacks (Some m) = decimal_lacks 10 m (omega arith)

pub line_lacks : (line : Line) → IsSpelled line → Lacks 10 (words (line_words line))
line_lacks (ClockLine name s l e t) spelled = words_lack (codes "clock" ∷ name ∷ decimal_of s ∷ decimal_of l ∷ decimal_of e ∷ decimal_of t ∷ [])
    (lacks_test 10 (codes "clock") refl, (clock_name_lacks 10 name (omega arith) spelled, (decimal_lacks 10 s (omega arith), (decimal_lacks 10 l (omega arith), (decimal_lacks 10 e (omega arith), (decimal_lacks 10 t (omega arith), tt))))))
line_lacks (FollowLine earlier later gap) spelled = words_lack (codes "follow" ∷ earlier ∷ later ∷ decimal_of gap ∷ [])
    (lacks_test 10 (codes "follow") refl, (clock_name_lacks 10 earlier (omega arith) spelled.0, (clock_name_lacks 10 later (omega arith) spelled.1, (decimal_lacks 10 gap (omega arith), tt))))
line_lacks (EventLine name clock stamp) spelled = words_lack (codes "event" ∷ name ∷ clock ∷ decimal_of stamp ∷ [])
    (lacks_test 10 (codes "event") refl, (event_name_lacks 10 name (omega arith) spelled.0, (clock_name_lacks 10 clock (omega arith) spelled.1, (decimal_lacks 10 stamp (omega arith), tt))))
line_lacks (OwnLine name clock stamp early late) spelled = words_lack (codes "event" ∷ name ∷ clock ∷ decimal_of stamp ∷ decimal_of early ∷ decimal_of late ∷ [])
    (lacks_test 10 (codes "event") refl, (event_name_lacks 10 name (omega arith) spelled.0, (clock_name_lacks 10 clock (omega arith) spelled.1, (decimal_lacks 10 stamp (omega arith), (decimal_lacks 10 early (omega arith), (decimal_lacks 10 late (omega arith), tt))))))
line_lacks (MessageLine send receive least most) spelled = words_lack (codes "message" ∷ send ∷ receive ∷ decimal_of least ∷ most_word most ∷ [])
    (lacks_test 10 (codes "message") refl, (event_name_lacks 10 send (omega arith) spelled.0, (event_name_lacks 10 receive (omega arith) spelled.1, (decimal_lacks 10 least (omega arith), (most_lacks most, tt)))))
line_lacks EndLine spelled = lacks_test 10 (codes "end") refl

-- ---- two lines of the same words are one
not_none : (n : ℕ) → codes "none" ≡ decimal_of n → ⊥
not_none n is =
    let digit = (decimal_of-digits n 0 (decimal_of-nonempty n)).1 in
    let h : 110 ≡ get_or (decimal_of n) 0 0 = ap (λ xs. get_or xs 0 0) is in omega (arith, h, digit)

most_one : (m n : Option ℕ) → most_word m ≡ most_word n → m ≡ n
most_one None None is = refl
most_one None (Some n) is = absurd (not_none n is)
most_one (Some m) None is = absurd (not_none m (sym is))
most_one (Some m) (Some n) is = ap Some (decimal_of_injective m n is)

clock_same : (a b : List ℕ) (s s' l l' e e' t t' : ℕ) → a ≡ b → s ≡ s' → l ≡ l' → e ≡ e' → t ≡ t' → ClockLine a s l e t ≡ ClockLine b s' l' e' t'
clock_same a b s s' l l' e e' t t' p q r x y = cc

own_same : (a b c d : List ℕ) (s s' e e' t t' : ℕ) → a ≡ b → c ≡ d → s ≡ s' → e ≡ e' → t ≡ t' → OwnLine a c s e t ≡ OwnLine b d s' e' t'
own_same a b c d s s' e e' t t' p q r x y = cc

some_list : (xs ys : List (List ℕ)) → Some xs ≡ Some ys → xs ≡ ys
some_list xs ys e = cc

-- words of which the second is not empty hold a space, and a number holds none
no_space : (n : ℕ) (first more : List ℕ) → decimal_of n ≡ first ++ 32 ∷ more → ⊥
no_space n first more is = spaced first (subst (Lacks 32) is (decimal_lacks 32 n (omega arith)))
  where
    spaced : (first : List ℕ) → Lacks 32 (first ++ 32 ∷ more) → ⊥
    spaced [] lacks = lacks.0 refl
    spaced (x ∷ first) lacks = spaced first lacks.1

-- three words are no five of which the last three are numbers
three_not_five : (a b c d : List ℕ) (s s' e t : ℕ) → IsEventName a → IsClockName c → IsEventName b → IsClockName d → event_rest a c s ≡ own_rest b d s' e t → ⊥
three_not_five a b c d s s' e t named clock_named named' clock_named' is =
    let three = event_fields (event_rest a c s) a c s named clock_named refl in
    let five = fields_again 2 (b ∷ d ∷ words (decimal_of s' ∷ decimal_of e ∷ decimal_of t ∷ []) ∷ []) refl (event_name_lacks 32 b (omega arith) named', (clock_name_lacks 32 d (omega arith) clock_named', tt)) in
    let f = some_list _ _ (sym three ∙ ap (fields 2) is ∙ five) in
    no_space s (decimal_of s') (words (decimal_of e ∷ decimal_of t ∷ [])) (ap (λ ws. get_or ws 2 []) f)

word_at : ℕ → List (List ℕ) → List ℕ
word_at n ws = get_or ws n []

pub words_one : (l l' : Line) → IsSpelled l → IsSpelled l' → words (line_words l) ≡ words (line_words l') → l ≡ l'
unfolding word_at
words_one (ClockLine a s l e t) (ClockLine b s' l' e' t') x y is =
    let f = some_list _ _ (sym (clock_fields (clock_rest a s l e t) a s l e t x refl) ∙ clock_fields (clock_rest a s l e t) b s' l' e' t' y (ap (drop 6) is)) in
    clock_same a b s s' l l' e e' t t' (ap (word_at 0) f) (decimal_of_injective s s' (ap (word_at 1) f)) (decimal_of_injective l l' (ap (word_at 2) f)) (decimal_of_injective e e' (ap (word_at 3) f)) (decimal_of_injective t t' (ap (word_at 4) f))
words_one (FollowLine a c s) (FollowLine b d s') x y is =
    let f = some_list _ _ (sym (follow_fields (follow_rest a c s) a c s x.0 x.1 refl) ∙ follow_fields (follow_rest a c s) b d s' y.0 y.1 (ap (drop 7) is)) in
    rw (ap (word_at 0) f, ap (word_at 1) f, decimal_of_injective s s' (ap (word_at 2) f)) refl
words_one (EventLine a c s) (EventLine b d s') x y is =
    let f = some_list _ _ (sym (event_fields (event_rest a c s) a c s x.0 x.1 refl) ∙ event_fields (event_rest a c s) b d s' y.0 y.1 (ap (drop 6) is)) in
    rw (ap (word_at 0) f, ap (word_at 1) f, decimal_of_injective s s' (ap (word_at 2) f)) refl
words_one (OwnLine a c s e t) (OwnLine b d s' e' t') x y is =
    let f = some_list _ _ (sym (own_fields (own_rest a c s e t) a c s e t x.0 x.1 refl) ∙ own_fields (own_rest a c s e t) b d s' e' t' y.0 y.1 (ap (drop 6) is)) in
    own_same a b c d s s' e e' t t' (ap (word_at 0) f) (ap (word_at 1) f) (decimal_of_injective s s' (ap (word_at 2) f)) (decimal_of_injective e e' (ap (word_at 3) f)) (decimal_of_injective t t' (ap (word_at 4) f))
words_one (EventLine a c s) (OwnLine b d s' e' t') x y is = absurd (three_not_five a b c d s s' e' t' x.0 x.1 y.0 y.1 (ap (drop 6) is))
words_one (OwnLine a c s e t) (EventLine b d s') x y is = absurd (three_not_five b a d c s' s e t y.0 y.1 x.0 x.1 (sym (ap (drop 6) is)))
words_one (MessageLine a c l m) (MessageLine b d l' m') x y is =
    let f = some_list _ _ (sym (message_fields (message_rest a c l m) a c l m x.0 x.1 refl) ∙ message_fields (message_rest a c l m) b d l' m' y.0 y.1 (ap (drop 8) is)) in
    rw (ap (word_at 0) f, ap (word_at 1) f, decimal_of_injective l l' (ap (word_at 2) f), most_one m m' (ap (word_at 3) f)) refl
words_one EndLine EndLine x y is = refl
words_one (ClockLine a s l e t) (FollowLine b d s') x y is = absurd (let h = ap (λ xs. get_or xs 0 0) is in omega (arith, h))
words_one (ClockLine a s l e t) (EventLine b d s') x y is = absurd (let h = ap (λ xs. get_or xs 0 0) is in omega (arith, h))
words_one (ClockLine a s l e t) (MessageLine b d l' m') x y is = absurd (let h = ap (λ xs. get_or xs 0 0) is in omega (arith, h))
words_one (ClockLine a s l e t) EndLine x y is = absurd (let h = ap (λ xs. get_or xs 0 0) is in omega (arith, h))
words_one (FollowLine a c s) (ClockLine b s' l' e' t') x y is = absurd (let h = ap (λ xs. get_or xs 0 0) is in omega (arith, h))
words_one (FollowLine a c s) (EventLine b d s') x y is = absurd (let h = ap (λ xs. get_or xs 0 0) is in omega (arith, h))
words_one (FollowLine a c s) (MessageLine b d l' m') x y is = absurd (let h = ap (λ xs. get_or xs 0 0) is in omega (arith, h))
words_one (FollowLine a c s) EndLine x y is = absurd (let h = ap (λ xs. get_or xs 0 0) is in omega (arith, h))
words_one (EventLine a c s) (ClockLine b s' l' e' t') x y is = absurd (let h = ap (λ xs. get_or xs 0 0) is in omega (arith, h))
words_one (EventLine a c s) (FollowLine b d s') x y is = absurd (let h = ap (λ xs. get_or xs 0 0) is in omega (arith, h))
words_one (EventLine a c s) (MessageLine b d l' m') x y is = absurd (let h = ap (λ xs. get_or xs 0 0) is in omega (arith, h))
words_one (EventLine a c s) EndLine x y is = absurd (let h = ap (λ xs. get_or xs 1 0) is in omega (arith, h))
words_one (MessageLine a c l m) (ClockLine b s' l' e' t') x y is = absurd (let h = ap (λ xs. get_or xs 0 0) is in omega (arith, h))
words_one (MessageLine a c l m) (FollowLine b d s') x y is = absurd (let h = ap (λ xs. get_or xs 0 0) is in omega (arith, h))
words_one (MessageLine a c l m) (EventLine b d s') x y is = absurd (let h = ap (λ xs. get_or xs 0 0) is in omega (arith, h))
words_one (MessageLine a c l m) EndLine x y is = absurd (let h = ap (λ xs. get_or xs 0 0) is in omega (arith, h))
words_one EndLine (ClockLine b s' l' e' t') x y is = absurd (let h = ap (λ xs. get_or xs 0 0) is in omega (arith, h))
words_one EndLine (FollowLine b d s') x y is = absurd (let h = ap (λ xs. get_or xs 0 0) is in omega (arith, h))
words_one EndLine (EventLine b d s') x y is = absurd (let h = ap (λ xs. get_or xs 1 0) is in omega (arith, h))
words_one EndLine (MessageLine b d l' m') x y is = absurd (let h = ap (λ xs. get_or xs 0 0) is in omega (arith, h))
words_one (ClockLine a s l e t) (OwnLine b d s' e' t') x y is = absurd (let h = ap (λ xs. get_or xs 0 0) is in omega (arith, h))
words_one (FollowLine a c s) (OwnLine b d s' e' t') x y is = absurd (let h = ap (λ xs. get_or xs 0 0) is in omega (arith, h))
words_one (MessageLine a c l m) (OwnLine b d s' e' t') x y is = absurd (let h = ap (λ xs. get_or xs 0 0) is in omega (arith, h))
words_one EndLine (OwnLine b d s' e' t') x y is = absurd (let h = ap (λ xs. get_or xs 1 0) is in omega (arith, h))
words_one (OwnLine a c s e t) (ClockLine b s' l' e' t') x y is = absurd (let h = ap (λ xs. get_or xs 0 0) is in omega (arith, h))
words_one (OwnLine a c s e t) (FollowLine b d s') x y is = absurd (let h = ap (λ xs. get_or xs 0 0) is in omega (arith, h))
words_one (OwnLine a c s e t) (MessageLine b d l' m') x y is = absurd (let h = ap (λ xs. get_or xs 0 0) is in omega (arith, h))
words_one (OwnLine a c s e t) EndLine x y is = absurd (let h = ap (λ xs. get_or xs 1 0) is in omega (arith, h))
