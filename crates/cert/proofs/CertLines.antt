-- A line of a certificate is told by its words.
use Rattle.std.proofs.Common.{◌≡◌, ◌≤◌, ◌/◌, ◌%◌, ℕ, suc, List, [], ◌∷◌, ◌++◌, length, get_or, true, cond, nat_eq, nat_le, Option, Some, None, codes, refl, sym, ◌∙◌, ap, arith, ℤ, pos, negsuc}
use Rattle.std.specs.List.{AllByRecursion, list_all}
use Rattle.std.proofs.Math.ListN.{get_or-append}
use Rattle.atto.specs.Decimal.{decimal_of}
use Rattle.atto.specs.NsText.{ns_text, unsigned_ns_text, last_digits}
use Rattle.atto.proofs.OneSpelling.{decimal_of_injective}
use Rattle.atto.proofs.Reading.{decimal_of-digits, decimal_of-nonempty}
use Rattle.atto.proofs.Signs.{ns_text_injective}
use Rattle.line_format.specs.Words.{words}
use Rattle.line_format.specs.Cut.{cut, Lacks}
use Rattle.line_format.proofs.Cutting.{cut_again, cut_lacks}
use Rattle.line_format.proofs.Lacking.{lacks_test, words_lack}
use Rattle.problem_model.specs.Name.{IsEventName, IsClockName}
use Rattle.cert.specs.declared.kinds.Extreme.{Extreme}
use Rattle.cert.specs.declared.kinds.Extreme.TheVariants.{Most, Least}
use Rattle.cert.specs.declared.kinds.StampBound.{StampBound}
use Rattle.cert.specs.declared.kinds.StampBound.TheVariants.{Late, Early}
use Rattle.cert.specs.declared.kinds.Side.{Side}
use Rattle.cert.specs.declared.kinds.Side.TheVariants.{Upper, Lower}
use Rattle.cert.specs.ExecutionFormat.ExecutionLine.{EventLine, ReadingLine, EndLine}
use Rattle.cert.specs.CertificateFormat.{CertLine, NamedBound, cert_words, named_words, span_word, stamp_word, delay_word, side_word, unlimited_word, limit_word, IsSpelled, IsBoundSpelled}
use Rattle.cert.specs.CertificateFormat.CertLine.{CycleLine, RunLine, EndsLine, SideLine, StepLine, InsideLine, NodeLine}
use Rattle.cert.specs.CertificateFormat.NamedBound.{Span, Stamp, Follow, Delay}
use Rattle.cert.proofs.Forms.{line_lacks, one_line}
use Rattle.cert.proofs.Lacking.{clock_name_lacks, event_name_lacks, decimal_lacks, ns_lacks}

-- ---- words lack spaces and line feeds
-- of a word that is written out: by refl
high_test : (d : ℕ) (bytes : List ℕ) → d ≤ 32 → list_all (λ b. nat_le 33 b) bytes ≡ true → Lacks d bytes
high_test d [] low e = tt
high_test d (x ∷ xs) low e = (grind (arith, e, low), high_test d xs low (grind (arith, e)))

abbrev pub AllLack : ℕ → List (List ℕ) → Type 0
AllLack d ws = AllByRecursion (Lacks d) ws

pub span_lacks : (d : ℕ) (e : Extreme) → d ≤ 32 → Lacks d (span_word e)
span_lacks d Most low = high_test d (codes "span-most") low refl
span_lacks d Least low = high_test d (codes "span-least") low refl

pub stamp_lacks : (d : ℕ) (k : StampBound) → d ≤ 32 → Lacks d (stamp_word k)
stamp_lacks d Late low = high_test d (codes "late") low refl
stamp_lacks d Early low = high_test d (codes "early") low refl

pub follow_lacks : (d : ℕ) → d ≤ 32 → Lacks d (codes "follow")
follow_lacks d low = high_test d (codes "follow") low refl

pub delay_lacks : (d : ℕ) (e : Extreme) → d ≤ 32 → Lacks d (delay_word e)
delay_lacks d Most low = high_test d (codes "delay-most") low refl
delay_lacks d Least low = high_test d (codes "delay-least") low refl

pub step_words_lack : (d : ℕ) (n : NamedBound) (z : ℤ) → d ≤ 32 → IsBoundSpelled n → AllLack d (cert_words (StepLine n z))
step_words_lack d (Span e clock s t) z low spelled =
    (high_test d (codes "step") low refl, (span_lacks d e low, (clock_name_lacks d clock low spelled, (decimal_lacks d s low, (decimal_lacks d t low, (ns_lacks d z low, tt))))))
step_words_lack d (Stamp k event) z low spelled =
    (high_test d (codes "step") low refl, (stamp_lacks d k low, (event_name_lacks d event low spelled, (ns_lacks d z low, tt))))
step_words_lack d (Follow earlier s later t) z low spelled =
    (high_test d (codes "step") low refl, (follow_lacks d low, (clock_name_lacks d earlier low spelled.0, (decimal_lacks d s low, (clock_name_lacks d later low spelled.1, (decimal_lacks d t low, (ns_lacks d z low, tt)))))))
step_words_lack d (Delay e send receive) z low spelled =
    (high_test d (codes "step") low refl, (delay_lacks d e low, (event_name_lacks d send low spelled.0, (event_name_lacks d receive low spelled.1, (ns_lacks d z low, tt)))))

limit_lacks : (d : ℕ) (side : Side) (v : Option ℤ) → d ≤ 32 → Lacks d (limit_word side v)
limit_lacks d Upper None low = high_test d (codes "+inf") low refl
limit_lacks d Lower None low = high_test d (codes "-inf") low refl
limit_lacks d side (Some z) low = ns_lacks d z low

pub side_lacks : (d : ℕ) (side : Side) → d ≤ 32 → Lacks d (side_word side)
side_lacks d Upper low = high_test d (codes "upper") low refl
side_lacks d Lower low = high_test d (codes "lower") low refl

pub side_words_lack : (d : ℕ) (side : Side) (v : Option ℤ) → d ≤ 32 → AllLack d (cert_words (SideLine side v))
side_words_lack d side v low = (side_lacks d side low, (limit_lacks d side v low, tt))

pub ends_words_lack : (d : ℕ) (p q : List ℕ) → d ≤ 32 → IsEventName p → IsEventName q → AllLack d (cert_words (EndsLine p q))
ends_words_lack d p q low x y = (high_test d (codes "ends") low refl, (event_name_lacks d p low x, (event_name_lacks d q low y, tt)))

pub inside_words_lack : (d : ℕ) (c : List ℕ) → d ≤ 32 → IsClockName c → AllLack d (cert_words (InsideLine c))
inside_words_lack d c low named = (high_test d (codes "inside") low refl, (clock_name_lacks d c low named, tt))

pub cert_lacks : (line : CertLine) → IsSpelled line → Lacks 10 (words (cert_words line))
cert_lacks CycleLine spelled = lacks_test 10 (codes "cycle") refl
cert_lacks RunLine spelled = lacks_test 10 (codes "run") refl
cert_lacks (EndsLine p q) spelled = words_lack (cert_words (EndsLine p q)) (ends_words_lack 10 p q (omega arith) spelled.0 spelled.1)
cert_lacks (SideLine side v) spelled = words_lack (cert_words (SideLine side v)) (side_words_lack 10 side v (omega arith))
cert_lacks (StepLine n z) spelled = words_lack (cert_words (StepLine n z)) (step_words_lack 10 n z (omega arith) spelled)
cert_lacks (InsideLine c) spelled = words_lack (cert_words (InsideLine c)) (inside_words_lack 10 c (omega arith) spelled)
cert_lacks (NodeLine line) spelled = line_lacks line spelled

-- ---- a line of words that lack spaces tells the words
cut_first : Option (List ℕ × List ℕ) → List ℕ
cut_first None = []
cut_first (Some p) = p.0

cut_rest : Option (List ℕ × List ℕ) → List ℕ
cut_rest None = []
cut_rest (Some p) = p.1

both_cut : (a b m n : List ℕ) → Lacks 32 a → Lacks 32 b → a ++ 32 ∷ m ≡ b ++ 32 ∷ n → (a ≡ b) × (m ≡ n)
unfolding cut_first cut_rest
both_cut a b m n x y is =
    let e = sym (cut_again 32 a m x) ∙ ap (cut 32) is ∙ cut_again 32 b n y in
    (ap cut_first e, ap cut_rest e)

one_cut : (a b n : List ℕ) → Lacks 32 a → Lacks 32 b → a ≡ b ++ 32 ∷ n → ⊥
one_cut a b n x y is = let e = sym (cut_lacks 32 a x) ∙ ap (cut 32) is ∙ cut_again 32 b n y in cc

pub words_same : (w : List ℕ) (ws : List (List ℕ)) (v : List ℕ) (vs : List (List ℕ)) → AllLack 32 (w ∷ ws) → AllLack 32 (v ∷ vs) → words (w ∷ ws) ≡ words (v ∷ vs) → w ∷ ws ≡ v ∷ vs
words_same w [] v [] a b is = ap (λ (x : List ℕ). x ∷ []) is
words_same w [] v (y ∷ vs) a b is = absurd (one_cut w v (words (y ∷ vs)) a.0 b.0 is)
words_same w (x ∷ ws) v [] a b is = absurd (one_cut v w (words (x ∷ ws)) b.0 a.0 (sym is))
words_same w (x ∷ ws) v (y ∷ vs) a b is =
    let parts = both_cut w v (words (x ∷ ws)) (words (y ∷ vs)) a.0 b.0 is in
    let rest = words_same x ws y vs a.1 b.1 parts.1 in
    ap (λ (u : List ℕ). u ∷ x ∷ ws) parts.0 ∙ ap (λ (us : List (List ℕ)). v ∷ us) rest

word_at : ℕ → List (List ℕ) → List ℕ
word_at n ws = get_or ws n []

-- ---- steps
span_one : (e e' : Extreme) → span_word e ≡ span_word e' → e ≡ e'
span_one Most Most is = refl
span_one Least Least is = refl
span_one Most Least is = absurd (let h = ap (λ xs. get_or xs 5 0) is in omega (arith, h))
span_one Least Most is = absurd (let h = ap (λ xs. get_or xs 5 0) is in omega (arith, h))

stamp_one : (k k' : StampBound) → stamp_word k ≡ stamp_word k' → k ≡ k'
stamp_one Late Late is = refl
stamp_one Early Early is = refl
stamp_one Late Early is = absurd (let h = ap (λ xs. get_or xs 0 0) is in omega (arith, h))
stamp_one Early Late is = absurd (let h = ap (λ xs. get_or xs 0 0) is in omega (arith, h))

delay_one : (e e' : Extreme) → delay_word e ≡ delay_word e' → e ≡ e'
delay_one Most Most is = refl
delay_one Least Least is = refl
delay_one Most Least is = absurd (let h = ap (λ xs. get_or xs 6 0) is in omega (arith, h))
delay_one Least Most is = absurd (let h = ap (λ xs. get_or xs 6 0) is in omega (arith, h))

span_same : (e e' : Extreme) (c c' : List ℕ) (s s' t t' : ℕ) → e ≡ e' → c ≡ c' → s ≡ s' → t ≡ t' → Span e c s t ≡ Span e' c' s' t'
span_same e e' c c' s s' t t' a b x y = cc

follow_same : (c c' d d' : List ℕ) (s s' t t' : ℕ) → c ≡ c' → s ≡ s' → d ≡ d' → t ≡ t' → Follow c s d t ≡ Follow c' s' d' t'
follow_same c c' d d' s s' t t' a x b y = cc

step_same : (n n' : NamedBound) (z z' : ℤ) → n ≡ n' → z ≡ z' → StepLine n z ≡ StepLine n' z'
step_same n n' z z' a b = cc

step_one : (n n' : NamedBound) (z z' : ℤ) → cert_words (StepLine n z) ≡ cert_words (StepLine n' z') → StepLine n z ≡ StepLine n' z'
unfolding word_at
step_one (Span e c s t) (Span e' c' s' t') z z' is =
    step_same _ _ z z' (span_same e e' c c' s s' t t' (span_one e e' (ap (word_at 1) is)) (ap (word_at 2) is) (decimal_of_injective s s' (ap (word_at 3) is)) (decimal_of_injective t t' (ap (word_at 4) is))) (ns_text_injective z z' (ap (word_at 5) is))
step_one (Stamp k v) (Stamp k' v') z z' is = rw (stamp_one k k' (ap (word_at 1) is), ap (word_at 2) is, ns_text_injective z z' (ap (word_at 3) is)) refl
step_one (Follow c s d t) (Follow c' s' d' t') z z' is =
    step_same _ _ z z' (follow_same c c' d d' s s' t t' (ap (word_at 2) is) (decimal_of_injective s s' (ap (word_at 3) is)) (ap (word_at 4) is) (decimal_of_injective t t' (ap (word_at 5) is))) (ns_text_injective z z' (ap (word_at 6) is))
step_one (Delay e v w) (Delay e' v' w') z z' is = rw (delay_one e e' (ap (word_at 1) is), ap (word_at 2) is, ap (word_at 3) is, ns_text_injective z z' (ap (word_at 4) is)) refl
step_one (Span e c s t) (Stamp k' v') z z' is = absurd (let h = ap length is in omega (arith, h))
step_one (Span e c s t) (Delay e' v' w') z z' is = absurd (let h = ap length is in omega (arith, h))
step_one (Stamp k v) (Span e' c' s' t') z z' is = absurd (let h = ap length is in omega (arith, h))
step_one (Stamp k v) (Delay e' v' w') z z' is = absurd (let h = ap length is in omega (arith, h))
step_one (Span e c s t) (Follow c' s' d' t') z z' is = absurd (let h = ap length is in omega (arith, h))
step_one (Stamp k v) (Follow c' s' d' t') z z' is = absurd (let h = ap length is in omega (arith, h))
step_one (Follow c s d t) (Span e' c' s' t') z z' is = absurd (let h = ap length is in omega (arith, h))
step_one (Follow c s d t) (Stamp k' v') z z' is = absurd (let h = ap length is in omega (arith, h))
step_one (Follow c s d t) (Delay e' v' w') z z' is = absurd (let h = ap length is in omega (arith, h))
step_one (Delay e v w) (Follow c' s' d' t') z z' is = absurd (let h = ap length is in omega (arith, h))
step_one (Delay e v w) (Span e' c' s' t') z z' is = absurd (let h = ap length is in omega (arith, h))
step_one (Delay e v w) (Stamp k' v') z z' is = absurd (let h = ap length is in omega (arith, h))

-- ---- limits
unsigned_first : (n : ℕ) → (48 ≤ get_or (unsigned_ns_text n) 0 0) × (get_or (unsigned_ns_text n) 0 0 ≤ 57)
unsigned_first n =
    let whole = decimal_of (n / 1000000000) in
    let some = decimal_of-nonempty (n / 1000000000) in
    let digit = decimal_of-digits (n / 1000000000) 0 some in
    let same = get_or-append whole (46 ∷ last_digits 9 (n % 1000000000)) 0 0 some in
    (omega (arith, digit.0, same), omega (arith, digit.1, same))

pub not_unlimited : (side : Side) (z : ℤ) → unlimited_word side ≡ ns_text z → ⊥
not_unlimited Upper (pos n) is = let h = ap (λ xs. get_or xs 0 0) is in let d = unsigned_first n in omega (arith, h, d.0)
not_unlimited Upper (negsuc n) is = let h = ap (λ xs. get_or xs 0 0) is in omega (arith, h)
not_unlimited Lower (pos n) is = let h = ap (λ xs. get_or xs 0 0) is in let d = unsigned_first n in omega (arith, h, d.0)
not_unlimited Lower (negsuc n) is = let h : 105 ≡ get_or (unsigned_ns_text (suc n)) 0 0 = ap (λ xs. get_or xs 1 0) is in let d = unsigned_first (suc n) in omega (arith, h, d.1)

limit_one : (side : Side) (v v' : Option ℤ) → limit_word side v ≡ limit_word side v' → v ≡ v'
limit_one side None None is = refl
limit_one side None (Some z) is = absurd (not_unlimited side z is)
limit_one side (Some z) None is = absurd (not_unlimited side z (sym is))
limit_one side (Some z) (Some z') is = ap Some (ns_text_injective z z' is)

side_one : (side side' : Side) (v v' : Option ℤ) → cert_words (SideLine side v) ≡ cert_words (SideLine side' v') → SideLine side v ≡ SideLine side' v'
unfolding word_at
side_one Upper Upper v v' is = ap (SideLine Upper) (limit_one Upper v v' (ap (word_at 1) is))
side_one Lower Lower v v' is = ap (SideLine Lower) (limit_one Lower v v' (ap (word_at 1) is))
side_one Upper Lower v v' is = absurd (let h = ap (λ xs. get_or (get_or xs 0 []) 0 0) is in omega (arith, h))
side_one Lower Upper v v' is = absurd (let h = ap (λ xs. get_or (get_or xs 0 []) 0 0) is in omega (arith, h))

-- ---- forms
-- the form of a line, by number
tag : CertLine → ℕ
tag CycleLine = 0
tag RunLine = 1
tag (EndsLine p q) = 2
tag (SideLine side v) = 3
tag (StepLine n z) = 4
tag (InsideLine c) = 5
tag (NodeLine l) = 6

-- the same, by the first, second and fourth byte
tag_by : ℕ → ℕ → ℕ → ℕ
tag_by a b d =
    cond (nat_eq a 99) 0 (cond (nat_eq a 115) 4 (cond (nat_eq a 105) 5 (cond (nat_eq a 117) 3 (cond (nat_eq a 108) 3 (cond (nat_eq a 114) (cond (nat_eq b 117) 1 6) (cond (nat_eq d 115) 2 6))))))

tag_of : List ℕ → ℕ
tag_of text = tag_by (get_or text 0 0) (get_or text 1 0) (get_or text 3 0)

tag_is : (line : CertLine) → tag_of (words (cert_words line)) ≡ tag line
unfolding tag tag_by tag_of
tag_is CycleLine = refl
tag_is RunLine = refl
tag_is (EndsLine p q) = refl
tag_is (SideLine Upper v) = refl
tag_is (SideLine Lower v) = refl
tag_is (StepLine (Span e c s t) z) = refl
tag_is (StepLine (Stamp k v) z) = refl
tag_is (StepLine (Follow c s d t) z) = refl
tag_is (StepLine (Delay e v w) z) = refl
tag_is (InsideLine c) = refl
tag_is (NodeLine (EventLine name z)) = refl
tag_is (NodeLine (ReadingLine clock m z)) = refl
tag_is (NodeLine EndLine) = refl

tags_one : (a b : CertLine) → words (cert_words a) ≡ words (cert_words b) → tag a ≡ tag b
tags_one a b is = sym (tag_is a) ∙ ap tag_of is ∙ tag_is b

pub cert_line_one : (a b : CertLine) → IsSpelled a → IsSpelled b → words (cert_words a) ≡ words (cert_words b) → a ≡ b
unfolding tag word_at
cert_line_one CycleLine CycleLine x y is = refl
cert_line_one RunLine RunLine x y is = refl
cert_line_one (EndsLine p q) (EndsLine p' q') x y is =
    let f = words_same (codes "ends") (p ∷ q ∷ []) (codes "ends") (p' ∷ q' ∷ []) (ends_words_lack 32 p q (omega arith) x.0 x.1) (ends_words_lack 32 p' q' (omega arith) y.0 y.1) is in
    rw (ap (word_at 1) f, ap (word_at 2) f) refl
cert_line_one (SideLine side v) (SideLine side' v') x y is =
    side_one side side' v v' (words_same (side_word side) (limit_word side v ∷ []) (side_word side') (limit_word side' v' ∷ []) (side_words_lack 32 side v (omega arith)) (side_words_lack 32 side' v' (omega arith)) is)
cert_line_one (StepLine n z) (StepLine n' z') x y is =
    step_one n n' z z' (words_same (codes "step") (named_words n ++ ns_text z ∷ []) (codes "step") (named_words n' ++ ns_text z' ∷ []) (step_words_lack 32 n z (omega arith) x) (step_words_lack 32 n' z' (omega arith) y) is)
cert_line_one (InsideLine c) (InsideLine c') x y is =
    let f = words_same (codes "inside") (c ∷ []) (codes "inside") (c' ∷ []) (inside_words_lack 32 c (omega arith) x) (inside_words_lack 32 c' (omega arith) y) is in
    ap InsideLine (ap (word_at 1) f)
cert_line_one (NodeLine l) (NodeLine l') x y is = ap NodeLine (one_line l l' x y is)
cert_line_one CycleLine RunLine x y is = absurd (let t = tags_one CycleLine RunLine is in omega (arith, t))
cert_line_one CycleLine (EndsLine p' q') x y is = absurd (let t = tags_one CycleLine (EndsLine p' q') is in omega (arith, t))
cert_line_one CycleLine (SideLine side' v') x y is = absurd (let t = tags_one CycleLine (SideLine side' v') is in omega (arith, t))
cert_line_one CycleLine (StepLine n' z') x y is = absurd (let t = tags_one CycleLine (StepLine n' z') is in omega (arith, t))
cert_line_one CycleLine (InsideLine c') x y is = absurd (let t = tags_one CycleLine (InsideLine c') is in omega (arith, t))
cert_line_one CycleLine (NodeLine l') x y is = absurd (let t = tags_one CycleLine (NodeLine l') is in omega (arith, t))
cert_line_one RunLine CycleLine x y is = absurd (let t = tags_one RunLine CycleLine is in omega (arith, t))
cert_line_one RunLine (EndsLine p' q') x y is = absurd (let t = tags_one RunLine (EndsLine p' q') is in omega (arith, t))
cert_line_one RunLine (SideLine side' v') x y is = absurd (let t = tags_one RunLine (SideLine side' v') is in omega (arith, t))
cert_line_one RunLine (StepLine n' z') x y is = absurd (let t = tags_one RunLine (StepLine n' z') is in omega (arith, t))
cert_line_one RunLine (InsideLine c') x y is = absurd (let t = tags_one RunLine (InsideLine c') is in omega (arith, t))
cert_line_one RunLine (NodeLine l') x y is = absurd (let t = tags_one RunLine (NodeLine l') is in omega (arith, t))
cert_line_one (EndsLine p q) CycleLine x y is = absurd (let t = tags_one (EndsLine p q) CycleLine is in omega (arith, t))
cert_line_one (EndsLine p q) RunLine x y is = absurd (let t = tags_one (EndsLine p q) RunLine is in omega (arith, t))
cert_line_one (EndsLine p q) (SideLine side' v') x y is = absurd (let t = tags_one (EndsLine p q) (SideLine side' v') is in omega (arith, t))
cert_line_one (EndsLine p q) (StepLine n' z') x y is = absurd (let t = tags_one (EndsLine p q) (StepLine n' z') is in omega (arith, t))
cert_line_one (EndsLine p q) (InsideLine c') x y is = absurd (let t = tags_one (EndsLine p q) (InsideLine c') is in omega (arith, t))
cert_line_one (EndsLine p q) (NodeLine l') x y is = absurd (let t = tags_one (EndsLine p q) (NodeLine l') is in omega (arith, t))
cert_line_one (SideLine side v) CycleLine x y is = absurd (let t = tags_one (SideLine side v) CycleLine is in omega (arith, t))
cert_line_one (SideLine side v) RunLine x y is = absurd (let t = tags_one (SideLine side v) RunLine is in omega (arith, t))
cert_line_one (SideLine side v) (EndsLine p' q') x y is = absurd (let t = tags_one (SideLine side v) (EndsLine p' q') is in omega (arith, t))
cert_line_one (SideLine side v) (StepLine n' z') x y is = absurd (let t = tags_one (SideLine side v) (StepLine n' z') is in omega (arith, t))
cert_line_one (SideLine side v) (InsideLine c') x y is = absurd (let t = tags_one (SideLine side v) (InsideLine c') is in omega (arith, t))
cert_line_one (SideLine side v) (NodeLine l') x y is = absurd (let t = tags_one (SideLine side v) (NodeLine l') is in omega (arith, t))
cert_line_one (StepLine n z) CycleLine x y is = absurd (let t = tags_one (StepLine n z) CycleLine is in omega (arith, t))
cert_line_one (StepLine n z) RunLine x y is = absurd (let t = tags_one (StepLine n z) RunLine is in omega (arith, t))
cert_line_one (StepLine n z) (EndsLine p' q') x y is = absurd (let t = tags_one (StepLine n z) (EndsLine p' q') is in omega (arith, t))
cert_line_one (StepLine n z) (SideLine side' v') x y is = absurd (let t = tags_one (StepLine n z) (SideLine side' v') is in omega (arith, t))
cert_line_one (StepLine n z) (InsideLine c') x y is = absurd (let t = tags_one (StepLine n z) (InsideLine c') is in omega (arith, t))
cert_line_one (StepLine n z) (NodeLine l') x y is = absurd (let t = tags_one (StepLine n z) (NodeLine l') is in omega (arith, t))
cert_line_one (InsideLine c) CycleLine x y is = absurd (let t = tags_one (InsideLine c) CycleLine is in omega (arith, t))
cert_line_one (InsideLine c) RunLine x y is = absurd (let t = tags_one (InsideLine c) RunLine is in omega (arith, t))
cert_line_one (InsideLine c) (EndsLine p' q') x y is = absurd (let t = tags_one (InsideLine c) (EndsLine p' q') is in omega (arith, t))
cert_line_one (InsideLine c) (SideLine side' v') x y is = absurd (let t = tags_one (InsideLine c) (SideLine side' v') is in omega (arith, t))
cert_line_one (InsideLine c) (StepLine n' z') x y is = absurd (let t = tags_one (InsideLine c) (StepLine n' z') is in omega (arith, t))
cert_line_one (InsideLine c) (NodeLine l') x y is = absurd (let t = tags_one (InsideLine c) (NodeLine l') is in omega (arith, t))
cert_line_one (NodeLine l) CycleLine x y is = absurd (let t = tags_one (NodeLine l) CycleLine is in omega (arith, t))
cert_line_one (NodeLine l) RunLine x y is = absurd (let t = tags_one (NodeLine l) RunLine is in omega (arith, t))
cert_line_one (NodeLine l) (EndsLine p' q') x y is = absurd (let t = tags_one (NodeLine l) (EndsLine p' q') is in omega (arith, t))
cert_line_one (NodeLine l) (SideLine side' v') x y is = absurd (let t = tags_one (NodeLine l) (SideLine side' v') is in omega (arith, t))
cert_line_one (NodeLine l) (StepLine n' z') x y is = absurd (let t = tags_one (NodeLine l) (StepLine n' z') is in omega (arith, t))
cert_line_one (NodeLine l) (InsideLine c') x y is = absurd (let t = tags_one (NodeLine l) (InsideLine c') is in omega (arith, t))
