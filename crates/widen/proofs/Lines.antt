-- A line of a widening is told by its words.
use Rattle.std.proofs.Common.{◌≡◌, ◌⊎◌, inl, inr, ℕ, List, [], ◌∷◌, get_or, Option, Some, None, codes, refl, sym, ap, arith}
use Rattle.atto.specs.Decimal.{decimal_of}
use Rattle.atto.proofs.OneSpelling.{decimal_of_injective}
use Rattle.atto.proofs.Reading.{decimal_of-digits, decimal_of-nonempty}
use Rattle.line_format.specs.Words.{words}
use Rattle.line_format.specs.Cut.{Lacks}
use Rattle.line_format.proofs.Lacking.{lacks_test, words_lack}
use Rattle.cert.specs.declared.kinds.Side.TheVariants.{Upper, Lower}
use Rattle.cert.specs.CertificateFormat.{CertLine, cert_words}
use Rattle.cert.specs.CertificateFormat.CertLine.{CycleLine, RunLine, EndsLine, SideLine, StepLine, InsideLine, NodeLine}
use Rattle.cert.specs.CertificateFormat.NamedBound.{Span, Stamp, Follow, Delay}
use Rattle.cert.specs.ExecutionFormat.ExecutionLine.{EventLine, ReadingLine, EndLine}
use Rattle.cert.proofs.Lacking.{decimal_lacks}
use Rattle.cert.proofs.CertLines.{AllLack, cert_lacks, cert_line_one, words_same}
use Rattle.widen.specs.Named.{AreStated}
use Rattle.widen.specs.WideningText.{least_word, least_words}
use Rattle.widen.specs.WideningFormat.{WideningLine, line_words, IsSpelled}
use Rattle.widen.specs.WideningFormat.WideningLine.{LeastLine, PartLine}
use Rattle.widen.proofs.Naming.{stated_lacks}

-- ---- lines lack line feeds
pub word_lacks : (d : ℕ) (extra : Option ℕ) → (d ≡ 10) ⊎ (d ≡ 32) → Lacks d (least_word extra)
word_lacks d None (inl is) = rw is (lacks_test 10 (codes "none") refl)
word_lacks d None (inr is) = rw is (lacks_test 32 (codes "none") refl)
word_lacks d (Some e) (inl is) = decimal_lacks d e (omega (arith, is))
word_lacks d (Some e) (inr is) = decimal_lacks d e (omega (arith, is))

pub least_lacks : (d : ℕ) (extra : Option ℕ) (named : List (List ℕ)) → (d ≡ 10) ⊎ (d ≡ 32) → AreStated named → AllLack d (least_words extra named)
least_lacks d extra named (inl is) stated = (rw is (lacks_test 10 (codes "least") refl), (word_lacks d extra (inl is), stated_lacks d named (inl is) stated))
least_lacks d extra named (inr is) stated = (rw is (lacks_test 32 (codes "least") refl), (word_lacks d extra (inr is), stated_lacks d named (inr is) stated))

pub widening_lacks : (line : WideningLine) → IsSpelled line → Lacks 10 (words (line_words line))
widening_lacks (LeastLine extra named) spelled = words_lack (least_words extra named) (least_lacks 10 extra named (inl refl) spelled)
widening_lacks (PartLine line) spelled = cert_lacks line spelled

-- ---- the line of the widening
word_at : ℕ → List (List ℕ) → List ℕ
word_at n ws = get_or ws n []

not_none : (e : ℕ) → codes "none" ≡ decimal_of e → ⊥
not_none e is =
    let some = decimal_of-nonempty e in
    let digit = decimal_of-digits e 0 some in
    let first : 110 ≡ get_or (decimal_of e) 0 0 = ap (λ xs. get_or xs 0 0) is in
    omega (arith, first, digit.1)

pub word_one : (a b : Option ℕ) → least_word a ≡ least_word b → a ≡ b
word_one None None is = refl
word_one None (Some e) is = absurd (not_none e is)
word_one (Some e) None is = absurd (not_none e (sym is))
word_one (Some e) (Some f) is = ap Some (decimal_of_injective e f is)

behind_two : List (List ℕ) → List (List ℕ)
behind_two (a ∷ b ∷ ws) = ws
behind_two _ = []

pub least_one : (a b : Option ℕ) (v w : List (List ℕ)) → AreStated v → AreStated w → words (least_words a v) ≡ words (least_words b w) → (a ≡ b) × (v ≡ w)
unfolding word_at behind_two
least_one a b v w x y is =
    let same : least_words a v ≡ least_words b w = words_same (codes "least") (least_word a ∷ v) (codes "least") (least_word b ∷ w) (least_lacks 32 a v (inr refl) x) (least_lacks 32 b w (inr refl) y) is in
    (word_one a b (ap (word_at 1) same), ap behind_two same)

line_same : (a b : Option ℕ) (v w : List (List ℕ)) → a ≡ b → v ≡ w → LeastLine a v ≡ LeastLine b w
line_same a b v w x y = cc

-- ---- the forms
byte_at : ℕ → List ℕ → ℕ
byte_at n text = get_or text n 0

not_part : (extra : Option ℕ) (named : List (List ℕ)) (line : CertLine) → words (least_words extra named) ≡ words (cert_words line) → ⊥
unfolding byte_at
not_part extra named CycleLine is = let h = ap (byte_at 0) is in omega (arith, h)
not_part extra named RunLine is = let h = ap (byte_at 0) is in omega (arith, h)
not_part extra named (EndsLine a b) is = let h = ap (byte_at 0) is in omega (arith, h)
not_part extra named (SideLine Upper v) is = let h = ap (byte_at 0) is in omega (arith, h)
not_part extra named (SideLine Lower v) is = let h = ap (byte_at 1) is in omega (arith, h)
not_part extra named (StepLine (Span e clock s t) z) is = let h = ap (byte_at 0) is in omega (arith, h)
not_part extra named (StepLine (Stamp k event) z) is = let h = ap (byte_at 0) is in omega (arith, h)
not_part extra named (StepLine (Follow earlier s later t) z) is = let h = ap (byte_at 0) is in omega (arith, h)
not_part extra named (StepLine (Delay e send receive) z) is = let h = ap (byte_at 0) is in omega (arith, h)
not_part extra named (InsideLine clock) is = let h = ap (byte_at 0) is in omega (arith, h)
not_part extra named (NodeLine (EventLine name z)) is = let h = ap (byte_at 0) is in omega (arith, h)
not_part extra named (NodeLine (ReadingLine clock m z)) is = let h = ap (byte_at 0) is in omega (arith, h)
not_part extra named (NodeLine EndLine) is = let h = ap (byte_at 0) is in omega (arith, h)

pub widening_line_one : (a b : WideningLine) → IsSpelled a → IsSpelled b → words (line_words a) ≡ words (line_words b) → a ≡ b
widening_line_one (LeastLine a v) (LeastLine b w) x y is = let one = least_one a b v w x y is in line_same a b v w one.0 one.1
widening_line_one (PartLine a) (PartLine b) x y is = ap PartLine (cert_line_one a b x y is)
widening_line_one (LeastLine a v) (PartLine b) x y is = absurd (not_part a v b is)
widening_line_one (PartLine a) (LeastLine b w) x y is = absurd (not_part b w a (sym is))
